-- How many effects a call can still have, from each place on.
use Prim.Native.Nat.{ℕ, ◌≤◌}
use mathlib.Core.Bool.{Bool, true, false}
use native.Mathlib.Omega.{arith}
use Rattle.tables.specs.declared.place.BookingCall.{BookingCall}
use Rattle.tables.specs.declared.place.FifoPlace.{FifoPlace}
use Rattle.tables.specs.declared.place.LifoPlace.{LifoPlace}
use Rattle.tables.specs.declared.place.OwnPlace.{OwnPlace}
use Rattle.tables.specs.declared.place.OwnerCall.{OwnerCall}
use Rattle.tables.specs.declared.place.Place.{Place}
use Rattle.tables.specs.declared.place.RoomCall.{RoomCall}

-- until the answer; tokens dropped one after the other count as one

abbrev pub left_to_fill : OwnerCall → ℕ
left_to_fill (OwnerCall.Push t) = 2
left_to_fill OwnerCall.Extend = 1
left_to_fill OwnerCall.Spare = 0

abbrev pub left_of_job : RoomCall → ℕ
left_of_job (RoomCall.Owner f) = left_to_fill f
left_of_job (RoomCall.Transfer e) = 3

abbrev pub left_at_lifo : LifoPlace → ℕ
left_at_lifo (LifoPlace.LoadPushes j) = left_of_job j
left_at_lifo (LifoPlace.LoadPacked j n) = left_of_job j
left_at_lifo (LifoPlace.LoadCompleted j n p) = left_of_job j
left_at_lifo LifoPlace.PopPacked = 1
left_at_lifo (LifoPlace.PopPushes p) = 1
left_at_lifo (LifoPlace.PopCas p t) = 1
left_at_lifo LifoPlace.EmptyPushes = 0
left_at_lifo (LifoPlace.EmptyPacked n) = 0

abbrev pub left_at_fifo : FifoPlace → ℕ
left_at_fifo (FifoPlace.LoadPacked f) = left_to_fill f
left_at_fifo (FifoPlace.LoadTail f p) = left_to_fill f
left_at_fifo (FifoPlace.DestTail e) = 3
left_at_fifo (FifoPlace.DestPacked e t) = 3
left_at_fifo FifoPlace.PopPacked = 1
left_at_fifo (FifoPlace.PopTail p) = 1
left_at_fifo (FifoPlace.PopCas p) = 1
left_at_fifo FifoPlace.EmptyPacked = 0
left_at_fifo (FifoPlace.EmptyTail p) = 0

abbrev pub left_at_own : OwnPlace → ℕ
left_at_own (OwnPlace.PushWrite t word tail) = 2
left_at_own (OwnPlace.PushStore word) = 1
left_at_own (OwnPlace.ExtendMore pops tail limit written) = 1
left_at_own (OwnPlace.ExtendStore pops tail written) = 1
left_at_own (OwnPlace.PopRead at) = 0
left_at_own OwnPlace.NextItem = 2
left_at_own OwnPlace.DropItem = 2

abbrev pub left_to_book : BookingCall → ℕ
left_to_book (BookingCall.Transfer e d) = 3
left_to_book (BookingCall.Drain r) = 1

abbrev pub left : Place → ℕ
left Place.Idle = 0
left (Place.Lifo p) = left_at_lifo p
left (Place.Fifo p) = left_at_fifo p
left (Place.Own p) = left_at_own p
left (Place.Book g p) = left_to_book g
left (Place.Move p) = 2
left (Place.Close e p) = 1

abbrev pub drops_at_own : OwnPlace → Bool
drops_at_own (OwnPlace.PushWrite t word tail) = false
drops_at_own (OwnPlace.PushStore word) = false
drops_at_own (OwnPlace.ExtendMore pops tail limit written) = false
drops_at_own (OwnPlace.ExtendStore pops tail written) = false
drops_at_own (OwnPlace.PopRead at) = false
drops_at_own OwnPlace.NextItem = false
drops_at_own OwnPlace.DropItem = true

-- the place whose step comes again, with an effect each time
abbrev pub drops_at : Place → Bool
drops_at Place.Idle = false
drops_at (Place.Lifo p) = false
drops_at (Place.Fifo p) = false
drops_at (Place.Own p) = drops_at_own p
drops_at (Place.Book g p) = false
drops_at (Place.Move p) = false
drops_at (Place.Close e p) = false

-- ---- three at the most are left, anywhere

left_to_fill_lem : (f : OwnerCall) → left_to_fill f ≤ 2
left_to_fill_lem (OwnerCall.Push t) = omega arith
left_to_fill_lem OwnerCall.Extend = omega arith
left_to_fill_lem OwnerCall.Spare = omega arith

left_of_job_lem : (j : RoomCall) → left_of_job j ≤ 3
left_of_job_lem (RoomCall.Owner f) = omega (arith, left_to_fill_lem f)
left_of_job_lem (RoomCall.Transfer e) = omega arith

pub left_most : (p : Place) → left p ≤ 3
left_most Place.Idle = omega arith
left_most (Place.Lifo p) = at p
  where
    at : (p : LifoPlace) → left_at_lifo p ≤ 3
    at (LifoPlace.LoadPushes j) = left_of_job_lem j
    at (LifoPlace.LoadPacked j n) = left_of_job_lem j
    at (LifoPlace.LoadCompleted j n q) = left_of_job_lem j
    at LifoPlace.PopPacked = omega arith
    at (LifoPlace.PopPushes q) = omega arith
    at (LifoPlace.PopCas q t) = omega arith
    at LifoPlace.EmptyPushes = omega arith
    at (LifoPlace.EmptyPacked n) = omega arith
left_most (Place.Fifo p) = at p
  where
    at : (p : FifoPlace) → left_at_fifo p ≤ 3
    at (FifoPlace.LoadPacked f) = omega (arith, left_to_fill_lem f)
    at (FifoPlace.LoadTail f q) = omega (arith, left_to_fill_lem f)
    at (FifoPlace.DestTail e) = omega arith
    at (FifoPlace.DestPacked e t) = omega arith
    at FifoPlace.PopPacked = omega arith
    at (FifoPlace.PopTail q) = omega arith
    at (FifoPlace.PopCas q) = omega arith
    at FifoPlace.EmptyPacked = omega arith
    at (FifoPlace.EmptyTail q) = omega arith
left_most (Place.Own p) = at p
  where
    at : (p : OwnPlace) → left_at_own p ≤ 3
    at (OwnPlace.PushWrite t n tail) = omega arith
    at (OwnPlace.PushStore n) = omega arith
    at (OwnPlace.ExtendMore c tail limit j) = omega arith
    at (OwnPlace.ExtendStore c tail j) = omega arith
    at (OwnPlace.PopRead y) = omega arith
    at OwnPlace.NextItem = omega arith
    at OwnPlace.DropItem = omega arith
left_most (Place.Book g p) = at g
  where
    at : (g : BookingCall) → left_to_book g ≤ 3
    at (BookingCall.Transfer e d) = omega arith
    at (BookingCall.Drain r) = omega arith
left_most (Place.Move p) = omega arith
left_most (Place.Close e p) = omega arith
