-- What is no cause: a rule's 0 where no token was seen, no room where the call is no steal, and what an earlier call had noted. Each is so
-- by its definition; here it is said, so that a wider definition is refused.
use Prim.Native.Nat.{ℕ}
use mathlib.Core.Path.{◌≡◌, sym}
use mathlib.Core.Bool.{false, true≢false}
use native.Mathlib.Omega.{arith}
use Rattle.tables.specs.declared.call.Mark.{Mark}
use Rattle.tables.specs.declared.call.Rule.{Rule}
use Rattle.tables.specs.declared.place.BookPlace.{BookPlace}
use Rattle.tables.specs.declared.place.BookingCall.{BookingCall}
use Rattle.tables.specs.declared.place.Destination.{Destination}
use Rattle.tables.specs.declared.place.Place.TheVariants as Place
use Rattle.tables.specs.declared.place.Transfer.TheVariants as Transfer
use Rattle.tables.specs.Tables.{transfer_call}
use Rattle.tables.specs.Causes.{Notes, begun_notes, GaveZero, NoRoom}
use Rattle.tables.proofs.Updates.{update_same}

pub none_seen : (g : BookingCall) (mark : Mark) → GaveZero g mark 0 → ⊥
none_seen g mark c = omega (arith, c.0)

module _ (b : BookPlace) (fill cap : ℕ) where
  pub room_of_take : (source : ℕ) (r : Rule) (d : Destination)
      → NoRoom (Place.Book (BookingCall.Transfer (transfer_call source r Transfer.Take) d) b) fill cap → ⊥
  room_of_take source r d c = true≢false (sym c.0)

  pub room_of_drain : (r : Rule) → NoRoom (Place.Book (BookingCall.Drain r) b) fill cap → ⊥
  room_of_drain r c = true≢false (sym c.0)

pub record Cleared (p : ℕ) (n : Notes) : Type 0 where
  pub first : n.first p ≡ 0
  pub opened : n.opened p ≡ false
  pub fill : n.fill p ≡ 0

pub begun_cleared : (p : ℕ) (n : Notes) → Cleared p (begun_notes p n)
begun_cleared p n = record { first = update_same n.first p 0; opened = update_same n.opened p false; fill = update_same n.fill p 0 }
