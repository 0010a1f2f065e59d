-- Which places want a number, a token or end; which are a CAS; that none is both.
use Prim.Native.Nat.{ℕ}
use mathlib.Core.Path.{◌≡◌, refl, sym, ◌∙◌}
use mathlib.Core.Bool.{Bool, true, false, true≢false}
use lib.Dec.{eqb}
use Rattle.words.specs.Word.{pick}
use Rattle.tables.specs.declared.access.Context.{Context}
use Rattle.tables.specs.declared.access.Wish.{Wish}
use Rattle.tables.specs.declared.call.Mark.{Mark}
use Rattle.tables.specs.declared.call.Rule.{Rule}
use Rattle.tables.specs.declared.place.BookPlace.{BookPlace}
use Rattle.tables.specs.declared.place.BookingCall.{BookingCall}
use Rattle.tables.specs.declared.place.ClosePlace.{ClosePlace}
use Rattle.tables.specs.declared.place.FifoPlace.{FifoPlace}
use Rattle.tables.specs.declared.place.LifoPlace.{LifoPlace}
use Rattle.tables.specs.declared.place.MovePlace.{MovePlace}
use Rattle.tables.specs.declared.place.OwnPlace.{OwnPlace}
use Rattle.tables.specs.declared.place.Place.{Place}
use Rattle.tables.specs.Access.{is_cas}
use Rattle.tables.specs.Row.{Row}
use Rattle.tables.specs.Table.{rule_of, extend_row, own_row, move_row}
use Rattle.tables.specs.LifoTable.{lifo_row}
use Rattle.tables.specs.FifoTable.{fifo_row}
use Rattle.tables.specs.Tables.{book_row, close_row, row_of, rule_wish, wish_of, wishes, mark_fits}
use Rattle.tables.proofs.Bools.{pick_if}

-- ---- the CAS places

abbrev pub lifo_cas : LifoPlace → Bool
lifo_cas (LifoPlace.LoadPushes j) = false
lifo_cas (LifoPlace.LoadPacked j n) = false
lifo_cas (LifoPlace.LoadCompleted j n p) = false
lifo_cas LifoPlace.PopPacked = false
lifo_cas (LifoPlace.PopPushes p) = false
lifo_cas (LifoPlace.PopCas p t) = true
lifo_cas LifoPlace.EmptyPushes = false
lifo_cas (LifoPlace.EmptyPacked n) = false

abbrev pub fifo_cas : FifoPlace → Bool
fifo_cas (FifoPlace.LoadPacked f) = false
fifo_cas (FifoPlace.LoadTail f p) = false
fifo_cas (FifoPlace.DestTail e) = false
fifo_cas (FifoPlace.DestPacked e t) = false
fifo_cas FifoPlace.PopPacked = false
fifo_cas (FifoPlace.PopTail p) = false
fifo_cas (FifoPlace.PopCas p) = true
fifo_cas FifoPlace.EmptyPacked = false
fifo_cas (FifoPlace.EmptyTail p) = false

abbrev pub book_cas : BookPlace → Bool
book_cas BookPlace.LifoPacked = false
book_cas (BookPlace.LifoCompleted p) = false
book_cas (BookPlace.LifoPushes p d) = false
book_cas (BookPlace.LifoCas p d k) = true
book_cas BookPlace.FifoPacked = false
book_cas (BookPlace.FifoTail p) = false
book_cas (BookPlace.FifoCas p k) = true

abbrev pub close_cas : ClosePlace → Bool
close_cas (ClosePlace.StoreCompleted head) = false
close_cas ClosePlace.LoadHeads = false
close_cas (ClosePlace.CasHeads p) = true

abbrev pub cas_at : Place → Bool
cas_at Place.Idle = false
cas_at (Place.Lifo p) = lifo_cas p
cas_at (Place.Fifo p) = fifo_cas p
cas_at (Place.Own p) = false
cas_at (Place.Book g p) = book_cas p
cas_at (Place.Move p) = false
cas_at (Place.Close e p) = close_cas p

-- whatever the context
pub cas_places : (w : ℕ) (s : Context) (p : Place) → is_cas (row_of w s p).access ≡ cas_at p
cas_places w s Place.Idle = refl
cas_places w s (Place.Lifo p) = at p
  where
    at : (p : LifoPlace) → is_cas (lifo_row w s p).access ≡ lifo_cas p
    at (LifoPlace.LoadPushes j) = refl
    at (LifoPlace.LoadPacked j n) = refl
    at (LifoPlace.LoadCompleted j n p) = refl
    at LifoPlace.PopPacked = refl
    at (LifoPlace.PopPushes p) = refl
    at (LifoPlace.PopCas p t) = refl
    at LifoPlace.EmptyPushes = refl
    at (LifoPlace.EmptyPacked n) = refl
cas_places w s (Place.Fifo p) = at p
  where
    at : (p : FifoPlace) → is_cas (fifo_row w s p).access ≡ fifo_cas p
    at (FifoPlace.LoadPacked f) = refl
    at (FifoPlace.LoadTail f p) = refl
    at (FifoPlace.DestTail e) = refl
    at (FifoPlace.DestPacked e t) = refl
    at FifoPlace.PopPacked = refl
    at (FifoPlace.PopTail p) = refl
    at (FifoPlace.PopCas p) = refl
    at FifoPlace.EmptyPacked = refl
    at (FifoPlace.EmptyTail p) = refl
cas_places w s (Place.Own p) = at p
  where
    at : (p : OwnPlace) → is_cas (own_row w s p).access ≡ false
    at (OwnPlace.PushWrite t n tail) = refl
    at (OwnPlace.PushStore n) = refl
    at (OwnPlace.ExtendMore c tail limit j) = more s.mark
      where
        more : (m : Mark) → is_cas (extend_row w s m c tail limit j).access ≡ false
        more Mark.Plain = refl
        more Mark.Weak = refl
        more (Mark.Carry t) = refl
        more Mark.End = refl
    at (OwnPlace.ExtendStore c tail j) = refl
    at (OwnPlace.PopRead x) = refl
    at OwnPlace.NextItem = pick_if (λ (r : Row). is_cas r.access ≡ false) (eqb s.drain.at s.drain.end) (λ h. refl) (λ h. refl)
    at OwnPlace.DropItem = pick_if (λ (r : Row). is_cas r.access ≡ false) (eqb s.drain.at s.drain.end) (λ h. refl) (λ h. refl)
cas_places w s (Place.Book g p) = at p
  where
    at : (p : BookPlace) → is_cas (book_row w s g p).access ≡ book_cas p
    at BookPlace.LifoPacked = refl
    at (BookPlace.LifoCompleted p) = refl
    at (BookPlace.LifoPushes p d) = refl
    at (BookPlace.LifoCas p d k) = refl
    at BookPlace.FifoPacked = refl
    at (BookPlace.FifoTail p) = refl
    at (BookPlace.FifoCas p k) = refl
cas_places w s (Place.Move p) = at p
  where
    at : (p : MovePlace) → is_cas (move_row w s p).access ≡ false
    at (MovePlace.ReadSlot t j) = refl
    at (MovePlace.WriteSlot t j x) = refl
    at (MovePlace.Land t x) = refl
cas_places w s (Place.Close e p) = at p
  where
    at : (p : ClosePlace) → is_cas (close_row w s e p).access ≡ close_cas p
    at (ClosePlace.StoreCompleted head) = refl
    at ClosePlace.LoadHeads = refl
    at (ClosePlace.CasHeads p) = refl

-- ---- the places that want something: the count loads, by the rule; extend's tokens

abbrev pub is_given : Rule → Bool
is_given Rule.All = false
is_given Rule.Half = false
is_given (Rule.Fixed k) = false
is_given Rule.Given = true

abbrev pub count_load : BookPlace → Bool
count_load BookPlace.LifoPacked = false
count_load (BookPlace.LifoCompleted p) = false
count_load (BookPlace.LifoPushes p d) = true
count_load (BookPlace.LifoCas p d k) = false
count_load BookPlace.FifoPacked = false
count_load (BookPlace.FifoTail p) = true
count_load (BookPlace.FifoCas p k) = false

abbrev pub extends_at : OwnPlace → Bool
extends_at (OwnPlace.PushWrite t n tail) = false
extends_at (OwnPlace.PushStore n) = false
extends_at (OwnPlace.ExtendMore c tail limit j) = true
extends_at (OwnPlace.ExtendStore c tail j) = false
extends_at (OwnPlace.PopRead at) = false
extends_at OwnPlace.NextItem = false
extends_at OwnPlace.DropItem = false

abbrev pub wants_at : Place → Wish
wants_at Place.Idle = Wish.Nothing
wants_at (Place.Lifo p) = Wish.Nothing
wants_at (Place.Fifo p) = Wish.Nothing
wants_at (Place.Own p) = pick (extends_at p) Wish.Token Wish.Nothing
wants_at (Place.Book g p) = pick (count_load p) (pick (is_given (rule_of g)) Wish.Number Wish.Nothing) Wish.Nothing
wants_at (Place.Move p) = Wish.Nothing
wants_at (Place.Close e p) = Wish.Nothing

rule_wish_lem : (r : Rule) → rule_wish r ≡ pick (is_given r) Wish.Number Wish.Nothing
rule_wish_lem Rule.All = refl
rule_wish_lem Rule.Half = refl
rule_wish_lem (Rule.Fixed k) = refl
rule_wish_lem Rule.Given = refl

pub wish_places : (p : Place) → wish_of p ≡ wants_at p
wish_places Place.Idle = refl
wish_places (Place.Lifo p) = refl
wish_places (Place.Fifo p) = refl
wish_places (Place.Own p) = at p
  where
    at : (p : OwnPlace) → wish_of (Place.Own p) ≡ wants_at (Place.Own p)
    at (OwnPlace.PushWrite t n tail) = refl
    at (OwnPlace.PushStore n) = refl
    at (OwnPlace.ExtendMore c tail limit j) = refl
    at (OwnPlace.ExtendStore c tail j) = refl
    at (OwnPlace.PopRead x) = refl
    at OwnPlace.NextItem = refl
    at OwnPlace.DropItem = refl
wish_places (Place.Book g p) = at p
  where
    at : (p : BookPlace) → wish_of (Place.Book g p) ≡ wants_at (Place.Book g p)
    at BookPlace.LifoPacked = refl
    at (BookPlace.LifoCompleted p) = refl
    at (BookPlace.LifoPushes p d) = rule_wish_lem (rule_of g)
    at (BookPlace.LifoCas p d k) = refl
    at BookPlace.FifoPacked = refl
    at (BookPlace.FifoTail p) = rule_wish_lem (rule_of g)
    at (BookPlace.FifoCas p k) = refl
wish_places (Place.Move p) = refl
wish_places (Place.Close e p) = refl

-- a place that wishes something is no CAS
pub wish_no_cas : (w : ℕ) (s : Context) (p : Place) → wishes (wish_of p) ≡ true → is_cas (row_of w s p).access ≡ false
wish_no_cas w s p h = cas_places w s p ∙ none p h
  where
    book : (g : BookingCall) (p : BookPlace) → wishes (wish_of (Place.Book g p)) ≡ true → book_cas p ≡ false
    book g BookPlace.LifoPacked h = refl
    book g (BookPlace.LifoCompleted p) h = refl
    book g (BookPlace.LifoPushes p d) h = refl
    book g (BookPlace.LifoCas p d k) h = sym h
    book g BookPlace.FifoPacked h = refl
    book g (BookPlace.FifoTail p) h = refl
    book g (BookPlace.FifoCas p k) h = sym h

    none : (p : Place) → wishes (wish_of p) ≡ true → cas_at p ≡ false
    none Place.Idle h = refl
    none (Place.Lifo p) h = absurd (true≢false (sym h))
    none (Place.Fifo p) h = absurd (true≢false (sym h))
    none (Place.Own p) h = refl
    none (Place.Book g p) h = book g p h
    none (Place.Move p) h = refl
    none (Place.Close e p) h = absurd (true≢false (sym h))

-- a plain step fits where nothing is wished
pub plain_fits : (i : Wish) (c : Bool) → wishes i ≡ false → mark_fits i c Mark.Plain ≡ true
plain_fits Wish.Nothing c h = refl
plain_fits Wish.Number c h = absurd (true≢false h)
plain_fits Wish.Token c h = absurd (true≢false h)
