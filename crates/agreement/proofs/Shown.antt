-- The plain lists of each queue are what slots and counters show: the true numbers are less than a turn apart, so their words' differences
-- are exact, and whoever holds the booking is at a place, or has a drain, that says so.
use mathlib.Core.Path.{◌≡◌, refl, sym, ap, ap₂, subst, ◌∙◌}
use mathlib.Core.Logic.{◌≢◌}
use mathlib.Core.Bool.{Bool, true, false, not}
use mathlib.Core.List.{List}
use Prim.Native.Nat.{ℕ, zero, suc, ◌+◌, ◌%◌, ◌^◌, ◌<◌}
use native.Mathlib.Omega.{arith}
use lib.Dec.{eqb}
use borrow.Author.Tests.{eqb-true, eqb-false, not-true}
use Rattle.words.specs.Word.{pick, orb, minus, high, low}
use Rattle.tables.specs.declared.state.Drain.{Drain}
use Rattle.tables.specs.declared.state.Kind.{Kind}
use Rattle.tables.specs.declared.state.Machine.{Machine}
use Rattle.tables.specs.declared.place.BookedTokens.{BookedTokens}
use Rattle.tables.specs.declared.place.ClosePlace.{ClosePlace}
use Rattle.tables.specs.declared.place.MovePlace.TheVariants as MovePlace
use Rattle.tables.specs.declared.place.Place.{Place}
use Rattle.tables.specs.Tables.{source_of, closing_source}
use Rattle.tables.specs.Lists as L
use Rattle.tables.specs.Lists.{Holder, nobody, party, Lists, head_of, tail_of}
use Rattle.tables.proofs.Bools.{and_left, and_right}
use Rattle.tables.specs.Shows.{kept_of, BookingHeld, by_booked, by_place, by_drain, either, held_at, holder_to}
use Rattle.agreement.proofs.Wrap.{diff_word, diff, high_is, low_is}
use Rattle.agreement.proofs.Ring.{tokens, tokens_zero, tokens_cong, tokens_shown}
use Rattle.agreement.proofs.Nums.{Who, call, drain, holder_of, Nums, head, tail, book_none}
use Rattle.agreement.proofs.Whole.{Whole, words_of, cap_small, slot_of}
use Rattle.agreement.proofs.Facts.{BkF, BkC, Keeps, closing_who, DrainIs, DrnF}
use Rattle.agreement.proofs.Close.{closing_mine}
use Rattle.agreement.proofs.Cells.{Cell}

-- ---- one queue

pub tail_word : (w : ℕ) (k : Kind) {cap : ℕ} {s : List ℕ} {g : Nums} {l : Lists} → Whole w k cap s g l
    → tail_of w k (words_of w k cap g) ≡ tail g % 2 ^ w
tail_word w Kind.Lifo {g = g} i = diff_word w (tail g) g.pops (ap (λ (n : ℕ). n % 2 ^ w) i.part.pushed_is)
    (high_is w g.pops (head g) refl)
tail_word w Kind.Fifo i = ap (λ (n : ℕ). n % 2 ^ w) i.part.pushed_is

head_word : (w : ℕ) (k : Kind) (cap : ℕ) (g : Nums) → head_of w k (words_of w k cap g) ≡ head g % 2 ^ w
head_word w Kind.Lifo cap g = low_is w g.pops (head g) refl
head_word w Kind.Fifo cap g = high_is w (head g) g.completed refl

module _ (w : ℕ) (k : Kind) {cap : ℕ} {s : List ℕ} {g : Nums} {l : Lists} (i : Whole w k cap s g l) where
  -- from a position on, as from its word
  pub at_word : {x : ℕ} (a n : ℕ) → x ≡ a % 2 ^ w → tokens cap s a n ≡ L.tokens w cap s x n
  at_word {x} a n e = tokens_cong cap s a x n (sym (slot_of w k i a e)) ∙ sym (tokens_shown cap w i.cap_pow s x n)

  pub resting_is : l.resting ≡ L.tokens w cap s (head_of w k (words_of w k cap g))
      (minus w (tail_of w k (words_of w k cap g)) (head_of w k (words_of w k cap g)))
  resting_is =
      let n : minus w (tail_of w k (words_of w k cap g)) (head_of w k (words_of w k cap g)) + head g ≡ tail g =
      diff w (tail g) (head g) (tail_word w k i) (head_word w k cap g) (omega arith) (omega (arith, i.joins.fits, cap_small w k i)) in
      i.joins.rest_is ∙ at_word (head g) g.rest (head_word w k cap g) ∙ ap (L.tokens w cap s (head_of w k (words_of w k cap g))) (omega arith)

pub kept_is : (w : ℕ) (k : Kind) {cap : ℕ} {s : List ℕ} {g : Nums} {l : Lists} → Whole w k cap s g l
    → l.kept ≡ kept_of w k (words_of w k cap g)
kept_is w Kind.Lifo {g = g} i =
    let e : minus w (low w (words_of w Kind.Lifo 0 g).packed) (g.completed % 2 ^ w) + g.completed ≡ head g = diff w (head g) g.completed
    (low_is w g.pops (head g) refl) refl (omega arith) (omega (arith, i.joins.fits, cap_small w Kind.Lifo i)) in
    omega (arith, i.joins.kept_is)
kept_is w Kind.Fifo {g = g} i =
    let e : minus w (high w (words_of w Kind.Fifo 0 g).packed) (low w (words_of w Kind.Fifo 0 g).packed) + g.completed ≡ head g =
    diff w (head g) g.completed (high_is w (head g) g.completed refl) (low_is w (head g) g.completed refl) (omega arith)
    (omega (arith, i.joins.fits, cap_small w Kind.Fifo i)) in
    omega (arith, i.joins.kept_is)

-- ---- the holder

pub either_holds : (a b : BookingHeld) → (either a b).holds ≡ orb a.holds b.holds
either_holds a b = go a.holds refl
  where
    go : (t : Bool) → a.holds ≡ t → (pick t a b).holds ≡ orb t b.holds
    go true e = e
    go false e = refl

pub holder_at : (w : ℕ) (m : Machine) (q : ℕ) (n : ℕ) (h : Holder) → ((r : ℕ) → r < n → (held_at w m r q).holds ≡ true → h ≡ party r)
    → ((r : ℕ) → h ≡ party r → (r < n) × ((held_at w m r q).holds ≡ true)) → holder_to w m n q ≡ h
unfolding holder_to
holder_at w m q zero nobody f g = refl
holder_at w m q zero (party r) f g = absurd (let c : r < 0 = (g r refl).0 in omega arith)
holder_at w m q (suc n) h f g = go (held_at w m n q).holds refl
    (λ e. holder_at w m q n h (λ r lt. f r (omega arith)) (λ r eh. (less r eh e, (g r eh).1)))
  where
    less : (r : ℕ) → h ≡ party r → (held_at w m n q).holds ≡ false → r < n
    less r eh e =
        let lt : r < suc n = (g r eh).0 in
        let ne : r ≢ n = λ z. (let y : ◌≡◌ {A = ℕ} 0 1 = cc (subst (λ (v : ℕ). (held_at w m v q).holds ≡ true) z (g r eh).1, e) in omega
        arith) in
        omega arith

    go : (t : Bool) → (held_at w m n q).holds ≡ t → ((held_at w m n q).holds ≡ false → holder_to w m n q ≡ h)
        → pick t (party n) (holder_to w m n q) ≡ h
    go true e c = sym (f n (omega arith) e)
    go false e c = c e

-- what a party that holds queue q knows of it
pub record HoldsIt (w cap : ℕ) (s : List ℕ) (r : ℕ) (g : Nums) (l : Lists) (h : BookingHeld) : Type 0 where
  pub who : holder_of g.who ≡ party r
  pub shows_it : l.booked ≡ L.tokens w cap s h.at h.left

module _ (w r q fm : ℕ) (items : List ℕ) (cells : ℕ → Cell) (oks : (x : ℕ)
    → Whole w (cells x).kind (cells x).cap (cells x).s (cells x).g (cells x).l) where
  booked_holds : (t : BookedTokens) → Keeps w (call r) items (cells t.source).g (cells t.source).l t → eqb t.source q ≡ true
      → HoldsIt w (cells q).cap (cells q).s r (cells q).g (cells q).l (by_booked t q)
  booked_holds t a e =
      let eq : t.source ≡ q = eqb-true t.source q e in
      let b : Keeps w (call r) items (cells q).g (cells q).l t = subst
      (λ (z : ℕ). Keeps w (call r) items (cells z).g (cells z).l t) eq a in
      record {
        who = ap holder_of b.who_is;
        shows_it =
            (oks q).joins.book_is ∙ ap₂ (λ (u v : ℕ). tokens (cells q).cap (cells q).s u v) {x = (cells q).g.completed + (cells q).g.taken}
            {y = (cells q).g.completed} (omega (arith, b.taken_is)) b.left_is
            ∙ at_word w (cells q).kind (oks q) (cells q).g.completed t.count b.from_is;
      }

  none_left : (me : Who) (c : ClosePlace) (k : Kind) (g : Nums) → BkC w me c k g → (g.who ≡ me) × (g.left ≡ 0)
  none_left me (ClosePlace.StoreCompleted h) k g a = (a.1, a.2)
  none_left me ClosePlace.LoadHeads k g a = (a.1, a.2)
  none_left me (ClosePlace.CasHeads x) k g a = (a.1, a.2)

  place_holds : (pl : Place) → BkF w r fm items pl (cells (source_of r pl)).kind (cells (source_of r pl)).g (cells (source_of r pl)).l
      → (by_place r pl q).holds ≡ true
      → HoldsIt w (cells q).cap (cells q).s r (cells q).g (cells q).l (by_place r pl q)
  place_holds Place.Idle a e = absurd (let z : ◌≡◌ {A = ℕ} 0 1 = cc in omega arith)
  place_holds (Place.Lifo x) a e = absurd (let z : ◌≡◌ {A = ℕ} 0 1 = cc in omega arith)
  place_holds (Place.Fifo x) a e = absurd (let z : ◌≡◌ {A = ℕ} 0 1 = cc in omega arith)
  place_holds (Place.Own x) a e = absurd (let z : ◌≡◌ {A = ℕ} 0 1 = cc in omega arith)
  place_holds (Place.Book h x) a e = absurd (let z : ◌≡◌ {A = ℕ} 0 1 = cc in omega arith)
  place_holds (Place.Move (MovePlace.ReadSlot t j)) a e = booked_holds t a e
  place_holds (Place.Move (MovePlace.WriteSlot t j x)) a e = booked_holds t a e
  place_holds (Place.Move (MovePlace.Land t last)) a e = booked_holds t a e
  place_holds (Place.Close e c) a ee =
      let eq : closing_source r e ≡ q = eqb-true (closing_source r e) q ee in
      let b = none_left (closing_who r e) c (cells (closing_source r e)).kind (cells (closing_source r e)).g a in
      let bq : ((cells q).g.who ≡ closing_who r e) × ((cells q).g.left ≡ 0) = subst
      (λ (z : ℕ). ((cells z).g.who ≡ closing_who r e) × ((cells z).g.left ≡ 0)) eq b in
      record {
        who = ap holder_of bq.0 ∙ closing_mine r e;
        shows_it = book_none (cells q).cap (oks q).cap_pos (oks q).joins bq.1
            ∙ sym (tokens_shown (cells q).cap w (oks q).cap_pow (cells q).s 0 0 ∙ tokens_zero (cells q).cap (cells q).s 0);
      }

  drain_holds : (d : Drain) → DrnF w r d (cells r).g → (by_drain w r d q).holds ≡ true
      → HoldsIt w (cells q).cap (cells q).s r (cells q).g (cells q).l (by_drain w r d q)
  drain_holds d f e =
      let t = not (eqb d.at d.end) in
      let a : DrainIs w (drain r) (cells r).g d =
      f (eqb-false d.at d.end (not-true (eqb d.at d.end) (and_right (eqb r q) t e))) in
      let c : DrainIs w (drain r) (cells q).g d = subst (λ (z : ℕ). DrainIs w (drain r) (cells z).g d)
      (eqb-true r q (and_left (eqb r q) t e)) a in
      let n : minus w d.end d.at + ((cells q).g.completed + (cells q).g.taken) ≡ (cells q).g.completed + (cells q).g.taken + (cells q).g.left =
      diff w ((cells q).g.completed + (cells q).g.taken + (cells q).g.left) ((cells q).g.completed + (cells q).g.taken) c.end_is c.at_is
      (omega arith) (omega (arith, (oks q).joins.fits, cap_small w (cells q).kind (oks q))) in
      record {
        who = ap holder_of c.who_is;
        shows_it =
            (oks q).joins.book_is ∙ at_word w (cells q).kind (oks q) ((cells q).g.completed + (cells q).g.taken) (cells q).g.left c.at_is
            ∙ ap (L.tokens w (cells q).cap (cells q).s d.at) (omega arith);
      }

  pub either_it : (pl : Place) (d : Drain) → BkF w r fm items pl (cells (source_of r pl)).kind (cells (source_of r pl)).g (cells (source_of
      r pl)).l → DrnF w r d (cells r).g
      → (either (by_place r pl q) (by_drain w r d q)).holds ≡ true → HoldsIt w (cells q).cap (cells q).s r (cells q).g (cells q).l
      (either (by_place r pl q) (by_drain w r d q))
  either_it pl d a f e = go (by_place r pl q).holds refl e
    where
      go : (t : Bool) → (by_place r pl q).holds ≡ t → (pick t (by_place r pl q) (by_drain w r d q)).holds ≡ true
          → HoldsIt w (cells q).cap (cells q).s r (cells q).g (cells q).l (pick t (by_place r pl q) (by_drain w r d q))
      go true et h = place_holds pl a et
      go false et h = drain_holds d f h
