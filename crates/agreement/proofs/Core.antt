-- Of a run from a fresh machine: the replay is possible, the lists and the hands are shown, no queue holds more than its capacity, every
-- answer has its cause. Each is read off what holds of the run at every moment (Good).
use mathlib.Core.Path.{◌≡◌, refl, sym, ap, ap₂, subst, fun_ext, ◌∙◌}
use mathlib.Core.Bool.{true}
use mathlib.Core.List.{List}
use Prim.Native.Nat.{ℕ, ◌+◌, ◌%◌, ◌≤◌, ◌<◌}
use native.Mathlib.Omega.{arith}
use lib.ListN.{get_or}
use Rattle.words.specs.Word.{minus, pow_below}
use Rattle.tables.specs.declared.call.Mark.{Mark}
use Rattle.tables.specs.declared.state.Party.{Party}
use Rattle.tables.specs.declared.state.Queue.{Queue}
use Rattle.tables.specs.declared.place.Place.{Place}
use Rattle.tables.specs.Machine.{queue_at}
use Rattle.tables.specs.Tables.{source_of}
use Rattle.tables.specs.Step.{place_at, kind_at, step}
use Rattle.tables.specs.Lists.{Holder, nobody, party, Plain, token_at, tokens, head_of, tail_of, slots_at, resting_at, lists, replay}
use Rattle.tables.specs.Causes.{fill_of, Cause}
use Rattle.tables.proofs.Bools.{pick_yes}
use Rattle.tables.specs.Shows.{waits, tail_at, kept_of, BookingHeld, by_place, by_drain, either, held_at, holder_to, booked_by, shows, hand_of, hand_at}
use Rattle.agreement.specs.Statement.{Line, Run, kinds_of, replayed, stepped, run_of, StepKeeps, Keeps, Fresh}
use Rattle.agreement.proofs.Nums.{Who, noone, call, drain, holder_of, tail, rest_length, book_none}
use Rattle.agreement.proofs.Whole.{Whole}
use Rattle.agreement.proofs.Facts.{BkF, held}
use Rattle.agreement.proofs.Cells.{plain_of}
use Rattle.agreement.proofs.Good.{Good}
use Rattle.agreement.proofs.Caused.{is_caused}
use Rattle.agreement.proofs.Runs.{good_run}
use Rattle.agreement.proofs.Opened.{good_fresh}
use Rattle.agreement.proofs.Shown.{tail_word, at_word, resting_is, kept_is, either_holds, holder_at, HoldsIt, either_it}

no_holder : (r : Who) → holder_of r ≡ nobody → r ≡ noone
no_holder noone e = refl
no_holder (call p) e = absurd (let z : ◌≡◌ {A = ℕ} 0 1 = cc in omega arith)
no_holder (drain p) e = absurd (let z : ◌≡◌ {A = ℕ} 0 1 = cc in omega arith)

-- ---- shown

module _ (w : ℕ) {r : Run} (b : Good w r) (q : ℕ) (qn : q < r.machine.parties) where
  ok_q : Whole w (b.cells q).kind (b.cells q).cap (b.cells q).s (b.cells q).g (b.cells q).l
  ok_q = b.inv.ok q

  waiting_shown : (b.cells q).l.waiting ≡ tokens w (queue_at r.machine q).capacity (slots_at r.machine r.items q)
      (tail_at w r.machine q) (waits (place_at r.machine q))
  waiting_shown =
      (b.inv.own q).wait_is ∙ at_word w (b.cells q).kind ok_q (tail (b.cells q).g) (waits (b.members q).pl)
      (tail_word w (b.cells q).kind ok_q)
      ∙ (let eq = sym (b.fits.q_are q qn) in let es = sym (b.fits.s_are q qn) in let ep = sym (b.fits.p_are q qn) in
      λ i. tokens w (eq i).capacity (es i) (tail_of w (eq i).kind (eq i)) (waits (ep i).place))

  resting_shown : (b.cells q).l.resting ≡ resting_at w r.machine r.items q
  unfolding resting_at
  resting_shown =
      resting_is w (b.cells q).kind ok_q
      ∙ (let eq = sym (b.fits.q_are q qn) in let es = sym (b.fits.s_are q qn) in
      λ i. tokens w (eq i).capacity (es i) (head_of w (eq i).kind (eq i))
      (minus w (tail_of w (eq i).kind (eq i)) (head_of w (eq i).kind (eq i))))

  kept_shown : (b.cells q).l.kept ≡ kept_of w (kind_at r.machine q) (queue_at r.machine q)
  kept_shown = kept_is w (b.cells q).kind ok_q ∙ ap (λ (v : Queue). kept_of w v.kind v) (sym (b.fits.q_are q qn))

  held_is : (z : ℕ) → z < r.machine.parties → held_at w r.machine z q ≡ either (by_place z (b.members z).pl q) (by_drain w z
      (b.members z).drain q)
  held_is z lt = ap (λ (v : Party). either (by_place z v.place q) (by_drain w z v.drain q)) (b.fits.p_are z lt)

  holds : (z : ℕ) → z < r.machine.parties → (held_at w r.machine z q).holds ≡ true
      → HoldsIt w (b.cells q).cap (b.cells q).s z (b.cells q).g (b.cells q).l (held_at w r.machine z q)
  holds z lt e =
      subst (HoldsIt w (b.cells q).cap (b.cells q).s z (b.cells q).g (b.cells q).l) (sym (held_is z lt))
      (either_it w z q (b.members z).fm (b.members z).items b.cells b.inv.ok (b.members z).pl (b.members z).drain
      (subst (λ (v : Place). BkF w z (b.members z).fm (b.members z).items v (b.cells (source_of z v)).kind
      (b.cells (source_of z v)).g (b.cells (source_of z v)).l) (b.both z) (b.inv.bkr z))
      (b.inv.drn z) (ap (λ (v : BookingHeld). v.holds) (sym (held_is z lt)) ∙ e))

  holder_shown : holder_to w r.machine r.machine.parties q ≡ holder_of (b.cells q).g.who
  holder_shown =
      holder_at w r.machine q r.machine.parties (holder_of (b.cells q).g.who) (λ z lt e. (holds z lt e).who)
      (λ z e. let c = b.inv.claim z q e in (
        c.0,
        ap (λ (v : BookingHeld). v.holds) (held_is z c.0) ∙ either_holds (by_place z (b.members z).pl q) (by_drain w z (b.members z).drain q)
            ∙ subst (λ (v : Place). held w z v (b.members z).drain q ≡ true) (b.both z) c.1,
      ))

  booked_shown : (h : Holder) → holder_of (b.cells q).g.who ≡ h → (b.cells q).l.booked ≡ booked_by w r.machine r.items q h
  booked_shown nobody e =
      book_none (b.cells q).cap ok_q.cap_pos ok_q.joins (let z : (b.cells q).g.taken + (b.cells q).g.left ≡ 0 = ok_q.shut
      (no_holder (b.cells q).g.who e) in omega arith)
  booked_shown (party z) e =
      let c = b.inv.claim z q e in
      let h : (held_at w r.machine z q).holds ≡ true =
      ap (λ (v : BookingHeld). v.holds) (held_is z c.0) ∙ either_holds (by_place z (b.members z).pl q) (by_drain w z (b.members z).drain q)
      ∙ subst (λ (v : Place). held w z v (b.members z).drain q ≡ true) (b.both z) c.1 in
      (holds z c.0 h).shows_it
      ∙ ap₂ (λ (n : ℕ) (s : List ℕ). tokens w n s (held_at w r.machine z q).at (held_at w r.machine z q).left)
      (ap (λ (v : Queue). v.capacity) (sym (b.fits.q_are q qn))) (sym (b.fits.s_are q qn))

  pub is_shown : (b.cells q).l ≡ shows w r.machine r.items q
  unfolding shows
  is_shown =
      let eb = booked_shown (holder_of (b.cells q).g.who) refl ∙ ap (booked_by w r.machine r.items q) (sym holder_shown) in
      let eh = ok_q.joins.holder_is ∙ sym holder_shown in
      λ i. record { waiting = waiting_shown i; resting = resting_shown i; booked = eb i; holder = eh i; kept = kept_shown i }

  -- ---- in hand, and within the capacity

  pub hand_shown : (b.members q).hand ≡ hand_at w r.machine r.items q
  unfolding hand_at
  hand_shown =
      (b.inv.own q).hand_is
      ∙ ap (λ (f : ℕ → ℕ). hand_of f (b.members q).pl) (fun_ext
      (λ x. sym (pick_yes (pow_below w (b.cells q).cap) (get_or (b.cells q).s (x % (b.cells q).cap) 0) 0 ok_q.cap_pow)))
      ∙ (let eq = sym (b.fits.q_are q qn) in let es = sym (b.fits.s_are q qn) in let ep = sym (b.fits.p_are q qn) in
      λ i. hand_of (token_at w (eq i).capacity (es i)) (ep i).place)

  pub fill_fits : fill_of (b.cells q).l ≤ (queue_at r.machine q).capacity
  fill_fits =
      omega (
        arith,
        ok_q.joins.fits,
        ok_q.joins.kept_is,
        rest_length (b.cells q).cap ok_q.cap_pos ok_q.joins,
        ap (λ (v : Queue). v.capacity) (b.fits.q_are q qn),
      )

-- ---- the claims but the sum

pub record Core (w most : ℕ) (r : Run) : Type 0 where
  pub plain : Plain
  pub possible : replay (kinds_of r.machine) r.record' ≡ lists plain
  pub shown : (q : ℕ) → q < r.machine.parties → plain.queue q ≡ shows w r.machine r.items q
  pub in_hand : (p : ℕ) → p < r.machine.parties → plain.hand p ≡ hand_at w r.machine r.items p
  pub fits : (q : ℕ) → q < r.machine.parties → fill_of (plain.queue q) ≤ (queue_at r.machine q).capacity
  pub caused :
      (p : ℕ) (k : Mark) → StepKeeps w most r p k
      → Cause w r.machine p k (replayed r.machine r.record') (stepped w most r p k).notes
      (step w most r.machine r.items p k).answer

good_core : (w most : ℕ) → 1 < w → (r : Run) → Good w r → Core w most r
good_core w most wide r b = record {
  plain = plain_of b.cells b.members b.out b.gone;
  possible = b.possible;
  shown = λ q lt. is_shown w b q lt;
  in_hand = λ p lt. hand_shown w b p lt;
  fits = λ q lt. fill_fits w b q lt;
  caused = λ p k prem. is_caused w most wide r b p k prem;
}

pub core : (w most : ℕ) (r : Run) (s : List Line) → Fresh w most r → Keeps w most r s → Core w most (run_of w most r s)
core w most r s f k = good_core w most f.wide (run_of w most r s) (good_run w most f.wide r s (good_fresh w most r f) k)
