-- Every "none", "full", "busy" and "empty" has its cause. Each step shows its own in the true numbers (`why` in Steps); what was noted at the
-- call's own loads says the same of the lists.
use mathlib.Core.Path.{◌≡◌, refl, sym, ap, subst, ◌∙◌}
use mathlib.Core.Logic.{◌⊎◌, inl, inr}
use mathlib.Core.Bool.{Bool, true, false}
use mathlib.Core.List.{List, []}
use Prim.Native.Nat.{ℕ, ◌+◌, ◌-◌, ◌%◌, ◌^◌, ◌≤◌, ◌<◌}
use native.Mathlib.Nat.{mod-eq_of_lt}
use native.Mathlib.Omega.{arith}
use lib.ListN.{length}
use lib.Pow.{pow_mono}
use Rattle.words.specs.Word.{pick}
use Rattle.tables.specs.declared.call.Mark.{Mark}
use Rattle.tables.specs.declared.state.Kind.{Kind}
use Rattle.tables.specs.declared.state.Queue.{Queue}
use Rattle.tables.specs.declared.place.BookingCall.{BookingCall}
use Rattle.tables.specs.declared.place.Place.{Place}
use Rattle.tables.specs.declared.place.Transfer.{Transfer}
use Rattle.tables.specs.Machine.{queue_at}
use Rattle.tables.specs.Table.{room_for, limit_of}
use Rattle.tables.specs.Answer.{Reason, nothing, none_rested, none_free, one_open, none_to_book, reason_of}
use Rattle.tables.specs.Step.{Outcome, place_at, source_at, step}
use Rattle.tables.specs.Lists.{is_open, Lists, Plain, update}
use Rattle.tables.specs.Causes.{is_first_load, is_head_load, fill_of, Premise, RuleGaveZero, steals, is_steal, NoRoom, CauseOf, Cause}
use Rattle.tables.proofs.Refused.{step_needs, step_refusal_lem, step_if}
use Rattle.tables.proofs.Updates.{update_same}
use Rattle.agreement.specs.Statement.{Run, replayed, after_step, stepped, StepKeeps}
use Rattle.agreement.proofs.Nums.{Nums}
use Rattle.agreement.proofs.Facts.{OwnP, OwnG}
use Rattle.agreement.proofs.Steps.{Still, limit_at, at_booking_lem}
use Rattle.agreement.proofs.Cells.{words, CausesOf}
use Rattle.agreement.proofs.Record.{taken_is, place_is}
use Rattle.agreement.proofs.Good.{Good, halves, still_first, a, next, after, source, y}
use Rattle.agreement.proofs.Went.{step₁, notes₁, before_is, fill₁, was_shut}

-- ---- a limit of 0 is a steal's, with no room

module _ (w : ℕ) (wide : 1 < w) (cap : ℕ) (cap_fits : cap + cap ≤ 2 ^ w) (cap_pos : 0 < cap) where
  four : 4 ≤ 2 ^ w
  four = let h : 2 ^ 1 ≤ 2 ^ (w - 1) = pow_mono {i = 1} {j = w - 1} (omega arith) in let e : 2 ^ 1 ≡ 2 = refl in omega
      (arith, halves w wide)

  none_for : (h : Transfer) (room fill : ℕ) → room + fill ≡ cap → room_for w h room ≡ 0 → (steals h ≡ true) × (fill ≡ cap)
  none_for Transfer.Steal room fill e z = (refl, omega arith)
  none_for Transfer.Take room fill e z = absurd (let s : (room + 1) % 2 ^ w ≡ room + 1 = mod-eq_of_lt (omega (arith, four)) in omega arith)

  -- .. noted before, as no booking place is a head load
  no_room : (fill u : ℕ) (items : List ℕ) (k : Kind) (s : List ℕ) (g : Nums) (pl : Place) → OwnP w fill items pl k cap s g
      → limit_at w pl ≡ 0 → NoRoom pl (pick (is_head_load pl) u fill) cap
  no_room fill u items k s g pl o z =
      let f : ℕ = pick (is_head_load pl) u fill in
      at_booking_lem (λ (x : Place) (m : ℕ) (N : Type 0). OwnP w fill items x k cap s g → m ≡ 0 → pick (is_head_load x) u fill ≡ f → N)
      1 ⊥ (λ h b. limit_of w h) (λ h b. (is_steal h ≡ true) × (f ≡ cap))
      (λ x a e _. absurd (omega arith)) (λ h b a e i. let n = booking h a e in (n.0, sym i ∙ n.1)) pl o z refl
    where
      booking : (h : BookingCall) → OwnG w fill cap h g → limit_of w h ≡ 0 → (is_steal h ≡ true) × (fill ≡ cap)
      booking (BookingCall.Transfer e d) o z = none_for e.transfer d.room fill o.1 z
      booking (BookingCall.Drain r) o z = absurd (omega (arith, four))

module _ (w : ℕ) (wide : 1 < w) {r : Run} (b : Good w r) (p : ℕ) (pn : p < r.machine.parties) (k : Mark)
    (prem : Premise w r.machine r.notes p) where
  place : place_at r.machine p ≡ (b.members p).pl
  place = place_is w r.machine r.items b.fits p pn k

  abbrev fill : ℕ
  fill = pick (is_head_load (b.members p).pl) (fill_of (b.cells p).l) (b.members p).fill

  fill_is : (notes₁ w wide b p pn k prem).fill p ≡ fill
  fill_is = fill₁ w wide b p pn k prem p ∙ (step₁ w wide b p pn k prem).fill_are p ∙ update_same (λ (z : ℕ). (b.members z).fill) p fill

  cap_is : (b.cells p).cap ≡ (queue_at r.machine p).capacity
  cap_is = ap (λ (v : Queue). v.capacity) (sym (b.fits.q_are p pn))

  lists_at : (z : ℕ) → (replayed r.machine r.record').queue z ≡ (b.cells z).l
  unfolding a
  lists_at z = ap (λ (v : Plain). v.queue z) (before_is w wide b p pn k prem)

  src : source_at r.machine p ≡ y w wide b p pn k prem
  src = source w wide b p pn k prem

  -- busy: a booking was open since the first load, or is now
  busy : (Still w (b.members p).pl (b.cells (y w wide b p pn k prem)).g
      → is_open ((step₁ w wide b p pn k prem).cells' (y w wide b p pn k prem)).l.holder ≡ true)
      → (notes₁ w wide b p pn k prem).opened p ≡ true
  busy f = go ((notes₁ w wide b p pn k prem).opened p) refl
    where
      still : (c : Bool) → is_first_load (b.members p).pl ≡ c
          → pick c (update r.notes.opened p (is_open ((replayed r.machine r.record').queue (source_at r.machine p)).holder))
          r.notes.opened p ≡ false
          → Still w (b.members p).pl (b.cells (y w wide b p pn k prem)).g
      still true e h = still_first w (b.members p).pl (b.cells (y w wide b p pn k prem)).g e
      still false e h = b.still p pn h

      go : (t : Bool) → (notes₁ w wide b p pn k prem).opened p ≡ t → (notes₁ w wide b p pn k prem).opened p ≡ true
      go true e = e
      go false e =
          let s = was_shut w wide b p pn k prem p pn e in
          let h = f (still (is_first_load (b.members p).pl) refl (subst
          (λ (z : Place). pick (is_first_load z) (update r.notes.opened p
          (is_open ((replayed r.machine r.record').queue (source_at r.machine p)).holder)) r.notes.opened p ≡ false) place
          s.0)) in
          let o = ((step₁ w wide b p pn k prem).inv.ok (y w wide b p pn k prem)).joins.holder_is in
          absurd (let z : ◌≡◌ {A = ℕ} 0 1 = cc in omega arith)

  empty : (((b.cells (y w wide b p pn k prem)).l.resting ≡ []) ⊎
      ((limit_at w (b.members p).pl ≡ 0) ⊎ RuleGaveZero w (b.members p).pl (words w (b.cells (y w wide b p pn k prem))) k))
      → (((replayed r.machine r.record').queue (source_at r.machine p)).resting ≡ [])
      ⊎ (NoRoom (place_at r.machine p) ((notes₁ w wide b p pn k prem).fill p) (queue_at r.machine p).capacity
      ⊎ RuleGaveZero w (place_at r.machine p) (queue_at r.machine (source_at r.machine p)) k)
  empty (inl e) = inl (ap (λ (v : Lists). v.resting) (ap (replayed r.machine r.record').queue src
      ∙ lists_at (y w wide b p pn k prem)) ∙ e)
  empty (inr (inl e)) =
      inr (inl
      (subst (λ (z : Place). NoRoom z ((notes₁ w wide b p pn k prem).fill p) (queue_at r.machine p).capacity) (sym place)
      (subst (λ (f : ℕ). NoRoom (b.members p).pl f (queue_at r.machine p).capacity) (sym fill_is)
      (subst (λ (c : ℕ). NoRoom (b.members p).pl fill c) cap_is
      (no_room w wide (b.cells p).cap (b.inv.ok p).cap_fits (b.inv.ok p).cap_pos (b.members p).fill (fill_of (b.cells p).l)
      (b.members p).items (b.cells p).kind (b.cells p).s (b.cells p).g (b.members p).pl (b.inv.own p).at e)))))
  empty (inr (inr e)) =
      inr (inr
      (subst (λ (z : Place). RuleGaveZero w z (queue_at r.machine (source_at r.machine p)) k) (sym place)
      (subst (λ (v : Queue). RuleGaveZero w (b.members p).pl v k)
      (sym (ap (queue_at r.machine) src ∙ b.fits.q_are (y w wide b p pn k prem) (b.fits.sources p pn))) e)))

  cause_of : (x : Reason) → CausesOf w fill (b.members p).pl (b.cells p) (b.cells (y w wide b p pn k prem))
      ((step₁ w wide b p pn k prem).cells' (y w wide b p pn k prem)).l k x
      → CauseOf w r.machine p k (replayed r.machine r.record') (notes₁ w wide b p pn k prem) x
  cause_of nothing c = tt
  cause_of none_rested c = ap (λ (v : Lists). v.resting) (lists_at p) ∙ c
  cause_of none_free c = fill_is ∙ c ∙ cap_is
  cause_of one_open c = busy c
  cause_of none_to_book c = empty c

  pub taken_caused : Cause w r.machine p k (replayed r.machine r.record') (after_step r p (after w wide b p pn k prem)).notes
      (next w wide b p pn k prem).answer
  taken_caused = cause_of (reason_of (next w wide b p pn k prem).answer) (step₁ w wide b p pn k prem).why

pub is_caused : (w most : ℕ) → 1 < w → (r : Run) → Good w r → (p : ℕ) (k : Mark) → StepKeeps w most r p k
    → Cause w r.machine p k (replayed r.machine r.record') (stepped w most r p k).notes
    (step w most r.machine r.items p k).answer
is_caused w most wide r b p k prem =
    step_if w most r.machine p k r.items
    (λ (o : Outcome). Cause w r.machine p k (replayed r.machine r.record') (after_step r p o).notes o.answer)
    (λ e.
    let pn : p < r.machine.parties = (step_needs w most r.machine p k (length r.items) e).here in
    subst (λ (o : Outcome). Cause w r.machine p k (replayed r.machine r.record') (after_step r p o).notes o.answer)
    (sym (taken_is w r.machine r.items b.fits p pn k)) (taken_caused w wide b p pn k (prem (step_refusal_lem w most r.machine p k r.items ∙ e))))
    (λ e. tt)
