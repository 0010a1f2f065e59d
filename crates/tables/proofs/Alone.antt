-- Run alone: each of its turns is a plain step that nothing refuses; what it keeps.
use Prim.Native.Nat.{ℕ, zero, suc, ◌<◌}
use mathlib.Core.Path.{◌≡◌, refl, sym, ap, ◌∙◌}
use mathlib.Core.Bool.{true, false, not}
use mathlib.Core.List.{List}
use borrow.Author.Tests.{not-false}
use lib.ListN.{length}
use Rattle.tables.specs.declared.call.Mark.TheVariants as Mark
use Rattle.tables.specs.declared.state.Machine.{Machine}
use Rattle.tables.specs.Answer.{is_pending}
use Rattle.tables.specs.Tables.{is_idle, wish_of, wishes}
use Rattle.tables.specs.Step.{sound, place_at, taken, step_refusal, step, Alone, stops, onward, runs, until, still, alone_refusal, alone}
use Rattle.tables.proofs.Bools.{neither, pick_if}
use Rattle.tables.proofs.Sound.{Sound, sound_facts, facts_sound, Alike, alike_self, alike_after, taken_alike, taken_goes, taken_sound, taken_length}
use Rattle.tables.proofs.Refused.{step_taken, CanRun, alone_needs, alone_if, Standing}
use Rattle.tables.proofs.After.{place_after}
use Rattle.tables.proofs.Steps.{plain_can}

-- what each turn keeps, the run does
pub runs_if : (w who : ℕ) (P : Alone → Type 0)
    → ((r : Alone) → P r → stops who r ≡ false → P (onward r (taken w r.machine r.items who Mark.Plain)))
    → (k : ℕ) (r : Alone) → P r → P (runs w who k r)
unfolding until
runs_if w who P f zero r p = p
runs_if w who P f (suc k) r p =
    pick_if P (stops who r) (λ h. p) (λ h. runs_if w who P f k (onward r (taken w r.machine r.items who Mark.Plain)) (f r p h))

-- a record sound, the party in range, its call under way until it has answered
pub record Going (w most who : ℕ) (r : Alone) : Type 0 where
  pub facts : Sound w most r.machine (length r.items)
  pub here : who < r.machine.parties
  pub over : is_idle (place_at r.machine who) ≡ not (is_pending r.answer)

-- ---- a turn

module _ (w most who : ℕ) (r : Alone) (g : Going w most who r) (goes_on : stops who r ≡ false) where
  pub turn_pending : is_pending r.answer ≡ true
  turn_pending = not-false _ (neither (not (is_pending r.answer)) (wishes (wish_of (place_at r.machine who))) goes_on).0

  pub turn_wishes : wishes (wish_of (place_at r.machine who)) ≡ false
  turn_wishes = (neither (not (is_pending r.answer)) (wishes (wish_of (place_at r.machine who))) goes_on).1

  pub turn_under_way : is_idle (place_at r.machine who) ≡ false
  turn_under_way = g.over ∙ ap not turn_pending

  -- a plain step is not refused, so that a turn is that step
  pub turn_can : step_refusal w most r.machine (length r.items) who Mark.Plain ≡ 0
  turn_can =
      plain_can w most r.machine (length r.items) who (facts_sound w most r.machine (length r.items) g.facts)
      g.here turn_under_way
      turn_wishes

  pub turn_is_step : step w most r.machine r.items who Mark.Plain ≡ taken w r.machine r.items who Mark.Plain
  turn_is_step = step_taken w most r.machine who Mark.Plain r.items turn_can

  pub turn_length : length (taken w r.machine r.items who Mark.Plain).items ≡ length r.items
  turn_length = taken_length w most r.machine r.items who Mark.Plain (length r.items) g.facts g.here refl

  pub turn_going : Going w most who (onward r (taken w r.machine r.items who Mark.Plain))
  turn_going = record {
    facts = rw turn_length (taken_sound w most r.machine r.items who Mark.Plain (length r.items) g.facts g.here);
    here = rw (taken_alike w most r.machine r.items who Mark.Plain).parties g.here;
    over = ap is_idle (place_after w r.machine r.items who Mark.Plain)
        ∙ unfold taken in (taken_goes w most r.machine r.items who Mark.Plain).over turn_under_way;
  }

-- ---- the run

module _ (w most who : ℕ) where
  pub runs_going : (k : ℕ) (r : Alone) → Going w most who r → Going w most who (runs w who k r)
  runs_going = runs_if w who (Going w most who) (λ r g h. turn_going w most who r g h)

  pub runs_length : (k : ℕ) (r : Alone) → Going w most who r → length (runs w who k r).items ≡ length r.items
  runs_length k r g =
      (runs_if w who (λ (x : Alone). Going w most who x × (length x.items ≡ length r.items))
      (λ x p h. (turn_going w most who x p.0 h, turn_length w most who x p.0 h ∙ p.1)) k r (g, refl)).1

  pub runs_alike : (k : ℕ) (r : Alone) → Alike r.machine (runs w who k r).machine
  runs_alike k r =
      runs_if w who (λ (x : Alone). Alike r.machine x.machine)
      (λ x a h. alike_after a (taken_alike w most x.machine x.items who Mark.Plain)) k r (alike_self r.machine)

  pub runs_refusal : (k : ℕ) (r : Alone) → r.refusal ≡ 0 → (runs w who k r).refusal ≡ 0
  runs_refusal = runs_if w who (λ (x : Alone). x.refusal ≡ 0) (λ x e h. refl)

  module _ (m : Machine) (xs : List ℕ) (budget : ℕ) where
    pub going_still : CanRun w most m who (length xs) → Going w most who (still m xs 0)
    going_still c = record { facts = sound_facts w most m (length xs) c.sound_is; here = c.here; over = c.under_way }

    pub alone_refusal_lem : (alone w most m xs who budget).refusal ≡ alone_refusal w most m (length xs) who
    alone_refusal_lem = alone_if w most m who xs budget (λ (r : Alone). r.refusal ≡ alone_refusal w most m (length xs) who)
        (λ e. runs_refusal budget (still m xs 0) refl ∙ sym e) (λ n. refl)

    pub alone_unchanged : ((alone w most m xs who budget).refusal ≡ 0 → ⊥) → Standing m xs (alone w most m xs who budget)
    alone_unchanged = alone_if w most m who xs budget (λ (r : Alone). (r.refusal ≡ 0 → ⊥) → Standing m xs r)
        (λ e n. absurd (n (runs_refusal budget (still m xs 0) refl)))
        (λ e n. record { machine = refl; items = refl; answer = refl; effects = refl; steps = refl })

    pub alone_alike : Alike m (alone w most m xs who budget).machine
    alone_alike =
        alone_if w most m who xs budget (λ (r : Alone). Alike m r.machine) (λ e. runs_alike budget (still m xs 0)) (λ n. alike_self m)

    pub alone_length : length (alone w most m xs who budget).items ≡ length xs
    alone_length = alone_if w most m who xs budget (λ (r : Alone). length r.items ≡ length xs)
        (λ e. runs_length budget (still m xs 0) (going_still (alone_needs w most m who (length xs) e))) (λ n. refl)

    pub alone_sound : sound w most m (length xs) ≡ true
        → sound w most (alone w most m xs who budget).machine (length (alone w most m xs who budget).items) ≡ true
    alone_sound s = alone_if w most m who xs budget (λ (r : Alone). sound w most r.machine (length r.items) ≡ true)
        (λ e. facts_sound w most _ _ (runs_going budget (still m xs 0) (going_still (alone_needs w most m who (length xs) e))).facts)
        (λ n. s)
