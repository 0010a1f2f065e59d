-- What a whole run keeps, since each step and each begin does (tables/proofs/Steps): a sound record, parties, kinds and capacities, the number
-- of items; its record names its own parties only.
use Prim.Native.Nat.{ℕ, zero, suc, ◌+◌, ◌<◌}
use mathlib.Core.Path.{◌≡◌, refl, ap, subst, fun_ext, ◌∙◌}
use mathlib.Core.Bool.{true}
use mathlib.Core.List.{List, [], ◌∷◌}
use native.Mathlib.Omega.{arith}
use lib.ListN.{length}
use Rattle.std.specs.Prelude.{Option, Some, None, IfSome}
use Rattle.tables.specs.declared.answer.Answer.{Answer}
use Rattle.tables.specs.declared.answer.Effect.{Effect}
use Rattle.tables.specs.declared.call.Mark.{Mark}
use Rattle.tables.specs.Lists.{Plain, Entry, lists, replay}
use Rattle.tables.specs.Step.{Outcome, sound, taken, alone}
use Rattle.tables.proofs.Sound.{sound_facts, Alike, alike_self, alike_after}
use Rattle.tables.proofs.Refused.{step_needs, step_if}
use Rattle.tables.proofs.Steps.{step_alike, step_length, step_sound, begin_alike, begin_items, begin_sound}
use Rattle.tables.proofs.Effects.{Names, effect_below}
use Rattle.tables.proofs.OpenSound.{opening_sound}
use Rattle.agreement.specs.Counts.{standing, count, offered}
use Rattle.agreement.specs.Statement.{Line, begins, steps, alones, Run, did_entry, said_entry, recorded, kinds_of, stepped, repeated, line, run_of, Fresh}
use Rattle.agreement.proofs.Sum.{Below, sum}

-- ---- what each step and each beginning keeps, the run does

module _ (w most : ℕ) where
  pub repeated_if : (P : Run → Type 0) → ((r : Run) (p : ℕ) (k : Mark) → P r → P (stepped w most r p k)) → (n : ℕ) (r : Run) (p : ℕ) → P r
      → P (repeated w most n r p)
  unfolding repeated
  repeated_if P f zero r p h = h
  repeated_if P f (suc n) r p h = repeated_if P f n (stepped w most r p Mark.Plain) p (f r p Mark.Plain h)

  pub run_if : (P : Run → Type 0) → ((r : Run) (p : ℕ) (c : _) → P r → P (line w most r (begins p c)))
      → ((r : Run) (p : ℕ) (k : Mark) → P r → P (stepped w most r p k))
      → (r : Run) (s : List Line) → P r → P (run_of w most r s)
  unfolding run_of
  run_if P b f r [] h = h
  run_if P b f r (begins p c ∷ s) h = run_if P b f (line w most r (begins p c)) s (b r p c h)
  run_if P b f r (steps p k ∷ s) h = run_if P b f (stepped w most r p k) s (f r p k h)
  run_if P b f r (alones p n ∷ s) h =
      run_if P b f (line w most r (alones p n)) s (repeated_if P f (alone w most r.machine r.items p n).steps r p h)

  module _ (r : Run) (s : List Line) where
    pub run_alike : Alike r.machine (run_of w most r s).machine
    run_alike = run_if (λ (x : Run). Alike r.machine x.machine)
        (λ x p c a. alike_after a (begin_alike w most x.machine x.items p c))
        (λ x p k a. alike_after a (step_alike w most x.machine x.items p k))
        r s (alike_self r.machine)

    -- by which the record is replayed
    pub run_kinds : kinds_of (run_of w most r s).machine ≡ kinds_of r.machine
    run_kinds = fun_ext (λ q. run_alike.kinds q)

    pub run_length : length (run_of w most r s).items ≡ length r.items
    run_length = run_if (λ (x : Run). length x.items ≡ length r.items)
        (λ x p c e. ap length (begin_items w most x.machine x.items p c) ∙ e)
        (λ x p k e. step_length w most x.machine x.items p k ∙ e)
        r s refl

    pub run_sound : sound w most r.machine (length r.items) ≡ true
        → sound w most (run_of w most r s).machine (length (run_of w most r s).items) ≡ true
    run_sound = run_if (λ (x : Run). sound w most x.machine (length x.items) ≡ true)
        (λ x p c e. begin_sound w most x.machine x.items p c e) (λ x p k e. step_sound w most x.machine x.items p k e)
        r s

  pub fresh_sound : (r : Run) → Fresh w most r → sound w most r.machine (length r.items) ≡ true
  fresh_sound r f =
      rw f.machine_is
      (opening_sound w most f.kinds f.parties f.requests f.positions (length r.items) (omega (arith, f.wide))
      f.taken)

  -- ---- the record names parties and queues of the machine

  below_did : (n : ℕ) (e : Option Effect) (l : List Entry) → IfSome e (Names n) → Below n l → Below n (did_entry e l)
  unfolding Below
  below_did n None l i b = b
  below_did n (Some e) l i b = (i, b)

  below_said : (n p : ℕ) (r : Option Answer) (l : List Entry) → p < n → Below n l → Below n (said_entry p r l)
  unfolding Below
  below_said n p None l h b = b
  below_said n p (Some r) l h b = (h, b)

  stepped_below : (n : ℕ) (r : Run) (p : ℕ) (k : Mark) → (r.machine.parties ≡ n) × Below n r.record'
      → ((stepped w most r p k).machine.parties ≡ n) × Below n (stepped w most r p k).record'
  stepped_below n r p k h = (
    (step_alike w most r.machine r.items p k).parties ∙ h.0,
    step_if w most r.machine p k r.items (λ (o : Outcome). Below n (recorded p o r.record'))
        (λ e.
        let c = step_needs w most r.machine p k (length r.items) e in
        let o = taken w r.machine r.items p k in
        let b : IfSome o.effect (Names n) =
        subst (λ (v : ℕ). IfSome o.effect (Names v)) h.0 (effect_below w most r.machine r.items p k (length r.items)
        (sound_facts w most r.machine (length r.items) c.sound_is) c.here) in
        below_said n p o.answer (did_entry o.effect r.record') (omega (arith, h.0, c.here)) (below_did n o.effect r.record' b h.1))
        (λ e. h.1),
  )

  pub run_below : (r : Run) (s : List Line) → Below r.machine.parties r.record'
      → Below r.machine.parties (run_of w most r s).record'
  run_below r s b =
      (run_if (λ (x : Run). (x.machine.parties ≡ r.machine.parties) × Below r.machine.parties x.record')
      (λ x p c h. ((begin_alike w most x.machine x.items p c).parties ∙ h.0, h.1)) (stepped_below r.machine.parties) r s
      (refl, b)).1

  -- ---- claim 3 of a run from a fresh machine

  pub run_sum : (r : Run) (s : List Line) → Fresh w most r → (a : Plain)
      → replay (kinds_of (run_of w most r s).machine) (run_of w most r s).record' ≡ lists a → (t : ℕ)
      → offered t (run_of w most r s).record' ≡ standing t a (run_of w most r s).machine.parties + (count t a.out + count t a.gone)
  unfolding Below
  run_sum r s f a e t =
      sum (kinds_of (run_of w most r s).machine) t (run_of w most r s).machine.parties (run_of w most r s).record' a e
      (rw (run_alike r s).parties (run_below r s (rw f.record_is tt)))
