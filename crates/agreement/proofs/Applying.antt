-- Runs of the code are the runs that demand 3 speaks of: outcomes of `apply` in a row leave the machine and the items of `run_of`, and their
-- replies, put on the record as they came, replay to the same lists. A begin has no effect and no answer; a step's effect is the one of its
-- reply; a run alone is its single steps (claim 5).
use Prim.Native.Nat.{ℕ, zero, suc, ◌≤◌, ◌<◌}
use mathlib.Core.Path.{◌≡◌, refl, sym, ap, subst, ◌∙◌}
use mathlib.Core.List.{List, [], ◌∷◌}
use native.Mathlib.Omega.{arith}
use lib.ListN.{length}
use Rattle.std.specs.Prelude.{Option, Some, None, Result, Ok, Err}
use Rattle.tables.specs.declared.answer.Effect.{Effect}
use Rattle.tables.specs.declared.answer.Refusal.{Refusal}
use Rattle.tables.specs.declared.answer.Reply.{Reply}
use Rattle.tables.specs.declared.call.Mark.{Mark}
use Rattle.tables.specs.declared.state.Kind.{Kind}
use Rattle.tables.specs.declared.state.Machine.{Machine}
use Rattle.tables.specs.Lists.{Plain, Entry, did, lists, replay_from, replay}
use Rattle.tables.specs.Refusal.{told}
use Rattle.tables.specs.Shows.{shows}
use Rattle.tables.specs.Step.{Outcome, begin, step, alone, appended, noted, three_effects, AfterAct, of_outcome, of_alone, acted}
use Rattle.tables.specs.Step.{begin_refusal, step_refusal, taken, still, Alone}
use Rattle.tables.proofs.Effects.{alone_few}
use Rattle.tables.proofs.Alone.{runs_refusal}
use Rattle.tables.proofs.Refused.{begin_if, step_if, alone_if}
use Rattle.agreement.specs.Statement.{Line, begins, steps, alones, Run, kinds_of, did_entry, said_entry, recorded, line, run_of, put_on, Fresh, Keeps}
use Rattle.agreement.specs.Outcomes.{party_of, act_of, InARow, machine_after, items_after, effects_in, said_on, reply_on, replies_on}
use Rattle.agreement.proofs.Merged.{said_same, alone_record, alone_agrees}
use Rattle.agreement.proofs.Demand3.{agrees}

-- at most three effects are all there
three : (l : List Effect) → length l ≤ 3 → effects_in (three_effects l) ≡ l
three [] h = refl
three (a ∷ []) h = refl
three (a ∷ b ∷ []) h = refl
three (a ∷ b ∷ c ∷ []) h = refl
three (a ∷ b ∷ c ∷ d ∷ l) h = absurd (omega arith)

module _ (ks : ℕ → Kind) where
  -- effects on top: what is below matters by its lists alone
  put_same : (es : List Effect) (l k : List Entry) → replay ks l ≡ replay ks k → replay ks (put_on l es) ≡ replay ks (put_on k es)
  unfolding put_on replay
  put_same [] l k e = e
  put_same (x ∷ es) l k e = put_same es (did x ∷ l) (did x ∷ k) (ap (replay_from ks (did x)) e)

  reply_same : (p : ℕ) (r : Result Reply Refusal) (l k : List Entry) → replay ks l ≡ replay ks k → replay ks (reply_on p r l) ≡ replay ks (reply_on p r k)
  reply_same p (Ok r) l k e =
      said_same ks p r.answer (put_on l (effects_in r.effects)) (put_on k (effects_in r.effects))
      (put_same (effects_in r.effects) l k e)
  reply_same p (Err x) l k e = e

-- a reply that is told or refused, where what is refused says nothing
reply_told : (p code : ℕ) (r : Reply) (l : List Entry) → ((code ≡ 0 → ⊥) → said_on p r l ≡ l) → reply_on p (told code r) l ≡ said_on p r l
reply_told p zero r l silent = refl
reply_told p (suc k) r l silent = sym (silent (λ e. absurd (omega arith)))

-- one effect or none
one_put : (e : Option Effect) (l : List Entry) → put_on l (effects_in (three_effects (noted [] e))) ≡ did_entry e l
unfolding put_on appended
one_put None l = refl
one_put (Some e) l = refl

-- a refusal says nothing
abbrev nothing_said : Reply
nothing_said = record { answer = None; effects = three_effects []; steps = 0 }

refused_silent : (p code : ℕ) (l : List Entry) → reply_on p (told code nothing_said) l ≡ l
unfolding put_on
refused_silent p code l = reply_told p code nothing_said l (λ n. refl)

module _ (w most : ℕ) where
  -- ---- a line

  begin_silent : (m : Machine) (xs : List ℕ) (p : ℕ) (c : _) (l : List Entry) → reply_on p (of_outcome (begin w most m xs p c)).reply l ≡ l
  unfolding put_on
  begin_silent m xs p c l =
      begin_if w most m p c xs (λ (o : Outcome). reply_on p (of_outcome o).reply l ≡ l) (λ e. refl)
      (λ e. refused_silent p (begin_refusal w most m (length xs) p c) l)

  abbrev StepNoted : (p : ℕ) (l : List Entry) → Outcome → Type 0
  StepNoted p l o = reply_on p (of_outcome o).reply l ≡ recorded p o l

  step_noted : (m : Machine) (xs : List ℕ) (p : ℕ) (k : Mark) (l : List Entry) → StepNoted p l (step w most m xs p k)
  unfolding put_on
  step_noted m xs p k l =
      step_if w most m p k xs (StepNoted p l)
      (λ e. unfold taken in ap (said_entry p (taken w m xs p k).answer) (one_put (taken w m xs p k).effect l))
      (λ e. refused_silent p (step_refusal w most m (length xs) p k) l)

  abbrev AloneSaid : (p : ℕ) (l : List Entry) → Alone → Type 0
  AloneSaid p l b = reply_on p (of_alone b).reply l ≡ said_entry p b.answer (put_on l (effects_in (three_effects b.effects)))

  alone_said : (m : Machine) (xs : List ℕ) (p n : ℕ) (l : List Entry) → AloneSaid p l (alone w most m xs p n)
  unfolding put_on
  alone_said m xs p n l =
      reply_told p _ _ l (λ e. alone_if w most m p xs n (λ (b : Alone). (b.refusal ≡ 0 → ⊥) → said_entry p b.answer (put_on l (effects_in (three_effects b.effects))) ≡ l)
      (λ h i. absurd (i (runs_refusal w most p n (still m xs 0) refl))) (λ h i. refl) e)

  abbrev outcome : Run → Line → AfterAct
  outcome r x = acted w most r.machine r.items (party_of x) (act_of x)

  line_machine : (r : Run) (x : Line) → (outcome r x).machine ≡ (line w most r x).machine
  line_machine r (begins p c) = refl
  line_machine r (steps p k) = refl
  line_machine r (alones p n) = sym (alone_agrees w most r p n).machine

  line_items : (r : Run) (x : Line) → (outcome r x).items ≡ (line w most r x).items
  line_items r (begins p c) = refl
  line_items r (steps p k) = refl
  line_items r (alones p n) = sym (alone_agrees w most r p n).items

  line_lists : (ks : ℕ → Kind) (r : Run) (x : Line)
      → replay ks (reply_on (party_of x) (outcome r x).reply r.record') ≡ replay ks (line w most r x).record'
  line_lists ks r (begins p c) = ap (replay ks) (begin_silent r.machine r.items p c r.record')
  line_lists ks r (steps p k) = ap (replay ks) (step_noted r.machine r.items p k r.record')
  line_lists ks r (alones p n) =
      let b = alone w most r.machine r.items p n in
      ap (replay ks) (alone_said r.machine r.items p n r.record')
      ∙ ap (λ (es : List Effect). replay ks (said_entry p b.answer (put_on r.record' es))) (three b.effects (alone_few w p most r.machine r.items n))
      ∙ alone_record w most r p n ks

  next_machine : (r : Run) (x : Line) (o : AfterAct) → o ≡ outcome r x → o.machine ≡ (line w most r x).machine
  next_machine r x o e = ap (λ (q : AfterAct). q.machine) e ∙ line_machine r x

  next_items : (r : Run) (x : Line) (o : AfterAct) → o ≡ outcome r x → o.items ≡ (line w most r x).items
  next_items r x o e = ap (λ (q : AfterAct). q.items) e ∙ line_items r x

  next : (r : Run) (x : Line) (s : List Line) (o : AfterAct) (os : List AfterAct) → InARow w most r.machine r.items (x ∷ s) (o ∷ os)
      → InARow w most (line w most r x).machine (line w most r x).items s os
  unfolding InARow
  next r x s o os h =
      subst (λ (l : List ℕ). InARow w most (line w most r x).machine l s os) (next_items r x o h.0)
      (subst (λ (m : Machine). InARow w most m o.items s os) (next_machine r x o h.0) h.1)

  -- ---- a row of lines

  pub row_machine : (r : Run) (s : List Line) (os : List AfterAct) → InARow w most r.machine r.items s os
      → machine_after r.machine os ≡ (run_of w most r s).machine
  unfolding InARow machine_after run_of
  row_machine r [] [] h = refl
  row_machine r [] (o ∷ os) h = absurd h
  row_machine r (x ∷ s) [] h = absurd h
  row_machine r (x ∷ s) (o ∷ os) h = ap (λ (m : Machine). machine_after m os) (next_machine r x o h.0) ∙ row_machine (line w most r x) s os (next r x s o os h)

  pub row_items : (r : Run) (s : List Line) (os : List AfterAct) → InARow w most r.machine r.items s os
      → items_after r.items os ≡ (run_of w most r s).items
  unfolding InARow items_after run_of
  row_items r [] [] h = refl
  row_items r [] (o ∷ os) h = absurd h
  row_items r (x ∷ s) [] h = absurd h
  row_items r (x ∷ s) (o ∷ os) h = ap (λ (l : List ℕ). items_after l os) (next_items r x o h.0) ∙ row_items (line w most r x) s os (next r x s o os h)

  pub row_lists : (ks : ℕ → Kind) (r : Run) (s : List Line) (os : List AfterAct) → InARow w most r.machine r.items s os
      → (l : List Entry) → replay ks l ≡ replay ks r.record' → replay ks (replies_on s os l) ≡ replay ks (run_of w most r s).record'
  unfolding InARow replies_on run_of
  row_lists ks r [] [] h l e = e
  row_lists ks r [] (o ∷ os) h l e = absurd h
  row_lists ks r (x ∷ s) [] h l e = absurd h
  row_lists ks r (x ∷ s) (o ∷ os) h l e =
      row_lists ks (line w most r x) s os (next r x s o os h) (reply_on (party_of x) o.reply l)
      (reply_same ks (party_of x) o.reply l r.record' e
      ∙ ap (λ (q : AfterAct). replay ks (reply_on (party_of x) q.reply r.record')) h.0 ∙ line_lists ks r x)

  -- ---- claims 1 and 2, of what the code gave back

  module _ (r : Run) (s : List Line) (os : List AfterAct) (fresh : Fresh w most r) (keeps : Keeps w most r s)
      (row : InARow w most r.machine r.items s os) where
    abbrev plain : Plain
    plain = (agrees w most r s fresh keeps).plain

    pub replies_replay : replay (kinds_of (machine_after r.machine os)) (replies_on s os []) ≡ lists plain
    replies_replay =
        ap (λ (m : Machine). replay (kinds_of m) (replies_on s os [])) (row_machine r s os row)
        ∙ row_lists (kinds_of (run_of w most r s).machine) r s os row [] (ap (replay (kinds_of (run_of w most r s).machine)) (sym fresh.record_is))
        ∙ (agrees w most r s fresh keeps).possible

    pub replies_show : (q : ℕ) → q < (machine_after r.machine os).parties
        → plain.queue q ≡ shows w (machine_after r.machine os) (items_after r.items os) q
    replies_show q h =
        (agrees w most r s fresh keeps).shown q (subst (λ (m : Machine). q < m.parties) (row_machine r s os row) h)
        ∙ sym (λ i. shows w (row_machine r s os row i) (row_items r s os row i) q)
