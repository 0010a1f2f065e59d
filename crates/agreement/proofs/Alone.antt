-- Claim 5, but for the lists: running alone is that many single steps: machine, items, answer, effects with dropped ones in a row as one.
-- Each of its turns is a plain step that nothing refuses (tables/proofs/Alone), and what it gathers is gathered step by step.
use Prim.Native.Nat.{ℕ, zero, suc, ◌+◌}
use mathlib.Core.Path.{◌≡◌, refl, sym, ap, subst, ◌∙◌}
use mathlib.Core.Bool.{true, true≢false}
use mathlib.Core.List.{List, [], ◌∷◌}
use native.Mathlib.Omega.{arith}
use lib.ListN.{length}
use Rattle.std.specs.Prelude.{Option, Some, None}
use Rattle.tables.specs.declared.answer.Answer.{Answer}
use Rattle.tables.specs.declared.answer.Effect.{Effect}
use Rattle.tables.specs.declared.call.Mark.TheVariants as Mark
use Rattle.tables.specs.Answer.{is_pending}
use Rattle.tables.specs.Step.{Outcome, taken, step, Alone, noted, stops, onward, runs, until, still, alone}
use Rattle.tables.specs.Lists.{Entry}
use Rattle.tables.proofs.Bools.{pick_if}
use Rattle.tables.proofs.Refused.{step_refusal_lem, alone_needs, alone_if}
use Rattle.tables.proofs.Alone.{Going, turn_pending, turn_can, turn_is_step, turn_going, going_still}
use Rattle.agreement.specs.Statement.{Run, did_entry, said_entry, recorded, stepped, repeated, singles, NoneRefused, last_answer, gathered}

-- their effects put on a record
unfoldable pub singles_on : List Entry → List Outcome → List Entry
singles_on l [] = l
singles_on l (o ∷ os) = singles_on (did_entry o.effect l) os

said_none : (p : ℕ) (a : Option Answer) (l : List Entry) → is_pending a ≡ true → said_entry p a l ≡ l
said_none p None l e = refl
said_none p (Some a) l e = absurd (true≢false (sym e))

-- running alone, from a run on
abbrev pub alongside : Run → Option Answer → List Effect → (steps : ℕ) → Alone
alongside r a es n = record { machine = r.machine; items = r.items; answer = a; effects = es; steps = n; refusal = 0 }

-- so many single steps come to where running alone comes; l is the record but for an answer on top
pub record Follows (w most : ℕ) (r : Run) (p : ℕ) (l : List Entry) (a : Option Answer) (es : List Effect) (n : ℕ) (b : Alone) : Type 0 where
  pub turns : ℕ
  pub steps : b.steps ≡ n + turns
  pub machine : (repeated w most turns r p).machine ≡ b.machine
  pub items : (repeated w most turns r p).items ≡ b.items
  pub answer : b.answer ≡ last_answer a (singles w most turns r p)
  pub effects : b.effects ≡ gathered es (singles w most turns r p)
  pub taken : NoneRefused (singles w most turns r p)
  pub record_is : (repeated w most turns r p).record' ≡ said_entry p b.answer (singles_on l (singles w most turns r p))

module _ (w most p : ℕ) where
  none_yet : (r : Run) (l : List Entry) (a : Option Answer) (es : List Effect) (n : ℕ) → r.record' ≡ said_entry p a l
      → Follows w most r p l a es n (alongside r a es n)
  unfolding repeated singles last_answer gathered singles_on NoneRefused
  none_yet r l a es n e =
      record { turns = 0; steps = omega arith; machine = refl; items = refl; answer = refl; effects = refl; taken = tt; record_is = e }

  one_more : (r : Run) (l : List Entry) (a : Option Answer) (es : List Effect) (n : ℕ) (b : Alone)
      → (step w most r.machine r.items p Mark.Plain).refusal ≡ 0
      → Follows w most (stepped w most r p Mark.Plain) p (did_entry (step w most r.machine r.items p Mark.Plain).effect l)
      (step w most r.machine r.items p Mark.Plain).answer (noted es (step w most r.machine r.items p Mark.Plain).effect) (n + 1) b
      → Follows w most r p l a es n b
  unfolding repeated singles last_answer gathered singles_on NoneRefused
  one_more r l a es n b z f = record {
    turns = suc f.turns;
    steps = omega (arith, f.steps);
    machine = f.machine;
    items = f.items;
    answer = f.answer;
    effects = f.effects;
    taken = (z, f.taken);
    record_is = f.record_is;
  }

  follows : (k : ℕ) (r : Run) (l : List Entry) (a : Option Answer) (es : List Effect) (n : ℕ) → Going w most p (alongside r a es n)
      → r.record' ≡ said_entry p a l
      → Follows w most r p l a es n (runs w p k (alongside r a es n))
  unfolding until
  follows zero r l a es n g e = none_yet r l a es n e
  follows (suc k) r l a es n g e =
      pick_if (Follows w most r p l a es n) (stops p (alongside r a es n)) (λ h. none_yet r l a es n e)
      (λ h.
      let same : step w most r.machine r.items p Mark.Plain ≡ taken w r.machine r.items p Mark.Plain =
      turn_is_step w most p (alongside r a es n) g h in
      let go : Going w most p (onward (alongside r a es n) (step w most r.machine r.items p Mark.Plain)) =
      rw same (turn_going w most p (alongside r a es n) g h) in
      let bare : r.record' ≡ l = e ∙ said_none p a l (turn_pending w most p (alongside r a es n) g h) in
      subst (λ (o : Outcome). Follows w most r p l a es n (runs w p k (onward (alongside r a es n) o))) same
      (one_more r l a es n _ (step_refusal_lem w most r.machine p Mark.Plain r.items ∙ turn_can w most p (alongside r a es n) g h)
      (follows k (stepped w most r p Mark.Plain) _ _ _ (n + 1) go
      (ap (λ (x : List Entry). recorded p (step w most r.machine r.items p Mark.Plain) x) bare))))

-- ---- the claim

pub record AsSingles (w most : ℕ) (r : Run) (p : ℕ) (b : Alone) : Type 0 where
  pub machine : (repeated w most b.steps r p).machine ≡ b.machine
  pub items : (repeated w most b.steps r p).items ≡ b.items
  pub answer : b.answer ≡ last_answer None (singles w most b.steps r p)
  pub effects : b.effects ≡ gathered [] (singles w most b.steps r p)
  pub taken : NoneRefused (singles w most b.steps r p)
  pub record_is : (repeated w most b.steps r p).record' ≡ said_entry p b.answer (singles_on r.record' (singles w most b.steps r p))

as_singles : (w most : ℕ) (r : Run) (p : ℕ) (b : Alone) → Follows w most r p r.record' None [] 0 b → AsSingles w most r p b
as_singles w most r p b f =
    let e : f.turns ≡ b.steps = omega (arith, f.steps) in
    record {
      machine = rw e at f.machine;
      items = rw e at f.items;
      answer = rw e at f.answer;
      effects = rw e at f.effects;
      taken = rw e at f.taken;
      record_is = rw e at f.record_is;
    }

none_taken : (w most : ℕ) (r : Run) (p k : ℕ) → AsSingles w most r p (still r.machine r.items k)
unfolding repeated singles last_answer gathered singles_on NoneRefused
none_taken w most r p k = record { machine = refl; items = refl; answer = refl; effects = refl; taken = tt; record_is = refl }

pub alone_is_singles : (w most : ℕ) (r : Run) (p n : ℕ) → AsSingles w most r p (alone w most r.machine r.items p n)
alone_is_singles w most r p n =
    alone_if w most r.machine p r.items n (AsSingles w most r p)
    (λ e. as_singles w most r p _
    (follows w most p n r r.record' None [] 0
    (going_still w most p r.machine r.items n (alone_needs w most r.machine p (length r.items) e)) refl))
    (λ e. none_taken w most r p _)
