-- `act` put together: what an act of the record leaves is what is left in the block.
use Prim.Native.Nat.{ℕ}
use mathlib.Core.Path.{◌≡◌, sym, ap, subst, ◌∙◌}
use mathlib.Core.Bool.{false}
use mathlib.Core.List.{List, []}
use lib.ListN.{length}
use Rattle.std.specs.Prelude.{Result, Ok, Err}
use Rattle.tables.specs.declared.answer.Refusal.{Refusal}
use Rattle.tables.specs.declared.call.Act.{Act}
use Rattle.tables.specs.declared.state.Machine.{Machine}
use Rattle.tables.specs.Refusal.{told}
use Rattle.tables.specs.Step.{AfterAct, Outcome, Alone, of_outcome, of_alone, noted, three_effects, begin, step, alone, acted}
use Rattle.tables.specs.Step.{sound, begin_refusal, step_refusal, alone_refusal}
use Rattle.tables.proofs.Bools.{pick_no}
use Rattle.tables.proofs.Refused.{begin_refusal_lem, begin_unchanged, step_refusal_lem, step_unchanged}
use Rattle.tables.proofs.Alone.{alone_refusal_lem, alone_unchanged}
use Rattle.machine.specs.declared.desk.TurnAt.{TurnAt}
use Rattle.machine.specs.Desk as D
use Rattle.machine.specs.Desk.{put_back}
use Rattle.machine.proofs.Told.{err_code}
use Rattle.block.specs.Block.{is_block, machine_of}
use Rattle.block.specs.Contents.{Contents, contents_in, changed, Left, code_of, left_of, left_by, left}
use Rattle.block.specs.Reply.{reply_words}

-- ---- what a refusal leaves

outcome_one : (o : Outcome) → o.refusal ≡ 1 → (of_outcome o).reply ≡ Err Refusal.Record
outcome_one o e =
    ap (λ (k : ℕ). told k (record { answer = o.answer; effects = three_effects (noted [] o.effect); steps = 0 })) e

alone_one : (o : Alone) → o.refusal ≡ 1 → (of_alone o).reply ≡ Err Refusal.Record
alone_one o e = ap (λ (k : ℕ). told k (record { answer = o.answer; effects = three_effects o.effects; steps = o.steps })) e

module _ (w most : ℕ) (m : Machine) (xs : List ℕ) (who : ℕ) where
  pub refused_same : (act : Act) {e : Refusal} → Err e ≡ (acted w most m xs who act).reply
      → ((acted w most m xs who act).machine ≡ m) × ((acted w most m xs who act).items ≡ xs)
  refused_same (Act.Begin c) p = let u = begin_unchanged w most m who c xs (err_code _ _ p).0 in (u.machine, u.items)
  refused_same (Act.Step k) p = let u = step_unchanged w most m who k xs (err_code _ _ p).0 in (u.machine, u.items)
  refused_same (Act.Alone b) p = let u = alone_unchanged w most who m xs b (err_code _ _ p).0 in (u.machine, u.items)

  -- a record that fails its test is refused with 1
  unsound : (act : Act) → sound w most m (length xs) ≡ false → (acted w most m xs who act).reply ≡ Err Refusal.Record
  unfolding begin_refusal step_refusal alone_refusal
  unsound (Act.Begin c) e =
      outcome_one (begin w most m xs who c)
      (begin_refusal_lem w most m who c xs ∙ pick_no (sound w most m (length xs)) _ 1 e)
  unsound (Act.Step k) e =
      outcome_one (step w most m xs who k)
      (step_refusal_lem w most m who k xs ∙ pick_no (sound w most m (length xs)) _ 1 e)
  unsound (Act.Alone b) e =
      alone_one (alone w most m xs who b)
      (alone_refusal_lem w most who m xs b ∙ pick_no (sound w most m (length xs)) _ 1 e)

-- ---- what an act leaves in a block, whose words `words` are

module _ (w most : ℕ) {words block : List ℕ} (same : words ≡ block) (items : List ℕ) (who : ℕ) (act : Act) where
  abbrev h : Contents
  h = contents_in w most block

  moved : (a : List ℕ → AfterAct) → a words ≡ acted w most (machine_of w most words) items who act
      → left_by h items (a block) ≡ left w most h items who act
  unfolding left
  moved a p =
      ap (left_by h items) (subst (λ (xs : List ℕ). a xs ≡ acted w most (machine_of w most xs) items who act) same p)

  pub act_taken : (t : TurnAt) {ys : List ℕ} {held : Contents}
      → D.left_by (machine_of w most words) (Ok t) ys ≡ acted w most (machine_of w most words) items who act
      → held ≡ changed h (put_back (machine_of w most block) t.x t.y t.turn.desk) (reply_words t.turn.reply)
      → ◌≡◌ {A = Left} (record { held = held; items = ys; refusal = 0 }) (left w most h items who act)
  act_taken t {ys} p e =
      (λ i. record { held = e i; items = ys; refusal = 0 }) ∙ moved (λ xs. D.left_by (machine_of w most xs) (Ok t) ys) p

  pub act_refused : (e : Refusal) {ys : List ℕ} {r : Result (Unit {0}) Refusal}
      → D.left_by (machine_of w most words) (Err e) ys ≡ acted w most (machine_of w most words) items who act
      → r ≡ Err e → ◌≡◌ {A = Left} (record { held = h; items = ys; refusal = code_of r }) (left w most h items who act)
  act_refused e {ys} p q =
      let kept : ys ≡ items =
      ap (λ (a : AfterAct). a.items) p
      ∙ (refused_same w most (machine_of w most words) items who act (ap (λ (a : AfterAct). a.reply) p)).1 in
      (λ i. record { held = h; items = kept i; refusal = code_of (q i) }) ∙ moved (λ xs. D.left_by (machine_of w most xs) (Err e) ys) p

-- words that are no block: refusal 1
module _ (w most : ℕ) (xs : List ℕ) (no : is_block most xs ≡ false) where
  none_sound : (lent : ℕ) → sound w most (machine_of w most xs) lent ≡ false
  unfolding sound machine_of
  none_sound lent = simp no

  pub act_none : (items : List ℕ) (who : ℕ) (act : Act)
      → ◌≡◌ {A = Left} (record { held = contents_in w most xs; items = items; refusal = 1 }) (left w most (contents_in w most xs) items who act)
  unfolding left
  act_none items who act =
      let m : Machine = machine_of w most xs in
      let a : AfterAct = acted w most m items who act in
      sym (ap (left_of (contents_in w most xs) items a.machine a.items) (unsound w most m items who act (none_sound (length items))))
