-- What refuses, and what then happens: nothing. Begin, step, run alone and opening, each taken or refused.
use Prim.Native.Nat.{ℕ, ◌<◌, ◌≤◌}
use mathlib.Core.Path.{◌≡◌, refl, sym, ◌∙◌}
use mathlib.Core.Bool.{Bool, true, false}
use mathlib.Core.List.{List, []}
use native.Mathlib.Omega.{arith}
use borrow.Author.Tests.{ltb-true, lt-ltb, eqb-true, eqb-false, leb-true}
use lib.Dec.{ltb, leb, eqb}
use lib.ListN.{length}
use Rattle.std.specs.Prelude.{None}
use Rattle.tables.specs.Step.{Opening}
use Rattle.words.specs.Word.{pick}
use Rattle.tables.specs.declared.call.Call.{Call}
use Rattle.tables.specs.declared.call.Mark.{Mark}
use Rattle.tables.specs.declared.state.Kind.{Kind}
use Rattle.tables.specs.declared.state.Machine.{Machine}
use Rattle.tables.specs.Machine.{base_of}
use Rattle.tables.specs.Access.{is_cas}
use Rattle.tables.specs.Tables.{is_idle, wish_of, mark_fits, call_source}
use Rattle.tables.specs.Step.{andb, Outcome, refused, sound, tables, closed_queues, open_queues, over_to, open_refusal, opening, begun, begin_refusal}
use Rattle.tables.specs.Step.{begin, place_at, row_at, taken, step_refusal, step, Alone, runs, still, alone_refusal, alone}
use Rattle.tables.proofs.Bools.{pick_if, pick_yes, pick_no, and_left, and_right}

-- ---- a pick that comes to 0 took the other arm

pub zero_then : (t : Bool) (x k : ℕ) → 0 < k → pick t x k ≡ 0 → (t ≡ true) × (x ≡ 0)
zero_then true x k p e = (refl, e)
zero_then false x k p e = absurd (omega arith)

pub zero_else : (t : Bool) (k x : ℕ) → 0 < k → pick t k x ≡ 0 → (t ≡ false) × (x ≡ 0)
zero_else true k x p e = absurd (omega arith)
zero_else false k x p e = (refl, e)

-- what a refused call of the machine comes to
pub record Unchanged (m : Machine) (xs : List ℕ) (o : Outcome) : Type 0 where
  pub machine : o.machine ≡ m
  pub items : o.items ≡ xs
  pub answer : o.answer ≡ None
  pub effect : o.effect ≡ None

pub unchanged : (m : Machine) (xs : List ℕ) (k : ℕ) → Unchanged m xs (refused m xs k)
unchanged m xs k = record { machine = refl; items = refl; answer = refl; effect = refl }

-- ---- begin

module _ (w most : ℕ) (m : Machine) (who : ℕ) (c : Call) where
  pub record CanBegin (lent : ℕ) : Type 0 where
    pub sound_is : sound w most m lent ≡ true
    pub here : who < m.parties
    pub idle : is_idle (place_at m who) ≡ true
    pub there : call_source who c < m.parties

  pub begin_needs : (lent : ℕ) → begin_refusal w most m lent who c ≡ 0 → CanBegin lent
  unfolding begin_refusal
  begin_needs lent e =
      let a = zero_then (sound w most m lent) _ 1 (omega arith) e in
      let b = zero_then (ltb who m.parties) _ 2 (omega arith) a.1 in
      let d = zero_then (is_idle (place_at m who)) _ 3 (omega arith) b.1 in
      let f = zero_then _ _ 5 (omega arith) d.1 in
      record { sound_is = a.0; here = ltb-true _ _ b.0; idle = d.0; there = ltb-true _ _ f.0 }

  pub begin_can : (lent : ℕ) → CanBegin lent → begin_refusal w most m lent who c ≡ 0
  unfolding begin_refusal
  begin_can lent d =
      pick_yes (sound w most m lent) _ 1 d.sound_is
      ∙ pick_yes (ltb who m.parties) _ 2 (lt-ltb _ _ d.here)
      ∙ pick_yes (is_idle (place_at m who)) _ 3 d.idle
      ∙ pick_yes (ltb (call_source who c) m.parties) 0 5 (lt-ltb _ _ d.there)

  module _ (xs : List ℕ) where
    abbrev pub began : Outcome
    began = record { machine = begun m who c; items = xs; answer = None; effect = None; refusal = 0 }

    pub begin_if : (P : Outcome → Type 0) → (begin_refusal w most m (length xs) who c ≡ 0 → P began)
        → ((begin_refusal w most m (length xs) who c ≡ 0 → ⊥) → P (refused m xs (begin_refusal w most m (length xs) who c)))
        → P (begin w most m xs who c)
    unfolding begin
    begin_if P f g = pick_if P (eqb (begin_refusal w most m (length xs) who c) 0) (λ h. f (eqb-true _ _ h)) (λ h. g (eqb-false _ _ h))

    pub begin_refusal_lem : (begin w most m xs who c).refusal ≡ begin_refusal w most m (length xs) who c
    begin_refusal_lem = begin_if (λ (o : Outcome). o.refusal ≡ begin_refusal w most m (length xs) who c) (λ e. sym e) (λ e. refl)

    pub begin_unchanged : ((begin w most m xs who c).refusal ≡ 0 → ⊥) → Unchanged m xs (begin w most m xs who c)
    begin_unchanged = begin_if (λ (o : Outcome). (o.refusal ≡ 0 → ⊥) → Unchanged m xs o) (λ e n. absurd (n refl)) (λ e n. unchanged m xs _)

-- ---- step

module _ (w most : ℕ) (m : Machine) (who : ℕ) (mark : Mark) where
  pub record CanStep (lent : ℕ) : Type 0 where
    pub sound_is : sound w most m lent ≡ true
    pub here : who < m.parties
    pub under_way : is_idle (place_at m who) ≡ false
    pub fits : mark_fits (wish_of (place_at m who)) (is_cas (row_at w m who mark).access) mark ≡ true

  pub step_needs : (lent : ℕ) → step_refusal w most m lent who mark ≡ 0 → CanStep lent
  unfolding step_refusal
  step_needs lent e =
      let a = zero_then (sound w most m lent) _ 1 (omega arith) e in
      let b = zero_then (ltb who m.parties) _ 2 (omega arith) a.1 in
      let d = zero_else (is_idle (place_at m who)) 4 _ (omega arith) b.1 in
      let f = zero_then (mark_fits (wish_of (place_at m who)) (is_cas (row_at w m who mark).access) mark) 0 6 (omega arith) d.1 in
      record { sound_is = a.0; here = ltb-true _ _ b.0; under_way = d.0; fits = f.0 }

  pub step_can : (lent : ℕ) → CanStep lent → step_refusal w most m lent who mark ≡ 0
  unfolding step_refusal
  step_can lent c =
      pick_yes (sound w most m lent) _ 1 c.sound_is
      ∙ pick_yes (ltb who m.parties) _ 2 (lt-ltb _ _ c.here)
      ∙ pick_no (is_idle (place_at m who)) 4 _ c.under_way
      ∙ pick_yes (mark_fits (wish_of (place_at m who)) (is_cas (row_at w m who mark).access) mark) 0 6 c.fits

  module _ (xs : List ℕ) where
    pub step_if : (P : Outcome → Type 0) → (step_refusal w most m (length xs) who mark ≡ 0 → P (taken w m xs who mark))
        → ((step_refusal w most m (length xs) who mark ≡ 0 → ⊥) → P (refused m xs (step_refusal w most m (length xs) who mark)))
        → P (step w most m xs who mark)
    unfolding step
    step_if P f g = pick_if P (eqb (step_refusal w most m (length xs) who mark) 0) (λ h. f (eqb-true _ _ h)) (λ h. g (eqb-false _ _ h))

    pub step_refusal_lem : (step w most m xs who mark).refusal ≡ step_refusal w most m (length xs) who mark
    unfolding taken
    step_refusal_lem = step_if (λ (o : Outcome). o.refusal ≡ step_refusal w most m (length xs) who mark) (λ e. sym e) (λ e. refl)

    pub step_taken : step_refusal w most m (length xs) who mark ≡ 0 → step w most m xs who mark ≡ taken w m xs who mark
    step_taken =
        step_if (λ (o : Outcome). step_refusal w most m (length xs) who mark ≡ 0 → o ≡ taken w m xs who mark) (λ e h. refl)
        (λ n h. absurd (n h))

    pub step_unchanged : ((step w most m xs who mark).refusal ≡ 0 → ⊥) → Unchanged m xs (step w most m xs who mark)
    unfolding taken
    step_unchanged = step_if (λ (o : Outcome). (o.refusal ≡ 0 → ⊥) → Unchanged m xs o) (λ e n. absurd (n refl)) (λ e n. unchanged m xs _)

-- ---- run alone

module _ (w most : ℕ) (m : Machine) (who : ℕ) where
  pub record CanRun (lent : ℕ) : Type 0 where
    pub sound_is : sound w most m lent ≡ true
    pub here : who < m.parties
    pub under_way : is_idle (place_at m who) ≡ false

  pub alone_needs : (lent : ℕ) → alone_refusal w most m lent who ≡ 0 → CanRun lent
  unfolding alone_refusal
  alone_needs lent e =
      let a = zero_then (sound w most m lent) _ 1 (omega arith) e in
      let b = zero_then (ltb who m.parties) _ 2 (omega arith) a.1 in
      let d = zero_else (is_idle (place_at m who)) 4 0 (omega arith) b.1 in
      record { sound_is = a.0; here = ltb-true _ _ b.0; under_way = d.0 }

  pub alone_can : (lent : ℕ) → CanRun lent → alone_refusal w most m lent who ≡ 0
  unfolding alone_refusal
  alone_can lent c =
      pick_yes (sound w most m lent) _ 1 c.sound_is
      ∙ pick_yes (ltb who m.parties) _ 2 (lt-ltb _ _ c.here)
      ∙ pick_no (is_idle (place_at m who)) 4 0 c.under_way

  module _ (xs : List ℕ) (budget : ℕ) where
    pub alone_if : (P : Alone → Type 0) → (alone_refusal w most m (length xs) who ≡ 0 → P (runs w who budget (still m xs 0)))
        → ((alone_refusal w most m (length xs) who ≡ 0 → ⊥) → P (still m xs (alone_refusal w most m (length xs) who)))
        → P (alone w most m xs who budget)
    unfolding alone
    alone_if P f g = pick_if P (eqb (alone_refusal w most m (length xs) who) 0) (λ h. f (eqb-true _ _ h)) (λ h. g (eqb-false _ _ h))

-- a refused run alone
pub record Standing (m : Machine) (xs : List ℕ) (r : Alone) : Type 0 where
  pub machine : r.machine ≡ m
  pub items : r.items ≡ xs
  pub answer : r.answer ≡ None
  pub effects : r.effects ≡ []
  pub steps : r.steps ≡ 0

-- ---- opening

module _ (w most : ℕ) (ks : List Kind) (n : ℕ) (rs ps : List ℕ) (lent : ℕ) where
  pub record CanOpen : Type 0 where
    pub some : 0 < n
    pub few : n ≤ most
    pub requests : over_to w rs n ≡ false
    pub fits : base_of n (open_queues w most ks n rs ps) ≤ lent

  pub open_needs : open_refusal w most ks n rs ps lent ≡ 0 → CanOpen
  unfolding open_refusal
  open_needs e =
      let a = zero_then (andb (ltb 0 n) (leb n most)) _ 1 (omega arith) e in
      let b = zero_else (over_to w rs n) 7 _ (omega arith) a.1 in
      let d = zero_then (leb (base_of n (open_queues w most ks n rs ps)) lent) 0 8 (omega arith) b.1 in
      record {
        some = ltb-true _ _ (and_left (ltb 0 n) (leb n most) a.0);
        few = leb-true _ _ (and_right (ltb 0 n) (leb n most) a.0);
        requests = b.0;
        fits = leb-true _ _ d.0;
      }

  pub opening_if : (P : Opening → Type 0)
      → (open_refusal w most ks n rs ps lent ≡ 0 → P (record { machine = tables most n (open_queues w most ks n rs ps); refusal = 0 }))
      → ((open_refusal w most ks n rs ps lent ≡ 0 → ⊥) → P
      (record { machine = tables most 0 (closed_queues most ks); refusal = open_refusal w most ks n rs ps lent }))
      → P (opening w most ks n rs ps lent)
  unfolding opening
  opening_if P f g = pick_if P (eqb (open_refusal w most ks n rs ps lent) 0) (λ h. f (eqb-true _ _ h)) (λ h. g (eqb-false _ _ h))

  pub opening_refusal : (opening w most ks n rs ps lent).refusal ≡ open_refusal w most ks n rs ps lent
  opening_refusal = opening_if (λ (o : Opening). o.refusal ≡ open_refusal w most ks n rs ps lent) (λ e. sym e) (λ e. refl)

  -- refused: 0 parties, the kinds asked, all else idle or 0
  pub opening_refused : ((opening w most ks n rs ps lent).refusal ≡ 0 → ⊥)
      → (opening w most ks n rs ps lent).machine ≡ tables most 0 (closed_queues most ks)
  opening_refused =
      opening_if (λ (o : Opening). (o.refusal ≡ 0 → ⊥) → o.machine ≡ tables most 0 (closed_queues most ks)) (λ e n. absurd (n refl))
      (λ e n. refl)

  pub opening_taken : (opening w most ks n rs ps lent).refusal ≡ 0
      → (opening w most ks n rs ps lent).machine ≡ tables most n (open_queues w most ks n rs ps)
  opening_taken =
      opening_if (λ (o : Opening). o.refusal ≡ 0 → o.machine ≡ tables most n (open_queues w most ks n rs ps)) (λ e h. refl)
      (λ n h. absurd (n h))
