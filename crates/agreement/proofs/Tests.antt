-- A run that begins at an opening; its positions within the width, and the premise along a schedule, found by computing.
use mathlib.Core.Path.{◌≡◌}
use mathlib.Core.Bool.{Bool, true, false, true≢false}
use mathlib.Core.List.{List, [], ◌∷◌}
use Prim.Native.Nat.{ℕ, zero, suc, ◌+◌, ◌-◌, ◌^◌, ◌<◌}
use lib.Dec.{ltb, eqb}
use lib.ListN.{length, get_or}
use lib.Pow.{pow_pos}
use borrow.Author.Tests.{ltb-true, eq-eqb}
use Rattle.words.specs.Word.{pick, doubled, pow_below}
use Rattle.tables.specs.declared.call.Mark.{Mark}
use Rattle.tables.specs.declared.state.Kind.{Kind}
use Rattle.tables.specs.declared.place.Place.{Place}
use Rattle.tables.specs.Machine.{base_of}
use Rattle.tables.specs.Step.{andb, source_at, place_at, opening, open_to, over_to, closed_queues, idle_parties, open_refusal, begin, begin_refusal}
use Rattle.tables.specs.Step.{step, step_refusal, taken, alone, alone_refusal, until, appended, sound, sound_to}
use Rattle.tables.specs.Lists.{replay, does, can, update, offer, accept, pop, book, leave, arrive, shut}
use Rattle.tables.specs.Causes.{no_notes, notes, at_booking, is_first, PlacePremise, Premise}
use Rattle.tables.proofs.Bools.{and_left, and_right}
use Rattle.agreement.specs.Statement.{Line, begins, steps, alones, Run, stepped, repeated, line, run_of, StepKeeps, RepeatKeeps, LineKeeps, Keeps}
use Rattle.agreement.proofs.Steps.{at_booking_lem}

abbrev pub opened : (w most : ℕ) → List Kind → (parties : ℕ) → (requests positions items : List ℕ) → Run
opened w most ks n rs ps xs = record { machine = (opening w most ks n rs ps (length xs)).machine; items = xs; record' = []; notes = no_notes }

-- a test, and what it shows where it comes to true
pub record Test (P : Type 0) : Type 0 where
  pub passed : Bool
  pub shows : passed ≡ true → P

unfoldable pub unit : Test (Unit {0})
unit = record { passed = true; shows = λ e. tt }

unfoldable pub less : (a b : ℕ) → Test (a < b)
less a b = record { passed = ltb a b; shows = λ e. ltb-true a b e }

unfoldable pub both : {P Q : Type 0} → Test P → Test Q → Test (P × Q)
both s t = record {
  passed = andb s.passed t.passed;
  shows = λ e. (s.shows (and_left s.passed t.passed e), t.shows (and_right s.passed t.passed e));
}

-- asked only where n is 0
unfoldable pub when_zero : {P : Type 0} (n : ℕ) → Test P → Test (n ≡ 0 → P)
when_zero n t = record { passed = pick (eqb n 0) t.passed true; shows = λ e z. t.shows (rw (eq-eqb n 0 z) at e) }

-- .. where t is false
unfoldable pub unless : {P : Type 0} (t : Bool) → Test P → Test (t ≡ false → P)
unless true s = record { passed = true; shows = λ e z. absurd (true≢false z) }
unless false s = record { passed = s.passed; shows = λ e z. s.shows e }

-- words of w bits
unfoldable pub all_below : (w : ℕ) (ps : List ℕ) → Test ((q : ℕ) → get_or ps q 0 < 2 ^ w)
all_below w [] = record { passed = true; shows = λ e q. pow_pos w }
all_below w (x ∷ ps) = record {
  passed = andb (ltb x (2 ^ w)) (all_below w ps).passed;
  shows =
      λ e. below (ltb-true x (2 ^ w) (and_left (ltb x (2 ^ w)) (all_below w ps).passed e))
      ((all_below w ps).shows (and_right (ltb x (2 ^ w)) (all_below w ps).passed e));
}
  where
    below : x < 2 ^ w → ((q : ℕ) → get_or ps q 0 < 2 ^ w) → (q : ℕ) → get_or (x ∷ ps) q 0 < 2 ^ w
    below a f zero = a
    below a f (suc q) = f q

-- ---- the premise, along a schedule

unfoldable pub place_test : (half : ℕ) (p : Place) (first moved : ℕ) → Test (PlacePremise half p first moved)
place_test half p f v = record {
  passed = at_booking true (λ g b. (unless (is_first b) (less v (f + half))).passed) p;
  shows =
      at_booking_lem (λ (z : Place) (t : Bool) (P : Type 0). t ≡ true → P) true (Unit {0}) (λ g b. (unless (is_first b) (less v (f + half))).passed)
      (λ g b. is_first b ≡ false → v < f + half) (λ z e. tt) (λ g b. (unless (is_first b) (less v (f + half))).shows) p;
}

module _ (w most : ℕ) where
  unfoldable pub premise_test : (r : Run) (p : ℕ) → Test (Premise w r.machine r.notes p)
  premise_test r p = place_test (2 ^ (w - 1)) (place_at r.machine p) (r.notes.first p) (r.notes.moved (source_at r.machine p))

  unfoldable pub step_test : (r : Run) (p : ℕ) (k : Mark) → Test (StepKeeps w most r p k)
  step_test r p k = when_zero (step w most r.machine r.items p k).refusal (premise_test r p)

  unfoldable pub repeat_test : (n : ℕ) (r : Run) (p : ℕ) → Test (RepeatKeeps w most n r p)
  unfolding RepeatKeeps
  repeat_test zero r p = unit
  repeat_test (suc n) r p = both (step_test r p Mark.Plain) (repeat_test n (stepped w most r p Mark.Plain) p)

  unfoldable pub line_test : (r : Run) (x : Line) → Test (LineKeeps w most r x)
  line_test r (begins p c) = unit
  line_test r (steps p k) = step_test r p k
  line_test r (alones p n) = repeat_test (alone w most r.machine r.items p n).steps r p

  unfoldable pub keeps_test : (r : Run) (s : List Line) → Test (Keeps w most r s)
  unfolding Keeps
  keeps_test r [] = unit
  keeps_test r (x ∷ s) = both (line_test r x) (keeps_test (line w most r x) s)

-- ---- what is computed along a schedule: to unfold one of these is to unfold all that it names

unfoldable pub machine_clauses : Unit {0}
unfolding opening open_to over_to closed_queues idle_parties open_refusal begin begin_refusal step step_refusal taken alone alone_refusal until appended sound sound_to base_of doubled pow_below
machine_clauses = tt

unfoldable pub record_clauses : Unit {0}
unfolding run_of repeated notes replay does can update offer accept pop book leave arrive shut
record_clauses = tt

unfoldable pub test_clauses : Unit {0}
unfolding unit less both when_zero unless all_below place_test premise_test step_test repeat_test line_test keeps_test
test_clauses = tt
