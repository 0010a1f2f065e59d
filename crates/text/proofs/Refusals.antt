-- In a running session a refused line changes nothing but the line count: a malformed or misplaced line leaves machine and items alone, so
-- does a begin or step that the machine refuses, and a line that prints an answer or nothing was not refused.
use Rattle.std.proofs.Common.{Option, Some, None, ◌≡◌, ℕ, zero, suc, true, List, [], ◌∷◌, ◌++◌, get_or, sym, refl, ap, ◌∙◌, ap₂, true≢false, arith}
use Rattle.tables.specs.declared.answer.Answer.{Answer}
use Rattle.tables.specs.declared.answer.Reply.{Reply}
use Rattle.tables.specs.declared.state.Machine.{Machine}
use Rattle.tables.specs.Refusal.{told}
use Rattle.tables.specs.Step.{Outcome, of_outcome, begin, step}
use Rattle.tables.proofs.Refused.{Unchanged, begin_unchanged, step_unchanged}
use Rattle.text.specs.declared.Line.{Line}
use Rattle.text.specs.declared.session.Session.{Session}
use Rattle.text.specs.declared.session.Stage.{Stage}
use Rattle.text.specs.Line.{read_of}
use Rattle.text.specs.Write.{answer_of, refused_of}
use Rattle.text.specs.Session.{State, Turn, state_of, counted, is_running, is_over, answer_text, outcome_text, acts, line_taken, next_of}
use Rattle.text.specs.Output.{after, lines_taken, rest_lines, whole}
use Rattle.text.proofs.Leftover.{lines_more}

running_is : (g : Stage) → is_running g ≡ true → g ≡ Stage.Running
running_is Stage.MachineLine e = absurd (true≢false (sym e))
running_is Stage.QueueLines e = absurd (true≢false (sym e))
running_is Stage.Running e = refl
running_is Stage.Over e = absurd (true≢false (sym e))

-- by the first byte
no_answer : (p : ℕ) (a : Answer) (n code : ℕ) → answer_of p a ≡ refused_of n code → ⊥
unfolding answer_of refused_of
no_answer p a n code e = omega (arith, ap (λ (l : List ℕ). get_or l 0 0) e)

no_silence : (n code : ℕ) → [] ≡ refused_of n code → ⊥
unfolding refused_of
no_silence n code e = omega (arith, ap (λ (l : List ℕ). get_or l 0 0) e)

outcome_refused : (line p : ℕ) (r : Reply) (k n code : ℕ) → outcome_text line p (told k r) ≡ refused_of n code → k ≡ 0 → ⊥
outcome_refused line p r zero n code e d = by r.answer e
  where
    by : (a : Option Answer) → answer_text p a ≡ refused_of n code → ⊥
    by None e = no_silence n code e
    by (Some a) e = no_answer p a n code e
outcome_refused line p r (suc k) n code e d = omega arith

-- a begin or a step
outcome_left : (m : Machine) (xs : List ℕ) (s : Session) (p n code : ℕ) (o : Outcome) → s.stage ≡ Stage.Running
    → ((o.refusal ≡ 0 → ⊥) → Unchanged m xs o)
    → (acts m xs s p (of_outcome o)).text ≡ refused_of n code → (acts m xs s p (of_outcome o)).state ≡ state_of s m xs
outcome_left m xs s p n code o g un =
    rw (ap is_running g)
    (λ e.
    let u = un (outcome_refused s.line p _ o.refusal n code e) in
    ap₂ (λ (x : Machine) (ys : List ℕ). state_of s x ys) u.machine u.items)

line_left_lem : (w most : ℕ) (m : Machine) (xs : List ℕ) (s : Session) (l : Line) (n code : ℕ) → s.stage ≡ Stage.Running
    → (line_taken w most m xs s l).text ≡ refused_of n code → (line_taken w most m xs s l).state ≡ state_of s m xs
unfolding line_taken
line_left_lem w most m xs s (Line.Machine k parties) n code g e = rw g refl
line_left_lem w most m xs s (Line.Queue r p) n code g e = rw g refl
line_left_lem w most m xs s (Line.Begin p c) n code g e =
    outcome_left m xs s p n code (begin w most m xs p c) g (begin_unchanged w most m p c xs) e
line_left_lem w most m xs s (Line.Step p k) n code g e =
    outcome_left m xs s p n code (step w most m xs p k) g (step_unchanged w most m p k xs) e
line_left_lem w most m xs s Line.Malformed n code g e = rw g refl

-- the state after a refused line is the state before it but for the line count
pub refused_only : (w most : ℕ) (st : State) (l : List ℕ) (n code : ℕ) → is_running st.session.stage ≡ true
    → (after w most st l).text ≡ refused_of n code → (after w most st l).state ≡ state_of (counted st.session) st.machine st.items
unfolding next_of
refused_only w most st l n code g e =
    line_left_lem w most st.machine st.items (counted st.session) (read_of w l) n code (running_is st.session.stage g) e

-- so that after the refusal the lines that follow go on from the state before it, one line further
pub refused_then : (w most : ℕ) (st : State) (l : List ℕ) (ls : List (List ℕ)) (n code : ℕ) → is_running st.session.stage ≡ true
    → (after w most st l).text ≡ refused_of n code
    → whole w most (lines_taken w most st (l ∷ ls))
    ≡ refused_of n code ++ whole w most (lines_taken w most (state_of (counted st.session) st.machine st.items) ls)
refused_then w most st l ls n code g e =
    lines_more w most st l ls
    ∙ ap₂ (λ (x : List ℕ) (s : State). x ++ whole w most (lines_taken w most s ls)) e (refused_only w most st l n code g e)

-- ---- once the opening was refused nothing more is said

over_is : (g : Stage) → is_over g ≡ true → g ≡ Stage.Over
over_is Stage.MachineLine e = absurd (true≢false (sym e))
over_is Stage.QueueLines e = absurd (true≢false (sym e))
over_is Stage.Running e = absurd (true≢false (sym e))
over_is Stage.Over e = refl

module _ (w most : ℕ) where
  pub record Silent (t : Turn) : Type 0 where
    pub nothing : t.text ≡ []
    pub still : t.state.session.stage ≡ Stage.Over

  over_line : (m : Machine) (xs : List ℕ) (s : Session) → s.stage ≡ Stage.Over → (l : Line) → Silent (line_taken w most m xs s l)
  unfolding line_taken
  over_line m xs s e (Line.Machine k n) = record { nothing = rw e refl; still = rw e refl }
  over_line m xs s e (Line.Queue r p) = record { nothing = rw e refl; still = rw e refl }
  over_line m xs s e (Line.Begin p c) = record { nothing = rw e refl; still = rw e refl }
  over_line m xs s e (Line.Step p k) = record { nothing = rw e refl; still = rw e refl }
  over_line m xs s e Line.Malformed = record { nothing = rw e refl; still = rw e refl }

  over_lines : (ls : List (List ℕ)) (st : State) → st.session.stage ≡ Stage.Over → Silent (lines_taken w most st ls)
  unfolding lines_taken next_of
  over_lines [] st e = record { nothing = refl; still = e }
  over_lines (l ∷ ls) st e =
      let one = over_line st.machine st.items (counted st.session) e (read_of w l) in
      let more = over_lines ls (after w most st l).state one.still in
      record { nothing = ap₂ (λ (a b : List ℕ). a ++ b) one.nothing more.nothing; still = more.still }

  pub over_then : (st : State) (ls : List (List ℕ)) → is_over st.session.stage ≡ true → whole w most (lines_taken w most st ls) ≡ []
  unfolding rest_lines
  over_then st ls e =
      let t = over_lines ls st (over_is st.session.stage e) in
      ap₂ (λ (a b : List ℕ). a ++ b) t.nothing (rw t.still refl)
