-- The schedule program whole, from the bytes of its input to the bytes of its output: document 01, "The schedule program". w is the
-- width, `most` the party limit.
use Rattle.std.specs.Prelude.{ℕ, zero, suc, List, [], ◌∷◌, ◌++◌, ◌==◌, nat_lt}
use Rattle.words.specs.Word.{pick}
use Rattle.tables.specs.declared.state.Kind.TheVariants as Kind
use Rattle.tables.specs.declared.state.Machine.{Machine}
use Rattle.tables.specs.Step.{tables, closed_queues, every_kind}
use Rattle.machine.specs.declared.rest.Resting.{Resting}
use Rattle.machine.specs.Rest.{resting_of, nothing_rests, tokens_of}
use Rattle.text.specs.Session.{State, state_of, Turn, started, is_running, next_of}
use Rattle.text.specs.Write.{rest_of}

-- ---- lines

-- a byte before the first line
unfoldable pub before : ℕ → List (List ℕ) → List (List ℕ)
before b [] = (b ∷ []) ∷ []
before b (l ∷ ls) = (b ∷ l) ∷ ls

-- bytes parted at each newline; a last line without one counts, if it has a byte
unfoldable pub lines_of : List ℕ → List (List ℕ)
lines_of [] = []
lines_of (b ∷ s) = pick (b == 10) ([] ∷ lines_of s) (before b (lines_of s))

-- ---- the session, line after line

abbrev pub after : ℕ → ℕ → State → (line : List ℕ) → Turn
after w most st l = next_of w most st.machine st.items st.session l

-- what was printed before
abbrev pub onto : List ℕ → Turn → Turn
onto text t = record { state = t.state; text = text ++ t.text }

unfoldable pub lines_taken : ℕ → ℕ → State → List (List ℕ) → Turn
lines_taken w most st [] = record { state = st; text = [] }
lines_taken w most st (l ∷ ls) = onto (after w most st l).text (lines_taken w most (after w most st l).state ls)

-- ---- the end: each queue's resting tokens, head first

-- what rests in queue q; nothing in one past the table
abbrev pub resting_at : ℕ → ℕ → Machine → (q : ℕ) → Resting
resting_at w most m q = pick (nat_lt q most) (resting_of w m q) nothing_rests

-- the lines of n queues, from q on
unfoldable pub rest_lines : ℕ → ℕ → State → (q n : ℕ) → List ℕ
rest_lines w most st q zero = []
rest_lines w most st q (suc n) =
    rest_of q (tokens_of w (resting_at w most st.machine q) st.items) ++ rest_lines w most st (suc q) n

-- input that ends before the last queue line, or whose opening was refused, has none
abbrev pub queues_of : State → ℕ
queues_of st = pick (is_running st.session.stage) st.machine.parties 0

abbrev pub whole : ℕ → ℕ → Turn → List ℕ
whole w most t = t.text ++ rest_lines w most t.state 0 (queues_of t.state)

-- ---- from the first byte to the last

-- no machine yet
abbrev pub closed : ℕ → Machine
closed most = tables most 0 (closed_queues most (every_kind most Kind.Lifo))

abbrev pub fresh : ℕ → (items : List ℕ) → State
fresh most xs = state_of (started most) (closed most) xs

unfoldable pub output_of : ℕ → ℕ → (items input : List ℕ) → List ℕ
output_of w most xs input = whole w most (lines_taken w most (fresh most xs) (lines_of input))
