-- Document 01, "Runs on the bench": runs A to H as a single table about the definitions, computed; I, and the LIFO trap's run, below them.
use Prim.Native.Nat.{ℕ, ◌^◌, ◌+◌}
use mathlib.Core.Path.{◌≡◌, refl}
use mathlib.Core.List.{List, [], ◌∷◌, ◌++◌}
use Rattle.tables.specs.Step.{Opening}
use Rattle.words.specs.Word.{doubled, pow_below, packed}
use Rattle.tables.specs.declared.answer.Answer.{Answer}
use Rattle.tables.specs.declared.answer.Change.{Change}
use Rattle.tables.specs.declared.call.Call.TheVariants as Call
use Rattle.tables.specs.declared.call.Rule.TheVariants as Rule
use Rattle.tables.specs.declared.state.Kind.{Kind}
use Rattle.tables.specs.Machine.{queue_at, base_of}
use Rattle.tables.specs.Step.{opening, begin, step, alone, sound, sound_to, open_to, over_to, closed_queues}
use Rattle.tables.specs.Step.{idle_parties, open_refusal, begin_refusal, step_refusal, alone_refusal, taken, until, appended, place_at}
use Rattle.tables.specs.Lists.{resting_at, tokens}
use Rattle.tables.proofs.Runs.{begins, steps, alones, calls, Run, changes_of, steps_of, run, repeat, fresh, pushes, about}

pub data Name : Type 0 where
  A : Name
  B : Name
  C : Name
  D : Name
  E : Name
  F : Name
  G : Name
  H : Name
  I : Name
  trap : Name

-- what a row speaks of: answers and tokens stand in their order
pub data Finding : Type 0 where
  number : ℕ → Finding
  numbers : List ℕ → Finding
  answers : List Answer → Finding
  changes : List Change → Finding

-- a run's name, what the definitions compute, what document 01 says
pub record Row : Type 0 where
  pub name : Name
  pub computes : Finding
  pub says : Finding

infix 80 ◌∶◌≐◌
abbrev pub ◌∶◌≐◌ : Name → Finding → Finding → Row
n ∶ x ≐ y = record { name = n; computes = x; says = y }

unfoldable pub computed : List Row → List Finding
computed [] = []
computed (r ∷ l) = r.computes ∷ computed l

unfoldable pub said : List Row → List Finding
said [] = []
said (r ∷ l) = r.says ∷ said l

-- ---- the runs, each from a fresh machine of 32 bits

-- B: the requests, a party each
unfoldable pub asks : Kind → List ℕ → Opening
asks k rs = opening 32 16 (repeat 16 k) 4 rs (repeat 4 0) (2 ^ 32)

abbrev pub capacities : Opening → List ℕ
capacities o =
    (queue_at o.machine 0).capacity ∷ (queue_at o.machine 1).capacity ∷ (queue_at o.machine 2).capacity
    ∷ (queue_at o.machine 3).capacity
    ∷ []

-- C: LIFO, capacity 2, position 4294967295: push 7; push 8; pop
unfoldable pub push7 : Run
push7 = run (fresh Kind.Lifo 1 (2 ∷ []) (4294967295 ∷ []) 2) (calls 0 (Call.Push 7) ∷ [])

unfoldable pub push8 : Run
push8 = run push7 (calls 0 (Call.Push 8) ∷ [])

unfoldable pub pop8 : Run
pop8 = run push8 (calls 0 Call.Pop ∷ [])

-- D, E, I, trap: 1, 2, 3, 4 rest at party 0
unfoldable pub four : Kind → Run
four k = run (fresh k 3 (4 ∷ 4 ∷ 4 ∷ []) (0 ∷ 0 ∷ 0 ∷ []) 12) (pushes 0 (1 ∷ 2 ∷ 3 ∷ 4 ∷ []))

-- what was answered after those four pushes
unfoldable pub after4 : List Answer → List Answer
after4 l = Answer.Pushed ∷ Answer.Pushed ∷ Answer.Pushed ∷ Answer.Pushed ∷ l

-- D: party 1 reads n = 4; party 2 steals 2 and closes; party 1's CAS
unfoldable pub reads4 : Run
reads4 = run (four Kind.Lifo) (begins 1 (Call.Steal 0 Rule.All) ∷ steps 1 6 ∷ [])

unfoldable pub overtaken : Run
overtaken = run reads4 (calls 2 (Call.Steal 0 (Rule.Fixed 2)) ∷ steps 1 1 ∷ [])

-- E: the same in FIFO with half; party 1 goes on
unfoldable pub reads4half : Run
reads4half = run (four Kind.Fifo) (begins 1 (Call.Steal 0 Rule.Half) ∷ steps 1 4 ∷ [])

unfoldable pub retries : Run
retries = run reads4half (calls 2 (Call.Steal 0 Rule.Half) ∷ alones 1 ∷ [])

-- F: queue 1 is full; party 1 steals, then takes
unfoldable pub full_destination : Kind → Run
full_destination k =
    run (fresh k 2 (4 ∷ 2 ∷ []) (0 ∷ 0 ∷ []) 6)
    (pushes 0 (1 ∷ 2 ∷ 3 ∷ []) ++ (pushes 1 (8 ∷ 9 ∷ []) ++ (calls 1 (Call.Steal 0 Rule.All) ∷ calls 1 (Call.Take 0 Rule.All) ∷ [])))

-- G: one rests, position 5
unfoldable pub one_rests : Kind → Run
one_rests k = run (fresh k 2 (4 ∷ 4 ∷ []) (5 ∷ 0 ∷ []) 8) (pushes 0 (1 ∷ []))

unfoldable pub half_of_one : Kind → Run
half_of_one k = run (one_rests k) (calls 1 (Call.Steal 0 Rule.Half) ∷ [])

-- H: LIFO, capacity 4, rests 1, 2, 3; steal from itself, fixed 1
unfoldable pub three_rest : Run
three_rest = run (fresh Kind.Lifo 1 (4 ∷ []) (0 ∷ []) 4) (pushes 0 (1 ∷ 2 ∷ 3 ∷ []))

unfoldable pub from_itself : Run
from_itself = run three_rest (calls 0 (Call.Steal 0 (Rule.Fixed 1)) ∷ [])

-- I: FIFO, 2 booked, owner pops 3, push is full; after closing spare is 3
unfoldable pub beside_booking : Run
beside_booking =
    run (four Kind.Fifo)
    (begins 1 (Call.Steal 0 (Rule.Fixed 2)) ∷ steps 1 5 ∷ calls 0 Call.Pop ∷ calls 0 (Call.Push 9) ∷ alones 1 ∷ calls 0 Call.Spare ∷ [])

-- the LIFO push's trap: 2 booked, push is full; the booked ones land as they were
unfoldable pub over_booked : Run
over_booked = run (four Kind.Lifo) (begins 1 (Call.Steal 0 (Rule.Fixed 2)) ∷ steps 1 7 ∷ calls 0 (Call.Push 9) ∷ alones 1 ∷ [])

abbrev pub rests : Run → ℕ → Finding
rests r q = numbers (resting_at 32 r.machine r.items q)

abbrev pub packed_word : Run → ℕ → Finding
packed_word r q = number (queue_at r.machine q).packed

-- ---- the table

unfoldable pub table : List Row
table =
    A ∶ number (packed 32 1 2) ≐ number 4294967298
    ∷ B ∶ numbers (capacities (asks Kind.Lifo (0 ∷ 1 ∷ 5 ∷ 2 ^ 31 ∷ []))) ≐ numbers (1 ∷ 1 ∷ 8 ∷ 2 ^ 31 ∷ [])
    ∷ B ∶ numbers (capacities (asks Kind.Fifo (0 ∷ 1 ∷ 5 ∷ 2 ^ 31 ∷ []))) ≐ numbers (1 ∷ 1 ∷ 8 ∷ 2 ^ 31 ∷ [])
    ∷ B ∶ number (asks Kind.Lifo (0 ∷ 1 ∷ 5 ∷ 2 ^ 31 ∷ [])).refusal ≐ number 0
    ∷ B ∶ number (asks Kind.Lifo (0 ∷ 1 ∷ 5 ∷ (2 ^ 31 + 1) ∷ [])).refusal ≐ number 7
    ∷ B ∶ number (asks Kind.Fifo (0 ∷ 1 ∷ 5 ∷ (2 ^ 31 + 1) ∷ [])).refusal ≐ number 7
    ∷ C ∶ numbers push7.items ≐ numbers (0 ∷ 7 ∷ [])
    ∷ C ∶ numbers push8.items ≐ numbers (8 ∷ 7 ∷ [])
    ∷ C ∶ answers pop8.answers ≐ answers (Answer.Pushed ∷ Answer.Pushed ∷ Answer.Popped 8 ∷ [])
    ∷ D ∶ rests (four Kind.Lifo) 0 ≐ numbers (1 ∷ 2 ∷ 3 ∷ 4 ∷ [])
    ∷ D ∶ number (about (place_at reads4.machine 1)) ≐ number 4
    ∷ D ∶ answers overtaken.answers ≐ answers (after4 (Answer.Stolen 2 ∷ Answer.Busy ∷ []))
    ∷ E ∶ number (about (place_at reads4half.machine 1)) ≐ number 2
    ∷ E ∶ changes retries.changes ≐ changes (Change.Booked 1 ∷ Change.Landed 1 ∷ Change.Closed ∷ [])
    ∷ E ∶ answers retries.answers ≐ answers (after4 (Answer.Stolen 2 ∷ Answer.Stolen 1 ∷ []))
    ∷ F ∶ answers (full_destination Kind.Lifo).answers
    ≐ answers (Answer.Pushed ∷ Answer.Pushed ∷ Answer.Pushed ∷ Answer.Pushed ∷ Answer.Pushed ∷ Answer.Empty ∷ Answer.Taken 1 0 ∷ [])
    ∷ F ∶ answers (full_destination Kind.Fifo).answers
    ≐ answers (Answer.Pushed ∷ Answer.Pushed ∷ Answer.Pushed ∷ Answer.Pushed ∷ Answer.Pushed ∷ Answer.Empty ∷ Answer.Taken 1 0 ∷ [])
    ∷ F ∶ rests (full_destination Kind.Lifo) 1 ≐ numbers (8 ∷ 9 ∷ [])
    ∷ F ∶ rests (full_destination Kind.Fifo) 1 ≐ numbers (8 ∷ 9 ∷ [])
    ∷ G ∶ answers (half_of_one Kind.Lifo).answers ≐ answers (Answer.Pushed ∷ Answer.Empty ∷ [])
    ∷ G ∶ answers (half_of_one Kind.Fifo).answers ≐ answers (Answer.Pushed ∷ Answer.Empty ∷ [])
    ∷ G ∶ packed_word (one_rests Kind.Lifo) 0 ≐ number 5
    ∷ G ∶ packed_word (half_of_one Kind.Lifo) 0 ≐ number 5
    ∷ G ∶ packed_word (one_rests Kind.Fifo) 0 ≐ number 21474836485
    ∷ G ∶ packed_word (half_of_one Kind.Fifo) 0 ≐ number 21474836485
    ∷ H ∶ rests three_rest 0 ≐ numbers (1 ∷ 2 ∷ 3 ∷ [])
    ∷ H ∶ answers from_itself.answers ≐ answers (Answer.Pushed ∷ Answer.Pushed ∷ Answer.Pushed ∷ Answer.Stolen 1 ∷ [])
    ∷ H ∶ rests from_itself 0 ≐ numbers (2 ∷ 3 ∷ 1 ∷ [])
    ∷ I ∶ answers beside_booking.answers ≐ answers (after4 (Answer.Popped 3 ∷ Answer.Full 9 ∷ Answer.Stolen 2 ∷ Answer.Spare 3 ∷ []))
    ∷ trap ∶ answers over_booked.answers ≐ answers (after4 (Answer.Full 9 ∷ Answer.Stolen 2 ∷ []))
    ∷ trap ∶ rests over_booked 1 ≐ numbers (1 ∷ 2 ∷ [])
    ∷ []

pub bench : computed table ≡ said table
unfolding table computed said asks push7 push8 pop8 four after4 reads4 overtaken reads4half retries full_destination one_rests half_of_one three_rest from_itself beside_booking over_booked fresh pushes run repeat steps_of changes_of opening begin step alone sound sound_to open_to over_to closed_queues idle_parties open_refusal begin_refusal step_refusal alone_refusal taken until appended base_of doubled pow_below resting_at tokens
bench = refl
