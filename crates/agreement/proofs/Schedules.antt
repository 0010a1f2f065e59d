-- A table of schedules of every sort, each with what it should come to. Words of 3 bits: positions turn over at 8, the greatest capacity
-- is 4, the premise's bound is 4.
use mathlib.Core.List.{List, [], ◌∷◌, ◌++◌}
use Prim.Native.Nat.{ℕ, zero, suc}
use Rattle.tables.specs.declared.answer.Answer.{Answer}
use Rattle.tables.specs.declared.call.Call.{Call}
use Rattle.tables.specs.declared.call.Mark.TheVariants as Mark
use Rattle.tables.specs.declared.call.Rule.TheVariants as Rule
use Rattle.tables.specs.declared.state.Kind.{Kind}
use Rattle.agreement.specs.Statement.{Line, begins, steps, alones, Run, run_of}
use Rattle.agreement.proofs.Tests.{opened}

-- ---- how schedules are written: a call run alone to its answer; that many plain steps

abbrev pub calls : ℕ → Call → List Line
calls p c = begins p c ∷ alones p 20 ∷ []

unfoldable pub pushes : ℕ → List ℕ → List Line
pushes p [] = []
pushes p (t ∷ ts) = calls p (Call.Push t) ++ pushes p ts

unfoldable pub times : ℕ → ℕ → List Line
times p zero = []
times p (suc n) = steps p Mark.Plain ∷ times p n

-- ---- a sample: two queues of 4 items lent, opened as asked, and a schedule

pub record Sample : Type 0 where
  pub kinds : List Kind
  pub requests : List ℕ
  pub positions : List ℕ
  pub schedule : List Line

abbrev pub eight : List ℕ
eight = 0 ∷ 0 ∷ 0 ∷ 0 ∷ 0 ∷ 0 ∷ 0 ∷ 0 ∷ []

abbrev pub start_of : Sample → Run
start_of x = opened 3 2 x.kinds 2 x.requests x.positions eight

unfoldable pub end_of : Sample → Run
end_of x = run_of 3 2 (start_of x) x.schedule

-- ---- the table

abbrev pub of : Kind → List Line → Sample
of k s = record { kinds = k ∷ k ∷ []; requests = 4 ∷ 4 ∷ []; positions = 0 ∷ 0 ∷ []; schedule = s }

-- a sample, and what it should come to: resting of queue 0 and of queue 1, the tokens handed out, those dropped, the answers
pub record Row : Type 0 where
  pub sample : Sample
  pub rest0 : List ℕ
  pub rest1 : List ℕ
  pub out : List ℕ
  pub gone : List ℕ
  pub answers : List Answer

abbrev pub row : Sample → (rest0 rest1 out gone : List ℕ) → List Answer → Row
row x r s o g l = record { sample = x; rest0 = r; rest1 = s; out = o; gone = g; answers = l }

-- steal from oneself
abbrev pub self_steal : List Line
self_steal = pushes 0 (1 ∷ 2 ∷ 3 ∷ []) ++ calls 0 (Call.Steal 0 (Rule.Fixed 1))

-- a drain left open, beside its owner's and another party's calls
abbrev pub beside_drain : List Line
beside_drain =
    pushes 0 (1 ∷ 2 ∷ 3 ∷ []) ++ (calls 0 (Call.Drain (Rule.Fixed 2)) ++ (pushes 0 (4 ∷ 5 ∷ []) ++ (calls 0 Call.Pop ++ (calls 0 Call.Next
    ++ (calls 1 (Call.Steal 0 Rule.All) ++ (calls 0 (Call.Drain Rule.All) ++ (calls 0 Call.Next ++ (calls 1 (Call.Steal 0 Rule.All) ++ calls 0 Call.Next))))))))

-- a drain dropped
abbrev pub dropped : List Line
dropped = pushes 0 (1 ∷ 2 ∷ 3 ∷ 4 ∷ []) ++ (calls 0 (Call.Drain Rule.All) ++ (calls 0 Call.Next ++ (calls 0 Call.Drop ++ calls 0 Call.Drop)))

-- weak marks at the CAS of a pop and of a booking
abbrev pub weak_lifo : List Line
weak_lifo =
    pushes 0 (1 ∷ 2 ∷ 3 ∷ []) ++ ((begins 0 Call.Pop ∷ steps 0 Mark.Plain ∷ steps 0 Mark.Plain ∷ steps 0 Mark.Weak ∷ alones 0 20 ∷ begins 1 (Call.Steal 0 Rule.All) ∷ [])
    ++ (times 1 6 ++ (steps 1 Mark.Weak ∷ steps 1 Mark.Plain ∷ steps 1 Mark.Weak ∷ alones 1 20 ∷ [])))

-- .. and of a closing
abbrev pub weak_fifo : List Line
weak_fifo =
    pushes 0 (1 ∷ 2 ∷ 3 ∷ []) ++ ((begins 0 Call.Pop ∷ steps 0 Mark.Plain ∷ steps 0 Mark.Plain ∷ steps 0 Mark.Weak ∷ alones 0 20 ∷ begins 1
    (Call.Steal 0 (Rule.Fixed 1)) ∷ []) ++ (times 1 4 ++ (steps 1 Mark.Weak ∷ (times 1 6 ++ (steps 1 Mark.Weak ∷ steps 1 Mark.Weak ∷ alones 1 20 ∷ [])))))

-- take; and a take whose destination is full
abbrev pub takes : List Line
takes = pushes 0 (1 ∷ 2 ∷ 3 ∷ 4 ∷ []) ++ (calls 1 (Call.Take 0 (Rule.Fixed 2)) ++ (pushes 1 (5 ∷ 6 ∷ 7 ∷ []) ++ calls 1 (Call.Take 0 Rule.All)))

-- FIFO, 2 booked, the owner pops past them, its push is full
abbrev pub pops_past : List Line
pops_past =
    pushes 0 (1 ∷ 2 ∷ 3 ∷ 4 ∷ []) ++ ((begins 1 (Call.Steal 0 (Rule.Fixed 2)) ∷ []) ++ (times 1 5 ++ (calls 0 Call.Pop ++ (calls 0 (Call.Push 9)
    ++ ((alones 1 20 ∷ []) ++ calls 0 (Call.Push 9))))))

-- as many popped during a booking as the premise allows: 3, one below its bound
abbrev pub most_popped : List Line
most_popped =
    pushes 0 (1 ∷ 2 ∷ 3 ∷ 4 ∷ []) ++ ((begins 1 (Call.Steal 0 Rule.All) ∷ []) ++ (times 1 4 ++ (calls 0 Call.Pop ++ (calls 0 Call.Pop ++ (calls 0 Call.Pop
    ++ (alones 1 20 ∷ []))))))

-- tokens and numbers carried by steps; lines that are refused
abbrev pub carries : List Line
carries =
    (begins 0 Call.Extend ∷ alones 0 20 ∷ steps 0 (Mark.Carry 1) ∷ begins 0 Call.Pop ∷ steps 0 (Mark.Carry 2) ∷ steps 0 Mark.Weak ∷ steps 0 Mark.End ∷ alones 0 20 ∷ [])
    ++ (begins 1 (Call.Steal 0 Rule.Given) ∷ alones 1 20 ∷ steps 1 Mark.Plain ∷ steps 1 (Mark.Carry 1) ∷ alones 1 20 ∷ steps 1 Mark.Plain ∷ steps 2 Mark.Plain ∷ [])

-- an extend filled to the brim: a fifth token is refused
abbrev pub brimful : List Line
brimful =
    begins 0 Call.Extend ∷ alones 0 20 ∷ steps 0 (Mark.Carry 1) ∷ steps 0 (Mark.Carry 2) ∷ steps 0 (Mark.Carry 3) ∷ steps 0 (Mark.Carry 4) ∷ steps 0 (Mark.Carry 5)
    ∷ alones 0 20
    ∷ calls 1 (Call.Steal 0 (Rule.Fixed 1))

-- "empty" for each of its causes, and for no other: none rests; the rule gives 0 of 1; a steal's destination is full, which a take does
-- not mind; none rests again
abbrev pub empties : List Line
empties =
    calls 1 (Call.Steal 0 Rule.All) ++ (pushes 0 (1 ∷ []) ++ (calls 1 (Call.Steal 0 Rule.Half) ++ (pushes 1 (2 ∷ 3 ∷ 4 ∷ 5 ∷ [])
    ++ (calls 1 (Call.Steal 0 Rule.All) ++ (calls 1 (Call.Take 0 Rule.All) ++ calls 1 (Call.Take 0 Rule.All))))))

-- a booking held up, at its CAS, past the premise's bound: its steps are refused, and nothing is asked of those
abbrev pub held_up : List Line
held_up =
    pushes 0 (1 ∷ 2 ∷ 3 ∷ 4 ∷ []) ++ ((begins 1 (Call.Steal 0 Rule.All) ∷ []) ++ (times 1 6 ++ (calls 0 (Call.Drain Rule.All) ++ (calls 0 Call.Drop
    ++ (steps 1 Mark.End ∷ steps 1 (Mark.Carry 1) ∷ [])))))

-- a booking opened and closed between another's count load, its n-th step, and its CAS
abbrev pub overtaken : ℕ → List Line
overtaken n =
    pushes 0 (1 ∷ 2 ∷ 3 ∷ 4 ∷ []) ++ ((begins 1 (Call.Steal 0 Rule.All) ∷ []) ++ (times 1 n ++ (calls 0 (Call.Drain (Rule.Fixed 1)) ++ (calls 0 Call.Next
    ++ (alones 1 20 ∷ [])))))

-- capacity 1 (request 0) at the last position; capacity 4 filled, from the last position
abbrev pub small : Kind → Sample
small k = record {
  kinds = k ∷ k ∷ [];
  requests = 0 ∷ 1 ∷ [];
  positions = 7 ∷ 7 ∷ [];
  schedule = pushes 0 (7 ∷ 8 ∷ []) ++ (calls 1 (Call.Steal 0 Rule.All) ++ (calls 0 Call.Pop ++ calls 1 Call.Pop));
}

abbrev pub turning : Kind → Kind → Sample
turning k j = record {
  kinds = k ∷ j ∷ [];
  requests = 4 ∷ 4 ∷ [];
  positions = 7 ∷ 6 ∷ [];
  schedule = pushes 0 (1 ∷ 2 ∷ 3 ∷ 4 ∷ 5 ∷ []) ++ (calls 1 (Call.Steal 0 Rule.Half) ++ (pushes 0 (6 ∷ 7 ∷ []) ++ calls 1 (Call.Steal 0 Rule.Half)));
}

-- the answers beside the drain, where token t is popped
abbrev pub beside_answers : ℕ → List Answer
beside_answers t =
    Answer.Drain 2 ∷ Answer.Full 5 ∷ Answer.Popped t ∷ Answer.Item 1 ∷ Answer.Busy ∷ Answer.Busy ∷ Answer.Item 2 ∷ Answer.Stolen 1 ∷ Answer.Done ∷ []

unfoldable pub table : List Row
table =
    row (of Kind.Lifo self_steal) (2 ∷ 3 ∷ 1 ∷ []) [] [] [] (Answer.Stolen 1 ∷ [])
    ∷ row (of Kind.Fifo self_steal) (2 ∷ 3 ∷ 1 ∷ []) [] [] [] (Answer.Stolen 1 ∷ [])
    ∷ row (of Kind.Lifo beside_drain) [] (3 ∷ []) (4 ∷ 1 ∷ 2 ∷ []) [] (beside_answers 4)
    ∷ row (of Kind.Fifo beside_drain) [] (4 ∷ []) (3 ∷ 1 ∷ 2 ∷ []) [] (beside_answers 3)
    ∷ row (of Kind.Lifo dropped) [] [] (1 ∷ []) (2 ∷ 3 ∷ 4 ∷ []) (Answer.Drain 4 ∷ Answer.Item 1 ∷ Answer.Closed ∷ Answer.Closed ∷ [])
    ∷ row (of Kind.Fifo dropped) [] [] (1 ∷ []) (2 ∷ 3 ∷ 4 ∷ []) (Answer.Drain 4 ∷ Answer.Item 1 ∷ Answer.Closed ∷ Answer.Closed ∷ [])
    ∷ row (of Kind.Lifo weak_lifo) [] (1 ∷ 2 ∷ []) (3 ∷ []) [] (Answer.Popped 3 ∷ Answer.Stolen 2 ∷ [])
    ∷ row (of Kind.Fifo weak_fifo) (3 ∷ []) (2 ∷ []) (1 ∷ []) [] (Answer.Popped 1 ∷ Answer.Stolen 1 ∷ [])
    ∷ row (of Kind.Lifo takes) (4 ∷ []) (1 ∷ 5 ∷ 6 ∷ 7 ∷ []) (2 ∷ 3 ∷ []) [] (Answer.Taken 2 1 ∷ Answer.Taken 3 0 ∷ [])
    ∷ row (of Kind.Fifo takes) (4 ∷ []) (1 ∷ 5 ∷ 6 ∷ 7 ∷ []) (2 ∷ 3 ∷ []) [] (Answer.Taken 2 1 ∷ Answer.Taken 3 0 ∷ [])
    ∷ row (of Kind.Fifo pops_past) (4 ∷ 9 ∷ []) (1 ∷ 2 ∷ []) (3 ∷ []) [] (Answer.Popped 3 ∷ Answer.Full 9 ∷ Answer.Stolen 2 ∷ [])
    ∷ row (of Kind.Lifo most_popped) [] (1 ∷ []) (4 ∷ 3 ∷ 2 ∷ []) [] (Answer.Popped 4 ∷ Answer.Popped 3 ∷ Answer.Popped 2 ∷ Answer.Stolen 1 ∷ [])
    ∷ row (of Kind.Fifo most_popped) [] (4 ∷ []) (1 ∷ 2 ∷ 3 ∷ []) [] (Answer.Popped 1 ∷ Answer.Popped 2 ∷ Answer.Popped 3 ∷ Answer.Stolen 1 ∷ [])
    ∷ row (of Kind.Lifo carries) (2 ∷ []) (1 ∷ []) [] [] (Answer.Extended 2 ∷ Answer.Stolen 1 ∷ [])
    ∷ row (of Kind.Fifo carries) (2 ∷ []) (1 ∷ []) [] [] (Answer.Extended 2 ∷ Answer.Stolen 1 ∷ [])
    ∷ row (of Kind.Lifo brimful) (2 ∷ 3 ∷ 4 ∷ []) (1 ∷ []) [] [] (Answer.Extended 4 ∷ Answer.Stolen 1 ∷ [])
    ∷ row (of Kind.Fifo brimful) (2 ∷ 3 ∷ 4 ∷ []) (1 ∷ []) [] [] (Answer.Extended 4 ∷ Answer.Stolen 1 ∷ [])
    ∷ row (of Kind.Lifo (overtaken 6)) (2 ∷ 3 ∷ 4 ∷ []) [] (1 ∷ []) [] (Answer.Drain 1 ∷ Answer.Item 1 ∷ Answer.Busy ∷ [])
    ∷ row (of Kind.Fifo (overtaken 4)) [] (2 ∷ 3 ∷ 4 ∷ []) (1 ∷ []) [] (Answer.Drain 1 ∷ Answer.Item 1 ∷ Answer.Stolen 3 ∷ [])
    ∷ row (of Kind.Lifo empties) [] (2 ∷ 3 ∷ 4 ∷ 5 ∷ []) (1 ∷ []) [] (Answer.Empty ∷ Answer.Empty ∷ Answer.Empty ∷ Answer.Taken 1 0 ∷ Answer.Empty ∷ [])
    ∷ row (of Kind.Fifo empties) [] (2 ∷ 3 ∷ 4 ∷ 5 ∷ []) (1 ∷ []) [] (Answer.Empty ∷ Answer.Empty ∷ Answer.Empty ∷ Answer.Taken 1 0 ∷ Answer.Empty ∷ [])
    ∷ row (of Kind.Lifo held_up) [] [] [] (1 ∷ 2 ∷ 3 ∷ 4 ∷ []) (Answer.Drain 4 ∷ Answer.Closed ∷ [])
    ∷ row (small Kind.Lifo) [] [] (7 ∷ []) [] (Answer.Full 8 ∷ Answer.Stolen 1 ∷ Answer.None ∷ Answer.Popped 7 ∷ [])
    ∷ row (small Kind.Fifo) [] [] (7 ∷ []) [] (Answer.Full 8 ∷ Answer.Stolen 1 ∷ Answer.None ∷ Answer.Popped 7 ∷ [])
    ∷ row (turning Kind.Lifo Kind.Fifo) (6 ∷ 7 ∷ []) (1 ∷ 2 ∷ 3 ∷ 4 ∷ []) [] [] (Answer.Full 5 ∷ Answer.Stolen 2 ∷ Answer.Stolen 2 ∷ [])
    ∷ row (turning Kind.Fifo Kind.Lifo) (6 ∷ 7 ∷ []) (1 ∷ 2 ∷ 3 ∷ 4 ∷ []) [] [] (Answer.Full 5 ∷ Answer.Stolen 2 ∷ Answer.Stolen 2 ∷ [])
    ∷ []

-- ---- what the premise is for: a booking held up between its count load and its CAS while 8 items, a whole turn of the words, are booked
-- there by others; its CAS then finds the word that it loaded

abbrev pub lapped : Sample
lapped =
    of Kind.Lifo
    (pushes 0 (1 ∷ 2 ∷ 3 ∷ 4 ∷ []) ++ ((begins 1 (Call.Steal 0 Rule.All) ∷ []) ++ (times 1 6 ++ (calls 0 (Call.Drain Rule.All) ++ (calls 0 Call.Drop
    ++ (pushes 0 (5 ∷ 6 ∷ 7 ∷ 8 ∷ []) ++ (calls 0 (Call.Drain Rule.All) ++ (calls 0 Call.Drop ++ (alones 1 20 ∷ [])))))))))
