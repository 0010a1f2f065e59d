-- DEMAND 3 says something of runs of every sort: each schedule of the table begins at a fresh machine, keeps the premise, and comes to
-- what the table says.
use mathlib.Core.Path.{◌≡◌, refl, ap}
use mathlib.Core.Bool.{Bool, true, false}
use mathlib.Core.List.{List, [], ◌∷◌, ◌++◌}
use Prim.Native.Nat.{ℕ}
use native.Mathlib.Omega.{arith}
use lib.Dec.{eqb}
use Rattle.words.specs.Word.{pick}
use Rattle.tables.specs.declared.answer.Answer.{Answer}
use Rattle.tables.specs.declared.call.Call.TheVariants as Call
use Rattle.tables.specs.declared.call.Rule.TheVariants as Rule
use Rattle.tables.specs.declared.state.Kind.TheVariants as Kind
use Rattle.tables.specs.Answer.{answer_row}
use Rattle.tables.specs.Step.{opening}
use Rattle.tables.specs.Lists.{Entry, did, said, impossible, replay, tokens, resting_at}
use Rattle.agreement.specs.Statement.{Line, begins, Run, kinds_of, replayed, Agrees}
use Rattle.agreement.proofs.Demand3.{agrees}
use Rattle.agreement.proofs.Instances.{opened_fresh}
use Rattle.agreement.proofs.Tests.{all_below, keeps_test, machine_clauses, record_clauses, test_clauses}
use Rattle.agreement.proofs.Schedules.{calls, pushes, times, Sample, eight, start_of, end_of, of, Row, table, lapped}

-- What it comes to: the opening's refusal; positions within the width; the premise kept; resting of the two queues, by slots and
-- counters; the tokens handed out and those dropped, by the lists; the answers other than pushed, in order.
pub record Found : Type 0 where
  pub refusal : ℕ
  pub within : Bool
  pub keeps : Bool
  pub rests : List (List ℕ)
  pub out : List ℕ
  pub gone : List ℕ
  pub answers : List Answer

abbrev pub heard : Answer → List Answer → List Answer
heard a l = pick (eqb (answer_row a).number (answer_row Answer.Pushed).number) l (a ∷ l)

-- of a record, newest first
unfoldable pub answers_of : List Entry → List Answer → List Answer
answers_of [] l = l
answers_of (did e ∷ es) l = answers_of es l
answers_of (said p a ∷ es) l = answers_of es (heard a l)

abbrev pub found_in : Sample → Found
found_in x = record {
  refusal = (opening 3 2 x.kinds 2 x.requests x.positions 8).refusal;
  within = (all_below 3 x.positions).passed;
  keeps = (keeps_test 3 2 (start_of x) x.schedule).passed;
  rests = resting_at 3 (end_of x).machine (end_of x).items 0 ∷ resting_at 3 (end_of x).machine (end_of x).items 1 ∷ [];
  out = (replayed (end_of x).machine (end_of x).record').out;
  gone = (replayed (end_of x).machine (end_of x).record').gone;
  answers = answers_of (end_of x).record' [];
}

abbrev pub says : Row → Found
says x = record {
  refusal = 0;
  within = true;
  keeps = true;
  rests = x.rest0 ∷ x.rest1 ∷ [];
  out = x.out;
  gone = x.gone;
  answers = x.answers;
}

-- ---- every row comes to what it says, and the theorem speaks of it

unfoldable pub found : List Row → List Found
found [] = []
found (x ∷ l) = found_in x.sample ∷ found l

unfoldable pub said_by : List Row → List Found
said_by [] = []
said_by (x ∷ l) = says x ∷ said_by l

pub samples : found table ≡ said_by table
unfolding machine_clauses record_clauses test_clauses table found said_by pushes times end_of answers_of tokens resting_at
samples = refl

unfoldable pub AllAgree : List Row → Type 0
AllAgree [] = Unit {0}
AllAgree (x ∷ l) = Agrees 3 2 (end_of x.sample) × AllAgree l

-- a row that comes to what it says was opened, its positions are within the width, and it keeps the premise
row_agrees : (x : Row) → found_in x.sample ≡ says x → Agrees 3 2 (end_of x.sample)
unfolding end_of
row_agrees x e =
    let s = x.sample in
    agrees 3 2 (start_of s) s.schedule
    (opened_fresh 3 2 s.kinds 2 s.requests s.positions eight (omega arith)
    ((all_below 3 s.positions).shows (ap (λ (f : Found). f.within) e)) (ap (λ (f : Found). f.refusal) e))
    ((keeps_test 3 2 (start_of s) s.schedule).shows (ap (λ (f : Found). f.keeps) e))

rows_agree : (l : List Row) → found l ≡ said_by l → AllAgree l
unfolding found said_by AllAgree
rows_agree [] e = tt
rows_agree (x ∷ l) e = (row_agrees x (cc), rows_agree l (cc))

pub samples_agree : AllAgree table
samples_agree = rows_agree table samples

-- ---- what a call has noted is cleared where its party's next call begins, and not where a begin is refused

-- what is noted for party 1
abbrev pub notes_for1 : Run → List ℕ
notes_for1 r = r.notes.first 1 ∷ pick (r.notes.opened 1) 1 0 ∷ r.notes.fill 1 ∷ []

-- party 1 was busy: one token booked on its source at its first load, a booking open there, two tokens at its destination
abbrev pub was_busy : List Line → Sample
was_busy s =
    of Kind.Lifo
    (pushes 0 (1 ∷ []) ++ (pushes 1 (2 ∷ 3 ∷ []) ++ (calls 0 (Call.Drain Rule.All) ++ (calls 1 (Call.Steal 0 Rule.All) ++ s))))

pub cleared : (notes_for1 (end_of (was_busy [])) ≡ 1 ∷ 1 ∷ 2 ∷ []) × (notes_for1 (end_of (was_busy (begins 1 (Call.Steal 2 Rule.All) ∷ []))) ≡ 1 ∷ 1 ∷ 2 ∷ [])
    × (notes_for1 (end_of (was_busy (begins 1 Call.Pop ∷ []))) ≡ 0 ∷ 0 ∷ 0 ∷ [])
unfolding machine_clauses record_clauses pushes end_of
cleared = (refl, refl, refl)

-- ---- without the premise the claim fails: the lists cannot do what this run records

pub lapped_fails : ((keeps_test 3 2 (start_of lapped) lapped.schedule).passed ≡ false)
    × (replay (kinds_of (end_of lapped).machine) (end_of lapped).record' ≡ impossible)
unfolding machine_clauses record_clauses test_clauses pushes times end_of
lapped_fails = (refl, refl)
