-- DEMAND 3. From a fresh machine, after any schedule that keeps the premise:
-- 1. the recorded effects, replayed on plain lists, are all ones that the lists can do, and give what slots and counters show;
-- 2. each token that an answer hands out is the one that the lists put in that party's hand;
-- 3. the offered tokens are those waiting, resting, booked, in hand, handed out or dropped, each as often;
-- 4. each "none", "full", "busy" and "empty" had its cause within its call;
-- 5. a run alone is that many single steps;
-- 6. what the lists put in each hand is what its party's place shows;
-- 7. a queue's resting tokens and slots not yet given back are never more than its capacity.
-- begin, step, alone and opening are those of tables/specs/Step. Lists, what an effect does to them and when it cannot, replay:
-- tables/specs/Lists. Causes, the premise at a step: tables/specs/Causes. What slots, counters and places show: tables/specs/Shows. Counting: Counts.
use Rattle.std.specs.Prelude.{ℕ, zero, suc, ◌+◌, ◌^◌, ◌≤◌, ◌<◌, ◌≡◌, List, [], ◌∷◌, length, get_or, eqb, Option, Some, None}
use Rattle.words.specs.Word.{pick}
use Rattle.tables.specs.declared.answer.Answer.{Answer}
use Rattle.tables.specs.declared.answer.Effect.{Effect}
use Rattle.tables.specs.declared.call.Call.{Call}
use Rattle.tables.specs.declared.call.Mark.{Mark}
use Rattle.tables.specs.declared.state.Kind.{Kind}
use Rattle.tables.specs.declared.state.Machine.{Machine}
use Rattle.tables.specs.Machine.{queue_at}
use Rattle.tables.specs.Step.{Outcome, begin, step, Alone, alone, noted, opening}
use Rattle.tables.specs.Lists.{Plain, nothing_yet, Entry, did, said, Replayed, impossible, lists, replay}
use Rattle.tables.specs.Causes.{Notes, no_notes, begun_notes, fill_of, notes, Premise, Cause}
use Rattle.tables.specs.Shows.{shows, hand_at}
use Rattle.agreement.specs.Counts.{count, standing, offered}

-- ---- schedules and runs

-- a schedule is a list of lines, any of them, in any order; a refused one changes nothing
pub data Line : Type 0 where
  begins : (party : ℕ) → Call → Line
  steps : (party : ℕ) → Mark → Line
  alones : (party budget : ℕ) → Line

-- What a run has come to: machine and items; the record of its effects and answers, newest first; and what was noted along it, from
-- the lists, for the premise and the causes.
pub record Run : Type 0 where
  pub machine : Machine
  pub items : List ℕ
  pub record' : List Entry
  pub notes : Notes

-- a step's effect, then its answer, where it has them
abbrev pub did_entry : Option Effect → List Entry → List Entry
did_entry None l = l
did_entry (Some e) l = did e ∷ l

abbrev pub said_entry : ℕ → Option Answer → List Entry → List Entry
said_entry p None l = l
said_entry p (Some r) l = said p r ∷ l

abbrev pub recorded : ℕ → Outcome → List Entry → List Entry
recorded p o l = said_entry p o.answer (did_entry o.effect l)

abbrev pub kinds_of : Machine → ℕ → Kind
kinds_of m q = (queue_at m q).kind

-- the lists that a record gives (of an impossible record, which claim 1 excludes: none)
abbrev pub lists_of : Replayed → Plain
lists_of impossible = nothing_yet
lists_of (lists a) = a

abbrev pub replayed : Machine → List Entry → Plain
replayed m l = lists_of (replay (kinds_of m) l)

-- a begin records nothing; a refused one clears no notes
abbrev pub after_begin : Run → ℕ → Outcome → Run
after_begin r p o = record {
  machine = o.machine;
  items = o.items;
  record' = r.record';
  notes = pick (eqb o.refusal 0) (begun_notes p r.notes) r.notes;
}

-- a refused step is not noted
abbrev pub after_step : Run → ℕ → Outcome → Run
after_step r p o = record {
  machine = o.machine;
  items = o.items;
  record' = recorded p o r.record';
  notes =
      pick (eqb o.refusal 0)
      (notes r.machine p (replayed r.machine r.record') (replayed r.machine (did_entry o.effect r.record'))
      o.effect r.notes) r.notes;
}

module _ (w most : ℕ) where
  abbrev pub begun : Run → ℕ → Call → Run
  begun r p c = after_begin r p (begin w most r.machine r.items p c)

  abbrev pub stepped : Run → ℕ → Mark → Run
  stepped r p k = after_step r p (step w most r.machine r.items p k)

  -- as many plain steps of one party
  unfoldable pub repeated : ℕ → Run → ℕ → Run
  repeated zero r p = r
  repeated (suc n) r p = repeated n (stepped r p Mark.Plain) p

  -- a run alone counts as the steps that it reports (claim 5)
  abbrev pub line : Run → Line → Run
  line r (begins p c) = begun r p c
  line r (steps p k) = stepped r p k
  line r (alones p n) = repeated (alone w most r.machine r.items p n).steps r p

  unfoldable pub run_of : Run → List Line → Run
  run_of r [] = r
  run_of r (x ∷ xs) = run_of (line r x) xs

  -- ---- the premise, before each step of the schedule that is taken: it asks something of steps inside a booking only

  abbrev pub StepKeeps : Run → ℕ → Mark → Type 0
  StepKeeps r p k = (step w most r.machine r.items p k).refusal ≡ 0 → Premise w r.machine r.notes p

  unfoldable pub RepeatKeeps : ℕ → Run → ℕ → Type 0
  RepeatKeeps zero r p = Unit {0}
  RepeatKeeps (suc n) r p = StepKeeps r p Mark.Plain × RepeatKeeps n (stepped r p Mark.Plain) p

  abbrev pub LineKeeps : Run → Line → Type 0
  LineKeeps r (begins p c) = Unit {0}
  LineKeeps r (steps p k) = StepKeeps r p k
  LineKeeps r (alones p n) = RepeatKeeps (alone w most r.machine r.items p n).steps r p

  unfoldable pub Keeps : Run → List Line → Type 0
  Keeps r [] = Unit {0}
  Keeps r (x ∷ xs) = LineKeeps r x × Keeps (line r x) xs

  -- ---- a fresh machine: what an opening that is not refused gives, on any items, at positions of w bits; nothing recorded yet

  pub record Fresh (r : Run) : Type 0 where
    pub kinds : List Kind
    pub parties : ℕ
    pub requests : List ℕ
    pub positions : List ℕ
    pub wide : 1 < w
    pub within : (q : ℕ) → get_or positions q 0 < 2 ^ w
    pub taken : (opening w most kinds parties requests positions (length r.items)).refusal ≡ 0
    pub machine_is : r.machine ≡ (opening w most kinds parties requests positions (length r.items)).machine
    pub record_is : r.record' ≡ []
    pub notes_are : r.notes ≡ no_notes

  -- ---- what that many single steps give, one after the other

  unfoldable pub singles : ℕ → Run → ℕ → List Outcome
  singles zero r p = []
  singles (suc n) r p = step w most r.machine r.items p Mark.Plain ∷ singles n (stepped r p Mark.Plain) p

unfoldable pub NoneRefused : List Outcome → Type 0
NoneRefused [] = Unit {0}
NoneRefused (o ∷ l) = (o.refusal ≡ 0) × NoneRefused l

unfoldable pub last_answer : Option Answer → List Outcome → Option Answer
last_answer a [] = a
last_answer a (o ∷ l) = last_answer o.answer l

-- their effects, dropped ones in a row as one (`noted`)
unfoldable pub gathered : List Effect → List Outcome → List Effect
gathered es [] = es
gathered es (o ∷ l) = gathered (noted es o.effect) l

-- effects put on a record, in their order
unfoldable pub put_on : List Entry → List Effect → List Entry
put_on l [] = l
put_on l (e ∷ es) = put_on (did e ∷ l) es

-- ---- the claims, of a run that has come to r

-- claim 5, of what a run alone b of party p gives back there
pub record AloneAgrees (w most : ℕ) (r : Run) (p : ℕ) (b : Alone) : Type 0 where
  pub machine : (repeated w most b.steps r p).machine ≡ b.machine
  pub items : (repeated w most b.steps r p).items ≡ b.items
  pub taken : NoneRefused (singles w most b.steps r p)
  pub answer : b.answer ≡ last_answer None (singles w most b.steps r p)
  pub effects : b.effects ≡ gathered [] (singles w most b.steps r p)
  -- its effects and answer, put on the record as they are, replay to the same lists
  pub same_lists :
      replay (kinds_of r.machine) (said_entry p b.answer (put_on r.record' b.effects))
      ≡ replay (kinds_of r.machine) (repeated w most b.steps r p).record'

pub record Agrees (w most : ℕ) (r : Run) : Type 0 where
  pub plain : Plain
  -- claims 1 and 2: no effect that the lists cannot do, no token handed out that is not in hand
  pub possible : replay (kinds_of r.machine) r.record' ≡ lists plain
  -- claim 1: waiting, resting and booked in order, whose booking is open, how many slots are not yet given back
  pub shown : (q : ℕ) → q < r.machine.parties → plain.queue q ≡ shows w r.machine r.items q
  -- claim 3
  pub sum : (t : ℕ) → offered t r.record' ≡ standing t plain r.machine.parties + (count t plain.out + count t plain.gone)
  -- claim 4, of the answer of any next step that keeps the premise (a refused one has none)
  pub caused :
      (p : ℕ) (k : Mark) → StepKeeps w most r p k
      → Cause w r.machine p k (replayed r.machine r.record') (stepped w most r p k).notes (step w most r.machine r.items p k).answer
  -- claim 5
  pub alone_agrees : (p n : ℕ) → AloneAgrees w most r p (alone w most r.machine r.items p n)
  -- claim 6: what each party has in hand
  pub in_hand : (p : ℕ) → p < r.machine.parties → plain.hand p ≡ hand_at w r.machine r.items p
  -- claim 7: resting plus slots not yet given back
  pub fits : (q : ℕ) → q < r.machine.parties → fill_of (plain.queue q) ≤ (queue_at r.machine q).capacity

unfoldable pub Demand3 : ℕ → ℕ → Type 0
Demand3 w most = (r : Run) (s : List Line) → Fresh w most r → Keeps w most r s → Agrees w most (run_of w most r s)
