-- A step as the code takes it: one party, its own queue, its source's queue and the items. proofs/ shows that it is the machine's.
use Rattle.std.specs.Prelude.{ℕ, zero, suc, ◌+◌, ◌≤◌, ◌<◌, ◌^◌, Bool, false, not, List, [], eqb, set, Option, None, Result, Ok, Err}
use Rattle.words.specs.Word.{pick, Pow}
use Rattle.tables.specs.declared.access.Context.{Context}
use Rattle.tables.specs.declared.access.Next.{Next}
use Rattle.tables.specs.declared.access.Whose.{Whose}
use Rattle.tables.specs.declared.answer.Answer.{Answer}
use Rattle.tables.specs.declared.answer.Effect.{Effect}
use Rattle.tables.specs.declared.answer.Effects.{Effects}
use Rattle.tables.specs.declared.answer.Refusal.{Refusal}
use Rattle.tables.specs.declared.call.Act.{Act}
use Rattle.tables.specs.declared.call.Call.{Call}
use Rattle.tables.specs.declared.call.Mark.{Mark}
use Rattle.tables.specs.declared.state.Machine.{Machine}
use Rattle.tables.specs.declared.state.Party.{Party}
use Rattle.tables.specs.declared.state.Queue.{Queue}
use Rattle.tables.specs.Access.{Accessed, perform}
use Rattle.tables.specs.Effect.{effect_of}
use Rattle.tables.specs.Machine.{stretch, restretched}
use Rattle.tables.specs.Row.{Row}
use Rattle.tables.specs.Refusal.{refusal_of}
use Rattle.tables.specs.Tables.{row_of, start}
use Rattle.tables.specs.Step.{is_weak, noted, stops_at, until, start_refusal, run_refusal, mark_refusal, AfterAct, three_effects}
use Rattle.machine.specs.declared.desk.Desk.{Desk}
use Rattle.machine.specs.declared.desk.Stretches.{Stretches}
use Rattle.machine.specs.declared.desk.Reached.{Reached}
use Rattle.machine.specs.declared.desk.Stepped.{Stepped}
use Rattle.machine.specs.declared.desk.Turn.{Turn}
use Rattle.machine.specs.declared.desk.TurnAt.{TurnAt}
use Rattle.machine.specs.Note.{note, last, dropped_by}

-- what a function returns, with the items that were lent to it
pub record With (A : Type 0) : Type 0 where
  pub value : A
  pub items : List ℕ

abbrev pub with : {A : Type 0} → A → List ℕ → With A
with v xs = record { value = v; items = xs }

-- ---- a step

abbrev pub desk_context : Desk → Mark → Context
desk_context d k = record {
  kind = d.own.kind;
  capacity = d.own.capacity;
  from = d.source.kind;
  drain = d.party.drain;
  mark = k;
}

abbrev pub desk_row : ℕ → Desk → Mark → Row
desk_row w d k = row_of w (desk_context d k) d.party.place

-- the source is the own queue
abbrev pub same : Stretches → Bool
same l = eqb l.from l.who

-- the row's queue is another one than the own
abbrev pub away : Whose → (same : Bool) → Bool
away Whose.Own s = false
away Whose.Source s = not s

abbrev pub queue_for : Bool → Desk → Queue
queue_for a d = pick a d.source d.own

abbrev pub base_for : Bool → Stretches → ℕ
base_for a l = pick a l.source l.own

abbrev pub site_for : Bool → Stretches → ℕ
site_for a l = pick a l.from l.who

-- a party where a row's access has brought it, and one whose call has begun
abbrev pub moved : Next → Party
moved n = record { place = n.place; drain = n.drain }

abbrev pub begun : Party → Queue → Call → Party
begun p q c = record { place = start q.kind c; drain = p.drain }

-- the desk with that queue and the party's next place
abbrev pub desk_with : Bool → Desk → Queue → Next → Desk
desk_with a d q n = record {
  party = moved n;
  own = pick a d.own q;
  source = pick a q d.source;
}

-- the row looked up: the queue that the step reaches, where its stretch starts, and the access it makes there
abbrev pub reach : ℕ → Stretches → Desk → Mark → Reached
reach w l d k = record {
  context = desk_context d k;
  access = (desk_row w d k).access;
  away = away (desk_row w d k).whose (same l);
  queue = queue_for (away (desk_row w d k).whose (same l)) d;
  base = base_for (away (desk_row w d k).whose (same l)) l;
}

abbrev pub reaches : Reached → List ℕ → Mark → Accessed
reaches r xs k = perform r.queue (stretch r.base r.queue.capacity xs) r.access (is_weak k)

-- the access is made: on from there
abbrev pub follows : Stretches → Desk → Reached → Queue → Next → Stepped
follows l d r q n = record {
  desk = desk_with r.away d q n;
  answer = n.answer;
  effect = effect_of l.who (site_for r.away l) l.from n.change;
}

abbrev pub went : ℕ → Stretches → Desk → Reached → Accessed → Stepped
went w l d r a = follows l d r a.queue ((row_of w r.context d.party.place).after a.seen)

unfoldable pub desk_step : ℕ → Stretches → Desk → List ℕ → Mark → With Stepped
desk_step w l d xs k =
    with (went w l d (reach w l d k) (reaches (reach w l d k) xs k))
    (restretched (reach w l d k).base (reach w l d k).queue.capacity (reaches (reach w l d k) xs k).slots xs)

-- ---- run alone

pub record Ran : Type 0 where
  pub desk : Desk
  pub items : List ℕ
  pub answer : Option Answer
  pub effects : List Effect
  pub steps : ℕ

abbrev pub ran_on : Ran → With Stepped → Ran
ran_on r o = record {
  desk = o.value.desk;
  items = o.items;
  answer = o.value.answer;
  effects = noted r.effects o.value.effect;
  steps = r.steps + 1;
}

abbrev pub ran_stops : Ran → Bool
ran_stops r = stops_at r.answer r.desk.party.place

abbrev pub desk_runs : ℕ → Stretches → (budget : ℕ) → Ran → Ran
desk_runs w l budget r = until ran_stops (λ x. ran_on x (desk_step w l x.desk x.items Mark.Plain)) budget r

-- a run alone that has not begun
abbrev pub ran_none : Desk → List ℕ → Ran
ran_none d xs = record { desk = d; items = xs; answer = None; effects = []; steps = 0 }

-- ---- an act on the desk

abbrev pub turn_with : Desk → Option Answer → Effects → (steps : ℕ) → Turn
turn_with d a e n = record { desk = d; reply = record { answer = a; effects = e; steps = n } }

-- what a run has come to, and one step more, its effects in an array of three
abbrev pub of_ran : Ran → With Turn
of_ran r = with (turn_with r.desk r.answer (three_effects r.effects) r.steps) r.items

abbrev pub turn_on : Turn → With Stepped → With Turn
turn_on t o = with (turn_with o.value.desk o.value.answer (note t.reply.effects o.value.effect) (t.reply.steps + 1)) o.items

abbrev pub of_stepped : With Stepped → With Turn
of_stepped o = with (turn_with o.value.desk o.value.answer (three_effects (noted [] o.value.effect)) 0) o.items

abbrev pub as_came : Desk → Turn
as_came d = turn_with d None (three_effects []) 0

abbrev pub begun_desk : Desk → Call → Desk
begun_desk d c = record {
  party = begun d.party d.own c;
  own = d.own;
  source = d.source;
}

-- taken where the refusal is 0, else refused, and the items as they came
abbrev pub taking : (code : ℕ) → With Turn → List ℕ → With (Result Turn Refusal)
taking zero t xs = with (Ok t.value) t.items
taking (suc k) t xs = with (Err (refusal_of (suc k))) xs

abbrev pub begin_turn : (parties : ℕ) → Stretches → Desk → List ℕ → Call → With (Result Turn Refusal)
begin_turn n l d xs c = taking (start_refusal n l.who d.party.place c) (with (as_came (begun_desk d c)) xs) xs

abbrev pub step_turn : ℕ → Stretches → Desk → List ℕ → Mark → With (Result Turn Refusal)
step_turn w l d xs k = taking (mark_refusal (desk_row w d k).access k d.party.place) (of_stepped (desk_step w l d xs k)) xs

abbrev pub alone_turn : ℕ → Stretches → Desk → List ℕ → (budget : ℕ) → With (Result Turn Refusal)
alone_turn w l d xs b = taking (run_refusal d.party.place) (of_ran (desk_runs w l b (ran_none d xs))) xs

abbrev pub turned : ℕ → (parties : ℕ) → Stretches → Desk → List ℕ → Act → With (Result Turn Refusal)
turned w n l d xs (Act.Begin c) = begin_turn n l d xs c
turned w n l d xs (Act.Step k) = step_turn w l d xs k
turned w n l d xs (Act.Alone b) = alone_turn w l d xs b

-- what the desk's code asks for: both stretches lie within the items, and capacities are powers of two
pub record Ready (l : Stretches) (d : Desk) (lent : ℕ) : Type 0 where
  pub own_power : Pow d.own.capacity
  pub source_power : Pow d.source.capacity
  pub own_fits : l.own + d.own.capacity ≤ lent
  pub source_fits : l.source + d.source.capacity ≤ lent

-- a count of dropped ones can grow by one
abbrev pub Roomy : Effects → Type 0
Roomy l = dropped_by (last l) + 1 < 2 ^ 64

-- ---- the desk put back into the record

abbrev pub put_back : Machine → (who f : ℕ) → Desk → Machine
put_back m who f d = record {
  parties = m.parties;
  party = set m.party who d.party;
  queue = set (set m.queue f d.source) who d.own;
}

-- what an act leaves, x and y being its party's place of the table and its source's: refused, the record as it came
abbrev pub left_at : Machine → (x y : ℕ) → Result Turn Refusal → List ℕ → AfterAct
left_at m x y (Ok t) xs = record { machine = put_back m x y t.desk; items = xs; reply = Ok t.reply }
left_at m x y (Err e) xs = record { machine = m; items = xs; reply = Err e }

abbrev pub left_by : Machine → Result TurnAt Refusal → List ℕ → AfterAct
left_by m (Ok t) xs = left_at m t.x t.y (Ok t.turn) xs
left_by m (Err e) xs = record { machine = m; items = xs; reply = Err e }
