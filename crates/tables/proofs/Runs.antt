-- Schedules as lists, for the bench: from a fresh machine, the lines of a run and what it comes to.
use Prim.Native.Nat.{ℕ, zero, suc}
use mathlib.Core.List.{List, [], ◌∷◌, ◌++◌}
use Rattle.std.specs.Prelude.{Option, Some, None}
use Rattle.tables.specs.declared.answer.Answer.{Answer}
use Rattle.tables.specs.declared.answer.Change.{Change}
use Rattle.tables.specs.declared.answer.Effect.{Effect}
use Rattle.tables.specs.declared.call.Call.{Call}
use Rattle.tables.specs.declared.call.Mark.TheVariants as Mark
use Rattle.tables.specs.declared.state.Kind.{Kind}
use Rattle.tables.specs.declared.state.Machine.{Machine}
use Rattle.tables.specs.declared.place.BookPlace.{BookPlace}
use Rattle.tables.specs.declared.place.Place.{Place}
use Rattle.tables.specs.Step.{Outcome, Alone, opening, begin, step, alone}

-- a line of a schedule: begin a call; that many plain steps; run alone, up to 20 steps; a call begun and run alone
pub data Line : Type 0 where
  begins : (party : ℕ) → Call → Line
  steps : (party count : ℕ) → Line
  alones : (party : ℕ) → Line
  calls : (party : ℕ) → Call → Line

-- what a run has come to: the machine, the items, the answers so far, and what the last line did
pub record Run : Type 0 where
  pub machine : Machine
  pub items : List ℕ
  pub answers : List Answer
  pub changes : List Change

abbrev pub answered : List Answer → Option Answer → List Answer
answered l None = l
answered l (Some r) = l ++ (r ∷ [])

abbrev pub doing : List Change → Option Effect → List Change
doing l None = l
doing l (Some e) = l ++ (e.change ∷ [])

unfoldable pub changes_of : List Effect → List Change
changes_of [] = []
changes_of (e ∷ l) = e.change ∷ changes_of l

abbrev pub after_step : Run → Outcome → Run
after_step r o = record {
  machine = o.machine;
  items = o.items;
  answers = answered r.answers o.answer;
  changes = doing r.changes o.effect;
}

abbrev pub after_alone : Run → Alone → Run
after_alone r o = record {
  machine = o.machine;
  items = o.items;
  answers = answered r.answers o.answer;
  changes = changes_of o.effects;
}

unfoldable pub steps_of : Run → (party count : ℕ) → Run
steps_of r p zero = r
steps_of r p (suc n) = steps_of (after_step r (step 32 16 r.machine r.items p Mark.Plain)) p n

abbrev pub begun_of : Run → ℕ → Call → Run
begun_of r p c = record {
  machine = (begin 32 16 r.machine r.items p c).machine;
  items = (begin 32 16 r.machine r.items p c).items;
  answers = r.answers;
  changes = [];
}

abbrev pub alone_of : Run → ℕ → Run
alone_of r p = after_alone r (alone 32 16 r.machine r.items p 20)

abbrev pub line : Run → Line → Run
line r (begins p c) = begun_of r p c
line r (steps p n) = steps_of (record { machine = r.machine; items = r.items; answers = r.answers; changes = [] }) p n
line r (alones p) = alone_of r p
line r (calls p c) = alone_of (begun_of r p c) p

unfoldable pub run : Run → List Line → Run
run r [] = r
run r (x ∷ xs) = run (line r x) xs

unfoldable pub repeat : {A : Type 0} → ℕ → A → List A
repeat zero x = []
repeat (suc n) x = x ∷ repeat n x

-- a machine of one kind, opened with a request and a position for each party and that many items, all 0
unfoldable pub fresh : Kind → (parties : ℕ) → (requests positions : List ℕ) → (lent : ℕ) → Run
fresh k n rs ps lent =
    record { machine = (opening 32 16 (repeat 16 k) n rs ps lent).machine; items = repeat lent 0; answers = []; changes = [] }

-- party p pushes the tokens, one after the other
unfoldable pub pushes : ℕ → List ℕ → List Line
pushes p [] = []
pushes p (t ∷ ts) = calls p (Call.Push t) ∷ pushes p ts

-- how many a booking's CAS is about to take, read from the place that its call stands at
abbrev pub takes_at : BookPlace → ℕ
takes_at BookPlace.LifoPacked = 0
takes_at (BookPlace.LifoCompleted p) = 0
takes_at (BookPlace.LifoPushes p d) = 0
takes_at (BookPlace.LifoCas p d k) = k
takes_at BookPlace.FifoPacked = 0
takes_at (BookPlace.FifoTail p) = 0
takes_at (BookPlace.FifoCas p k) = k

abbrev pub about : Place → ℕ
about Place.Idle = 0
about (Place.Lifo p) = 0
about (Place.Fifo p) = 0
about (Place.Own p) = 0
about (Place.Book g p) = takes_at p
about (Place.Move p) = 0
about (Place.Close e p) = 0
