-- A run of the schedule program, line by line: document 01, "The schedule program". w is the width, `most` the party limit.
use Rattle.std.specs.Prelude.{◌≡◌, ℕ, zero, suc, ◌+◌, ◌-◌, ◌^◌, ◌≤◌, Bool, true, false, List, [], ◌∷◌, length, ◌==◌, nat_le, nat_lt, slice_set, Option, Some, None, Result, Ok, Err}
use Rattle.words.specs.Word.{pick, plus}
use Rattle.tables.specs.declared.answer.Refusal.{Refusal}
use Rattle.tables.specs.declared.answer.Answer.{Answer}
use Rattle.tables.specs.declared.answer.Reply.{Reply}
use Rattle.tables.specs.declared.state.Kind.{Kind}
use Rattle.tables.specs.declared.state.Machine.{Machine}
use Rattle.tables.specs.declared.call.Act.TheVariants as Act
use Rattle.tables.specs.Refusal.{number_of}
use Rattle.tables.specs.Step.{andb, every_kind, Opening, opening, AfterAct, acted}
use Rattle.text.specs.declared.Line.{Line}
use Rattle.text.specs.declared.session.Session.{Session}
use Rattle.text.specs.declared.session.Stage.{Stage}
use Rattle.text.specs.Line.{read_of}
use Rattle.text.specs.declared.write.Out.{Out}
use Rattle.text.specs.Write.{Puts, answer_of, refused_of}

abbrev pub wants_machine : Stage → Bool
wants_machine Stage.MachineLine = true
wants_machine Stage.QueueLines = false
wants_machine Stage.Running = false
wants_machine Stage.Over = false

abbrev pub wants_queue : Stage → Bool
wants_queue Stage.MachineLine = false
wants_queue Stage.QueueLines = true
wants_queue Stage.Running = false
wants_queue Stage.Over = false

abbrev pub is_running : Stage → Bool
is_running Stage.MachineLine = false
is_running Stage.QueueLines = false
is_running Stage.Running = true
is_running Stage.Over = false

abbrev pub is_over : Stage → Bool
is_over Stage.MachineLine = false
is_over Stage.QueueLines = false
is_over Stage.Running = false
is_over Stage.Over = true

-- ---- the session; the line count and how many queues were asked for have 64 bits

-- what a line leaves of the session, and what it prints
pub record Said : Type 0 where
  pub session : Session
  pub text : List ℕ

pub record State : Type 0 where
  pub session : Session
  pub machine : Machine
  pub items : List ℕ

abbrev pub state_of : Session → Machine → List ℕ → State
state_of s m xs = record { session = s; machine = m; items = xs }

pub record Turn : Type 0 where
  pub state : State
  pub text : List ℕ

abbrev pub at_line : ℕ → Session → Session
at_line n s = record {
  line = n;
  stage = s.stage;
  kind = s.kind;
  parties = s.parties;
  asked = s.asked;
  requests = s.requests;
  positions = s.positions;
}

abbrev pub counted : Session → Session
counted s = at_line (plus 64 s.line 1) s

abbrev pub at_stage : Stage → Session → Session
at_stage g s = record {
  line = s.line;
  stage = g;
  kind = s.kind;
  parties = s.parties;
  asked = s.asked;
  requests = s.requests;
  positions = s.positions;
}

unfoldable pub zeros : ℕ → List ℕ
zeros zero = []
zeros (suc n) = 0 ∷ zeros n

-- before the first line
unfoldable pub started : (most : ℕ) → Session
started most = record { line = 0; stage = Stage.MachineLine; kind = Kind.Lifo; parties = 0; asked = 0; requests = zeros most; positions = zeros most }

-- ---- refusals

-- up to the last queue line a refusal ends the run bare
abbrev pub ends : Session → (code : ℕ) → Said
ends s code = record { session = at_stage Stage.Over s; text = refused_of s.line code }

abbrev pub refuses : Session → (code : ℕ) → Said
refuses s code = record { session = s; text = refused_of s.line code }

abbrev pub misplaced_at : Stage → Session → Said
misplaced_at Stage.MachineLine s = ends s 9
misplaced_at Stage.QueueLines s = ends s 9
misplaced_at Stage.Running s = refuses s 9
misplaced_at Stage.Over s = record { session = s; text = [] }

-- a malformed or misplaced line
abbrev pub misplaced : Session → Said
misplaced s = misplaced_at s.stage s

-- ---- the opening lines

abbrev pub machine_session : Session → Kind → (parties : ℕ) → Session
machine_session s k n = record {
  line = s.line;
  stage = Stage.QueueLines;
  kind = k;
  parties = n;
  asked = 0;
  requests = s.requests;
  positions = s.positions;
}

-- 1 at the machine line
abbrev pub machine_asked : (most : ℕ) → Session → Kind → (parties : ℕ) → Said
machine_asked most s k n =
    pick (andb (nat_lt 0 n) (nat_le n most)) (record { session = machine_session s k n; text = [] }) (ends s 1)

abbrev pub machine_taken : (most : ℕ) → Session → Kind → (parties : ℕ) → Said
machine_taken most s k n = pick (wants_machine s.stage) (machine_asked most s k n) (misplaced s)

abbrev pub queue_asked : Session → (request position : ℕ) → Session
queue_asked s r p = record {
  line = s.line;
  stage = s.stage;
  kind = s.kind;
  parties = s.parties;
  asked = plus 64 s.asked 1;
  requests = slice_set s.requests s.asked r;
  positions = slice_set s.positions s.asked p;
}

-- a line that leaves machine and items alone
abbrev pub stays : Machine → (items : List ℕ) → Said → Turn
stays m xs x = record { state = record { session = x.session; machine = m; items = xs }; text = x.text }

abbrev pub opened_as : Machine → (items : List ℕ) → Session → Opening → Turn
opened_as m xs s o =
    pick (o.refusal == 0)
    (record { state = record { session = at_stage Stage.Running s; machine = o.machine; items = xs }; text = [] })
    (stays m xs (ends s o.refusal))

-- 8 at the last queue line, the only refusal that `opening` has left there (proofs/Openings.antt)
unfoldable pub opens : (w most : ℕ) → Machine → (items : List ℕ) → Session → Turn
opens w most m xs s =
    opened_as m xs s (opening w most (every_kind most s.kind) s.parties s.requests s.positions (length xs))

unfoldable pub queue_read : (w most : ℕ) → Machine → (items : List ℕ) → Session → Turn
queue_read w most m xs s =
    pick (s.asked == s.parties) (opens w most m xs s) (stays m xs (record { session = s; text = [] }))

-- 7 at the first queue line whose request is too large
abbrev pub queue_taken : (w most : ℕ) → Machine → (items : List ℕ) → Session → (request position : ℕ) → Turn
queue_taken w most m xs s r p =
    pick (wants_queue s.stage)
    (pick (nat_le r (2 ^ (w - 1))) (queue_read w most m xs (queue_asked s r p)) (stays m xs (ends s 7))) (stays m xs (misplaced s))

-- ---- the run

-- the answer if the call has come to one, or a refusal
abbrev pub answer_text : (party : ℕ) → Option Answer → List ℕ
answer_text p None = []
answer_text p (Some a) = answer_of p a

abbrev pub outcome_text : (line party : ℕ) → Result Reply Refusal → List ℕ
outcome_text line p (Ok r) = answer_text p r.answer
outcome_text line p (Err e) = refused_of line (number_of e)

abbrev pub acts : Machine → (items : List ℕ) → Session → (party : ℕ) → AfterAct → Turn
acts m xs s p r =
    pick (is_running s.stage)
    (record {
      state = record { session = s; machine = r.machine; items = r.items };
      text = outcome_text s.line p r.reply;
    })
    (stays m xs (misplaced s))

-- ---- any line

unfoldable pub line_taken : (w most : ℕ) → Machine → (items : List ℕ) → Session → Line → Turn
line_taken w most m xs s (Line.Machine k n) = stays m xs (machine_taken most s k n)
line_taken w most m xs s (Line.Queue r p) = queue_taken w most m xs s r p
line_taken w most m xs s (Line.Begin p c) = acts m xs s p (acted w most m xs p (Act.Begin c))
line_taken w most m xs s (Line.Step p k) = acts m xs s p (acted w most m xs p (Act.Step k))
line_taken w most m xs s Line.Malformed = stays m xs (misplaced s)

-- the next line of the input, any bytes
unfoldable pub next_of : (w most : ℕ) → Machine → (items : List ℕ) → Session → List ℕ → Turn
next_of w most m xs s line = line_taken w most m xs (counted s) (read_of w line)

-- ---- what the functions promise

-- the text is put into the buffer, and all else there is kept
pub record Told (said : Said) (session : Session) (o o' : Out) : Type 0 where
  pub session_is : session ≡ said.session
  pub puts : Puts o said.text o'
  pub near : o'.put ≤ o.put + 128

pub record Took (turn : Turn) (state : State) (o o' : Out) : Type 0 where
  pub state_is : state ≡ turn.state
  pub puts : Puts o turn.text o'
  pub near : o'.put ≤ o.put + 128
