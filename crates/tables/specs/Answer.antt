-- One row an answer: its number, its word, the values it names, whether its token is handed out by it, and what it leans on.
use Rattle.std.specs.Prelude.{ℕ, Bool, true, false, List, [], ◌∷◌, Option, Some, None}
use Prim.Native.String.{String}
use Rattle.words.specs.Word.{pick}
use Rattle.tables.specs.declared.answer.Answer.{Answer}
use Rattle.tables.specs.declared.answer.AnswerColumns.{AnswerColumns}
use Rattle.tables.specs.declared.answer.Values.{Values}

-- What an answer leans on, for Causes: nothing; no token rested; no slot was free; a booking was open; nothing was to be booked.
pub data Reason : Type 0 where
  nothing : Reason
  none_rested : Reason
  none_free : Reason
  one_open : Reason
  none_to_book : Reason

pub record AnswerRow : Type 0 where
  pub number : ℕ
  pub word : String
  pub values : Values
  pub out : Bool
  pub reason : Reason

abbrev pub no_values : Values
no_values = record { token = None; count = None }

abbrev pub a_token : ℕ → Values
a_token t = record { token = Some t; count = None }

abbrev pub a_count : ℕ → Values
a_count k = record { token = None; count = Some k }

-- says so; hands its token out; says no, for a reason
abbrev pub says : ℕ → String → Values → AnswerRow
says n w v = record { number = n; word = w; values = v; out = false; reason = nothing }

abbrev pub hands : ℕ → String → Values → AnswerRow
hands n w v = record { number = n; word = w; values = v; out = true; reason = nothing }

abbrev pub fails : ℕ → String → Values → Reason → AnswerRow
fails n w v r = record { number = n; word = w; values = v; out = false; reason = r }

abbrev pub answer_row : Answer → AnswerRow
answer_row Answer.Pushed = says 1 "pushed" no_values
answer_row (Answer.Full t) = fails 2 "full" (a_token t) none_free
answer_row (Answer.Popped t) = hands 3 "popped" (a_token t)
answer_row Answer.None = fails 4 "none" no_values none_rested
answer_row (Answer.Extended k) = says 5 "extended" (a_count k)
answer_row (Answer.Stolen k) = says 6 "stolen" (a_count k)
answer_row (Answer.Taken t k) = hands 7 "taken" (record { token = Some t; count = Some k })
answer_row (Answer.Drain k) = says 8 "drain" (a_count k)
answer_row (Answer.Item t) = hands 9 "item" (a_token t)
answer_row Answer.Done = says 10 "done" no_values
answer_row Answer.Closed = says 11 "closed" no_values
answer_row Answer.Busy = fails 12 "busy" no_values one_open
answer_row Answer.Empty = fails 13 "empty" no_values none_to_book
answer_row (Answer.Spare k) = says 14 "spare" (a_count k)
answer_row Answer.Yes = says 15 "yes" no_values
answer_row Answer.No = says 16 "no" no_values

-- the columns that code hands on
abbrev pub columns : AnswerRow → AnswerColumns
columns r = record { number = r.number; values = r.values }

-- under way: no answer yet
abbrev pub is_pending : Option Answer → Bool
is_pending None = true
is_pending (Some a) = false

-- no answer leans on nothing
abbrev pub reason_of : Option Answer → Reason
reason_of None = nothing
reason_of (Some a) = (answer_row a).reason

-- ---- what the values are

abbrev pub listed : Option ℕ → List ℕ
listed None = []
listed (Some n) = n ∷ []

abbrev pub tokens_of : Values → List ℕ
tokens_of v = listed v.token

abbrev pub counts_of : Values → List ℕ
counts_of v = listed v.count

-- a token in hand is handed out by the answer that names it
abbrev pub handed_out : Answer → List ℕ
handed_out a = pick (answer_row a).out (tokens_of (answer_row a).values) []
