-- Document 01's refusals: their numbers, and what is said of a number, where 0 is none.
use Rattle.std.specs.Prelude.{ℕ, zero, suc, eqb, Option, Some, None, Result, Ok, Err}
use Rattle.words.specs.Word.{pick}
use Rattle.tables.specs.declared.answer.Refusal.{Refusal}

abbrev pub number_of : Refusal → ℕ
number_of Refusal.Record = 1
number_of Refusal.Party = 2
number_of Refusal.Busy = 3
number_of Refusal.Idle = 4
number_of Refusal.Source = 5
number_of Refusal.Mark = 6
number_of Refusal.Request = 7
number_of Refusal.Items = 8
number_of Refusal.Line = 9

-- the refusal with a number; the definitions give none but 1 to 9
abbrev pub refusal_of : ℕ → Refusal
refusal_of k =
    pick (eqb k 2) Refusal.Party (pick (eqb k 3) Refusal.Busy (pick (eqb k 4) Refusal.Idle (pick (eqb k 5) Refusal.Source
    (pick (eqb k 6) Refusal.Mark (pick (eqb k 7) Refusal.Request (pick (eqb k 8) Refusal.Items (pick (eqb k 9) Refusal.Line Refusal.Record)))))))

-- an outcome, unless a number refuses it
abbrev pub told : {A : Type 0} → ℕ → A → Result A Refusal
told zero x = Ok x
told (suc k) x = Err (refusal_of (suc k))

-- the refusal that a number says, if any
abbrev pub named : ℕ → Option Refusal
named zero = None
named (suc k) = Some (refusal_of (suc k))
