-- One row an effect: its number, its word, the values it names, and what it says of offers, moves and drops.
use Rattle.std.specs.Prelude.{ℕ, Bool, true, false, List, [], ◌∷◌, Option, Some, None}
use Prim.Native.String.{String}
use Rattle.words.specs.Word.{pick}
use Rattle.tables.specs.declared.answer.Change.{Change}
use Rattle.tables.specs.declared.answer.ChangeColumns.{ChangeColumns}
use Rattle.tables.specs.declared.answer.Effect.{Effect}
use Rattle.tables.specs.declared.answer.Values.{Values}
use Rattle.tables.specs.Answer.{no_values, a_token, a_count}

pub record ChangeRow : Type 0 where
  pub number : ℕ
  pub word : String
  pub values : Values
  -- the tokens it offers; how many it pops or books; whether it lands, and so names the source; how many it drops
  pub offers : List ℕ
  pub moves : ℕ
  pub lands : Bool
  pub drops : ℕ

abbrev pub does : ℕ → String → Values → ChangeRow
does n w v = record { number = n; word = w; values = v; offers = []; moves = 0; lands = false; drops = 0 }

abbrev pub offers : ℕ → String → ℕ → ChangeRow
offers n w t = record { number = n; word = w; values = a_token t; offers = t ∷ []; moves = 0; lands = false; drops = 0 }

abbrev pub moves : ℕ → String → Values → ℕ → ChangeRow
moves n w v k = record { number = n; word = w; values = v; offers = []; moves = k; lands = false; drops = 0 }

abbrev pub lands : ℕ → String → ℕ → ChangeRow
lands n w k = record { number = n; word = w; values = a_count k; offers = []; moves = 0; lands = true; drops = 0 }

abbrev pub drops : ℕ → String → ℕ → ChangeRow
drops n w k = record { number = n; word = w; values = a_count k; offers = []; moves = 0; lands = false; drops = k }

abbrev pub change_row : Change → ChangeRow
change_row (Change.Offered t) = offers 1 "offered" t
change_row Change.Accepted = does 2 "accepted" no_values
change_row Change.Popped = moves 3 "popped" no_values 1
change_row (Change.Booked k) = moves 4 "booked" (a_count k) k
change_row (Change.Landed k) = lands 5 "landed" k
change_row (Change.TakeLanded k) = lands 6 "landed-in-hand" k
change_row Change.Drained = does 7 "drained" no_values
change_row (Change.Dropped k) = drops 8 "dropped" k
change_row Change.Closed = does 9 "closed" no_values

-- the columns that code hands on
abbrev pub columns : ChangeRow → ChangeColumns
columns r = record { number = r.number; values = r.values; lands = r.lands; drops = r.drops }

abbrev pub drops_of : Change → ℕ
drops_of c = (change_row c).drops

abbrev pub moves_of : Change → ℕ
moves_of c = (change_row c).moves

-- An effect, if any: it names its party and queue (landed: the source).
abbrev pub effect_of : (party queue source : ℕ) → Option Change → Option Effect
effect_of p q s None = None
effect_of p q s (Some c) = Some (record { party = p; queue = pick (change_row c).lands s q; change = c })
