-- What is said of an answer, a change and an effect, said where a step may have none.
use Prim.Native.Nat.{ℕ}
use mathlib.Core.Bool.{Bool, true, false}
use mathlib.Core.List.{List, []}
use Rattle.std.specs.Prelude.{Option, Some, None}
use Rattle.tables.specs.declared.answer.Answer.{Answer}
use Rattle.tables.specs.declared.answer.Change.{Change}
use Rattle.tables.specs.declared.answer.Effect.{Effect}
use Rattle.tables.specs.declared.state.Kind.{Kind}
use Rattle.tables.specs.Answer.{handed_out}
use Rattle.tables.specs.Effect.{change_row, drops_of, moves_of}
use Rattle.tables.specs.Lists.{Lists, Plain, does, can}

abbrev pub change_in : Option Effect → Option Change
change_in None = None
change_in (Some e) = Some e.change

-- 1 for an effect, 0 for none
abbrev pub effects : Option Change → ℕ
effects None = 0
effects (Some c) = 1

abbrev pub drops_maybe : Option Change → ℕ
drops_maybe None = 0
drops_maybe (Some c) = drops_of c

abbrev pub moves_maybe : Option Change → ℕ
moves_maybe None = 0
moves_maybe (Some c) = moves_of c

abbrev pub lands_maybe : Option Change → Bool
lands_maybe None = false
lands_maybe (Some c) = (change_row c).lands

abbrev pub can_maybe : (party queue : ℕ) → Option Change → Lists → Bool
can_maybe p q None l = true
can_maybe p q (Some c) l = can p q c l

abbrev pub does_maybe : (ℕ → Kind) → (party queue : ℕ) → Option Change → Plain → Plain
does_maybe ks p q None a = a
does_maybe ks p q (Some c) a = does ks p q c a

abbrev pub hands_maybe : Option Answer → List ℕ
hands_maybe None = []
hands_maybe (Some a) = handed_out a
