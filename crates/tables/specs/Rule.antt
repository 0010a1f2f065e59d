-- Kinds, count rules and the marks that a step may carry.
use Rattle.std.specs.Prelude.{ℕ, ◌/◌}
use Rattle.tables.specs.declared.call.Mark.{Mark}
use Rattle.tables.specs.declared.call.Rule.{Rule}

abbrev pub carried : Mark → ℕ
carried Mark.Plain = 0
carried Mark.Weak = 0
carried (Mark.Carry n) = n
carried Mark.End = 0

abbrev pub ruled : Rule → Mark → ℕ → ℕ
ruled Rule.All m n = n
ruled Rule.Half m n = n / 2
ruled (Rule.Fixed k) m n = k
ruled Rule.Given m n = carried m
