-- The digits that are left decide.
use Rattle.std.proofs.Common.{◌≡◌, drop}
use Rattle.text.specs.Number.{number_of, digits_of}
use Rattle.text.proofs.read.number.Given as goal

abbrev pub invariant-loop-b : goal.invariant-loop-b
invariant-loop-b l = number_of l.s ≡ digits_of l.value (drop l.b-index l.s)
