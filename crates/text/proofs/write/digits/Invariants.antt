-- The places that are left bound the digits that follow.
use Rattle.std.proofs.Common.{◌≡◌, drop}
use Rattle.text.specs.Number.{digits_to, decimal_of}
use Rattle.text.proofs.write.digits.Given as goal

abbrev pub invariant-loop-i : goal.invariant-loop-i
invariant-loop-i l = decimal_of l.n ≡ digits_to l.i l.rest (drop l.i l.text)
