-- A byte that is at most 9 above that of 0 is a digit, and one digit or two make the number.
use Rattle.std.proofs.Common.{◌+◌, arith}
use Rattle.text.proofs.Standing.{few_one, few_two}
use Rattle.text.proofs.quick.few.Goals as goal

pub returns-then-e-gt9 : goal.returns-then-e-gt9
returns-then-e-gt9 c =
    few_one _ _ _ (omega arith) (omega (arith, c.type_inv.s c.args.at, c.if-d-gt9.false)) c.if-d-gt9.false

pub returns : goal.returns
returns c =
    few_two _ _ _ _ (omega arith) (omega (arith, c.type_inv.s c.args.at, c.if-d-gt9.false)) c.if-d-gt9.false
    (omega (arith, c.type_inv.s (c.args.at + 1), c.if-e-gt9.false)) c.if-e-gt9.false
