-- A number, a tab, and a rule after it.
use Rattle.std.proofs.Common.{arith}
use Rattle.text.proofs.Standing.{aim_said}
use Rattle.text.proofs.quick.aim.Goals as goal

pub returns : goal.returns
returns c =
    let count = c.in_ok-source.ensures in
    aim_said _ _ _ _ count (omega (arith, count.near)) _ _ c.if-s-end-ne9.false c.in_ok-rule.ensures
