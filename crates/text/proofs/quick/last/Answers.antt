use Rattle.std.proofs.Common.{arith}
use Rattle.text.proofs.Standing.{none_passed, one_passed, last_said}
use Rattle.text.proofs.quick.last.Goals as goal

pub loop-i-init : goal.loop-i-init
loop-i-init c = none_passed _ _

pub returns-then-i-at-le40 : goal.returns-then-i-at-le40
returns-then-i-at-le40 c =
    let l = c.loop-i in
    last_said _ _ l.i l.value l.auto.i l.invariant c.if-at-i.true c.loop-i-test.true c.if-s-i-eq10.true c.if-i-at-le40.true

pub loop-i-preserved : goal.loop-i-preserved
loop-i-preserved c =
    let l = c.loop-i in
    let e = c.in_ok-value.ensures in
    let m = c.in_ok-checked_mul.ensures in
    rw (e.1, m.1) (
    one_passed _ _ l.i l.value l.auto.i l.invariant _ c.loop-i-test.true (omega (arith, c.type_inv.s l.i, c.if-d-gt9.false)) c.if-d-gt9.false
    (omega (arith, e, m))
    )
