use Rattle.std.proofs.Common.{◌≡◌, [], drop, sym, ◌∙◌, arith, drop_of_length-le}
use Rattle.text.specs.Number.{decimal_of}
use Rattle.text.proofs.Writing.{turn_last, turn_next, digits_none}
use Rattle.text.proofs.write.digits.Goals as goal

pub loop-i-init : goal.loop-i-init
unfolding decimal_of
loop-i-init c = let z : drop 20 c.args.text.now ≡ [] = drop_of_length-le c.args.text.now {i = 20} (omega arith) in rw z

pub returns-then-rest-eq0-clause-digits_are : goal.returns-then-rest-eq0-clause-digits_are
returns-then-rest-eq0-clause-digits_are c =
    let l = c.loop-i in turn_last l.i l.rest l.text (omega arith) (omega arith) c.if-rest-eq0.true ∙ sym l.invariant

pub loop-i-preserved : goal.loop-i-preserved
loop-i-preserved c = let l = c.loop-i in l.invariant ∙ turn_next l.i l.rest l.text (omega arith) (omega arith) c.if-rest-eq0.false

pub returns-clause-digits_are : goal.returns-clause-digits_are
returns-clause-digits_are c = let l = c.loop-i in sym (l.invariant ∙ digits_none l.i l.rest l.text (omega arith))
