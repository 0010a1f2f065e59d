-- The tab after the word, the party, and the newline or a tab and the mark.
use Rattle.std.proofs.Common.{arith}
use Rattle.text.specs.Ascii.{ascii}
use Rattle.text.proofs.Standing.{then_byte, plain_said, mark_said, step_line_lem}
use Rattle.text.proofs.quick.step.Goals as goal

pub returns-in-10 : goal.returns-in-10
returns-in-10 c =
    let count = c.in_ok-party.ensures in
    step_line_lem _ _ _ 3 _ _ (then_byte c.args.s.now c.args.from 4 9 (ascii "step") c.requires.stands c.if-s-from-ne9.false (omega arith)) (omega arith)
    (plain_said _ _ _ _ count (omega (arith, count.near)) c.in-10.is)

pub returns-in_ok-mark-in-9 : goal.returns-in_ok-mark-in-9
returns-in_ok-mark-in-9 c =
    let count = c.in_ok-party.ensures in
    step_line_lem _ _ _ 50 _ _ (then_byte c.args.s.now c.args.from 4 9 (ascii "step") c.requires.stands c.if-s-from-ne9.false (omega arith)) (omega arith)
    (mark_said _ _ _ _ count (omega (arith, count.near)) _ _ c.in-9.is c.in_ok-mark-in-9.ensures)
