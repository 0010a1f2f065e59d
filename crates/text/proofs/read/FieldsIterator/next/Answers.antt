-- The field ends at the next tab, or with the line, and then none is left.
use Rattle.std.proofs.Common.{ap, ◌∙◌, length, arith}
use Rattle.text.specs.Fields.{fields_in}
use Rattle.text.proofs.Parts.{part_more, part_last}
use Rattle.text.proofs.read.FieldsIterator.next.Goals as goal
use Rattle.text.proofs.read.FieldsIterator.next.Goals.{then-end-line, else-end-line}

pub returns-clause-steps : goal.returns-clause-steps
returns-clause-steps c =
    let was = ap fields_in c.in_ok-line.was in
    let found = c.find-end.ensures.index in
    elim c.if-end-line.branch [
      | then-end-line w ↦ was ∙ rw (w.self-is) (part_more c.in_ok-line.line.now c.find-end.result found w.if-end-line.true)
      | else-end-line w ↦ was ∙ rw (w.self-is) (part_last c.in_ok-line.line.now c.find-end.result found w.if-end-line.false)
    ]

pub returns-clause-goes : goal.returns-clause-goes
returns-clause-goes c = record { on = λ _. (tt, tt, omega (arith, ap length (returns-clause-steps c))); keeps = tt; rests = λ _. tt }
