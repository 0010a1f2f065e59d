-- Each part is put where the one before ended; together they are the line.
use Rattle.std.proofs.Common.{ap}
use Rattle.tables.specs.declared.answer.AnswerColumns.{AnswerColumns}
use Rattle.text.specs.Write.{answer_of}
use Rattle.text.proofs.Writing.{puts_then}
use Rattle.text.proofs.write.Out.answer.Goals as goal

pub returns-clause-puts : goal.returns-clause-puts
unfolding answer_of
returns-clause-puts c =
    let values = ap (λ (r : AnswerColumns). r.values) c.answer_row.ensures in
    rw (← values, ← c.word.ensures.is)
    (puts_then c.push.ensures (puts_then c.field.ensures.puts (puts_then c.push-2.ensures
    (puts_then c.push-3.ensures (puts_then c.values.ensures.puts c.push-4.ensures)))))
