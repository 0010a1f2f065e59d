-- A refusal's number is one digit.
use Rattle.tables.proofs.Numbers.{number_few}
use Rattle.text.specs.Write.{refused_of}
use Rattle.text.proofs.Writing.{puts_then, one_digit}
use Rattle.text.proofs.write.Out.refused.Goals as goal

pub returns-clause-puts : goal.returns-clause-puts
unfolding refused_of
returns-clause-puts c =
    rw (one_digit _ (number_few c.args.refusal), ← c.from.ensures)
    (puts_then c.push.ensures (puts_then c.field.ensures.puts c.push-2.ensures))
