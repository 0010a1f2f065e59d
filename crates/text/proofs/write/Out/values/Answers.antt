-- A token and a count are put in that order.
use Rattle.text.proofs.Writing.{puts_then, fields_append}
use Rattle.text.proofs.write.Out.values.Goals as goal

pub returns-clause-puts : goal.returns-clause-puts
returns-clause-puts c = rw fields_append (puts_then c.maybe.ensures.puts c.maybe-2.ensures.puts)
