use Rattle.text.specs.Write.{fields_for}
use Rattle.text.proofs.Writing.{puts_none, one_field}
use Rattle.text.proofs.write.Out.maybe.Goals as goal

pub returns-in-Some-clause-puts : goal.returns-in-Some-clause-puts
returns-in-Some-clause-puts c = rw (c.in-Some.is, one_field) c.field.ensures.puts

pub returns-in_default-clause-puts : goal.returns-in_default-clause-puts
unfolding fields_for
returns-in_default-clause-puts c = rw c.in_default.is (puts_none _)
