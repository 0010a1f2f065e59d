-- The bytes are read as the line that the definition reads, and taken as that line.
use Rattle.text.specs.Session.{next_of}
use Rattle.text.proofs.session.Session.take.Goals as goal

pub returns : goal.returns
unfolding next_of
returns c = rw (← c.read_line.ensures) c.by_kind.ensures
