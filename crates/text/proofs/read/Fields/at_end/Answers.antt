-- Bytes have a part, if it is only an empty one.
use Rattle.std.proofs.Common.{refl}
use Rattle.text.proofs.Parts.{part_there}
use Rattle.text.proofs.read.Fields.at_end.Goals as goal

pub returns-in-Some : goal.returns-in-Some
returns-in-Some g c = rw (c.in-Some.is, part_there c.in-Some.field-0.now) refl
