-- The first bytes are those that the reader asks for.
use Rattle.std.proofs.Common.{refl, arith}
use Rattle.text.specs.Ascii.{ascii}
use Rattle.text.proofs.Standing.{loaded}
use Rattle.text.proofs.quick.quick.Goals as goal

pub step-requires-clause-stands : goal.step-requires-clause-stands
step-requires-clause-stands c = loaded _ _ 4 _ (ascii "step") (omega arith) c.four.ensures refl refl c.in-1885697139.is

pub begin-requires-clause-stands : goal.begin-requires-clause-stands
begin-requires-clause-stands c = loaded _ _ 4 _ (ascii "begi") (omega arith) c.four.ensures refl refl c.in-1768383842.is
