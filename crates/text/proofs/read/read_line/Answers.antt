use Rattle.std.proofs.Common.{le-leb}
use borrow.Author.Tests.{lt-leb}
use Rattle.text.specs.Line.{read_of}
use Rattle.text.proofs.read.read_line.Goals as goal

pub returns-then-s-gt-LONGEST : goal.returns-then-s-gt-LONGEST
unfolding read_of
returns-then-s-gt-LONGEST c = simp (lt-leb _ _ c.if-s-gt-LONGEST.true)

pub returns : goal.returns
unfolding read_of
returns c = simp (le-leb _ _ c.if-s-gt-LONGEST.false, c.unwrap_or.ensures, c.line.ensures)
