-- `words::pack` meets its contract: a shift and an or pack.
use Rattle.std.proofs.Common.{arith}
use Rattle.words.specs.Edition.{width}
use Rattle.words.proofs.Laws.{packs}
use Rattle.words.proofs.pack.Goals as goal

pub returns : goal.returns
returns c = omega (arith, packs width c.ranges.high.fits c.ranges.low.fits)
