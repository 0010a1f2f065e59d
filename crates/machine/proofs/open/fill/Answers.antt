use Rattle.std.proofs.Common.{[], arith, rules}
use Rattle.words.specs.Edition.{width}
use Rattle.tables.proofs.Opening.{requests_small}
use Rattle.machine.proofs.Opens.{filling_start, filling_more}
use Rattle.machine.proofs.open.fill.Goals as goal

pub loop-i-init : goal.loop-i-init
loop-i-init c = filling_start _ _ _ _ c.requires.blank

pub fresh-queue-requires : goal.fresh-queue-requires
fresh-queue-requires c = requests_small width [] _ [] _ c.requires.small c.loop-i.i c.loop-i-test.true

pub loop-i-preserved : goal.loop-i-preserved
loop-i-preserved c = filling_more _ _ _ _ _ _ _ (omega (arith, c.requires.few)) (search rules) c.fresh-queue.ensures c.loop-i.invariant
