-- `words::slot_of` meets its contract: a mask takes the remainder.
use Rattle.std.proofs.Common.{arith}
use Rattle.words.proofs.Powers.{masks, pow_positive}
use Rattle.words.proofs.slot_of.Goals as goal

pub overflow_sub-result : goal.overflow_sub-result
overflow_sub-result c = omega (arith, pow_positive c.requires)

pub returns : goal.returns
returns c = omega (arith, masks c.args.at.0 c.requires)
