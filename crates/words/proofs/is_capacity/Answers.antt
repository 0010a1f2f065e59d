-- `words::is_capacity` meets its contract: a power of two has no bit in common with the number before it.
use Rattle.std.proofs.Common.{arith}
use Rattle.words.specs.Edition.{width}
use Rattle.words.proofs.Powers.{test_zero, test_bits}
use Rattle.words.proofs.is_capacity.Goals as goal

pub returns-else-c-ne0 : goal.returns-else-c-ne0
returns-else-c-ne0 c = simp (c.if-c-ne0.false, test_zero)

pub returns-then-c-ne0 : goal.returns-then-c-ne0
returns-then-c-ne0 c = test_bits width {c = c.args.c} (omega arith) (omega arith)
