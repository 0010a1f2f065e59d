-- `words::unpack` meets its contract: a shift and a mask take the halves.
use Rattle.std.proofs.Common.{lt_of_le_of_lt, arith, lit<}
use lib.Bits.{and_mask, and_le_r}
use Rattle.words.specs.Edition.{width}
use Rattle.words.proofs.unpack.Goals as goal

pub overflow_cast-result-2 : goal.overflow_cast-result-2
overflow_cast-result-2 c = record { fits = lt_of_le_of_lt (and_le_r c.args.word _) (lit< tt) }

pub returns : goal.returns
returns c = record { high_is = omega arith; low_is = omega (arith, and_mask c.args.word width) }
