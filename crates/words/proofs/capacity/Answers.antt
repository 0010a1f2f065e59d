-- `words::capacity` meets its contract: the leading zeros of the number before the request leave the exponent.
use Rattle.std.proofs.Common.{◌-◌, sym, le_trans, arith}
use lib.Count.{leading_le}
use Rattle.words.specs.Edition.{width}
use Rattle.words.proofs.Doubling.{doubled_done}
use Rattle.words.proofs.Zeros.{zeros_leave, capacity_by_zeros}
use Rattle.words.proofs.capacity.Goals as goal

pub returns-then-request-eq0 : goal.returns-then-request-eq0
returns-then-request-eq0 c = sym (doubled_done (width - 1) (omega arith))

pub overflow_sub-exponent-2 : goal.overflow_sub-exponent-2
overflow_sub-exponent-2 c = le_trans (leading_le 64 _) (omega arith)

pub overflow_shl-result : goal.overflow_shl-result
overflow_shl-result c =
    omega (arith, zeros_leave width 64 {r = c.args.request} (omega arith) (omega arith) (omega arith) (omega arith))

pub returns : goal.returns
returns c = capacity_by_zeros width 64 (omega arith) (omega arith) (omega arith) (omega arith) 32 (omega arith)
