use Rattle.std.proofs.Common.{arith}
use Rattle.text.proofs.Standing.{loaded_four, small_two}
use Rattle.text.proofs.quick.four.Goals as goal

pub overflow_mul-result : goal.overflow_mul-result
overflow_mul-result c = omega (arith, small_two _ _ _ (omega arith) c.two-2.ensures)

pub overflow_add-result : goal.overflow_add-result
overflow_add-result c =
    omega (arith, small_two _ _ _ (omega arith) c.two.ensures, small_two _ _ _ (omega arith) c.two-2.ensures)

pub returns : goal.returns
returns c = loaded_four _ _ _ _ (omega arith) c.two.ensures c.two-2.ensures
