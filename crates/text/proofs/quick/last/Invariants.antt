-- What is passed are digits, and their value is that of the number so far.
use Rattle.text.proofs.Standing.{Passed}
use Rattle.text.proofs.quick.last.Given as goal

abbrev pub invariant-loop-i : goal.invariant-loop-i
invariant-loop-i l = Passed l.s l.at l.i l.value
