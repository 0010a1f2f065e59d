-- After i turns the first i queues are the opened ones, and `total` is the sum of their capacities.
use Rattle.machine.proofs.Opens.{Filling}
use Rattle.machine.proofs.open.fill.Given as goal

abbrev pub invariant-loop-i : goal.invariant-loop-i
invariant-loop-i l = Filling l.kind l.requests l.positions l.i l.machine l.total
