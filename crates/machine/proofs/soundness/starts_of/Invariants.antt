-- After i turns the first i entries are sound, and the first i stretches start where the capacities before them end.
use Rattle.machine.proofs.Surveys.{Started}
use Rattle.machine.proofs.soundness.starts_of.Given as goal

abbrev pub invariant-loop-i : goal.invariant-loop-i
invariant-loop-i g l = Started (g.R.Record.machine l.held) l.i l.at l.total
