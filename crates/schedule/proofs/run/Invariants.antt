-- A piece is used up byte by byte.
use Rattle.std.proofs.Common.{◌-◌, ◌≤◌}
use Rattle.schedule.proofs.run.Given as goal

abbrev pub invariant-loop-used : goal.invariant-loop-used
invariant-loop-used g l = l.used ≤ l.n

abbrev pub decreases-loop-used : goal.decreases-loop-used
decreases-loop-used g l = l.n - l.used
