-- After i turns `base` is the sum of the first i capacities, each below 2 ^ width.
use Rattle.std.proofs.Common.{◌≡◌, ◌≤◌, ◌^◌, ◌*◌}
use Rattle.words.specs.Edition.{width}
use Rattle.tables.specs.Machine.{base_of}
use Rattle.machine.proofs.rest.base_of.Given as goal

abbrev pub invariant-loop-i : goal.invariant-loop-i
invariant-loop-i g l = record {
  small : l.base ≤ 2 ^ width * l.i;
  sum_is : l.base ≡ base_of l.i (g.R.Record.machine l.held).queue;
}
