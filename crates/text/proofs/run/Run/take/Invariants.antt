-- Line after line is what the definition does byte by byte.
use Rattle.std.proofs.Common.{◌≡◌, ◌-◌, length}
use Rattle.text.specs.Feeding.{flow_of, cursor_of, Gets}
use Rattle.text.proofs.run.Run.take.Given as goal

abbrev pub invariant-loop-used : goal.invariant-loop-used
invariant-loop-used l = record {
  gets : Gets l.piece (flow_of l.initial.self l.initial.items) 0 l.initial.out (flow_of l.self l.items) l.used l.out;
  cursor_is : cursor_of l.self ≡ cursor_of l.initial.self;
}

abbrev pub decreases-loop-used : goal.decreases-loop-used
decreases-loop-used l = length l.piece - l.used
