-- A line that was found keeps what the loop keeps.
use Rattle.std.proofs.Common.{◌-◌, length}
use Rattle.text.proofs.Looping.{Goes}
use Rattle.text.proofs.lines.lines.Given as goal

abbrev pub invariant-loop-starts : goal.invariant-loop-starts
invariant-loop-starts l =
    Goes l.session l.starts l.piece l.initial.m l.initial.items l.initial.from l.initial.out l.m l.items l.line l.from l.out

abbrev pub decreases-loop-starts : goal.decreases-loop-starts
decreases-loop-starts l = length l.piece - l.from
