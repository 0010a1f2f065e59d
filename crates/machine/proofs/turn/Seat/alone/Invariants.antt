-- Each turn is one more of `until`.
use Rattle.std.proofs.Common.{◌-◌, length}
use Rattle.words.specs.Edition.{width}
use Rattle.machine.specs.Desk.{ran_none}
use Rattle.machine.proofs.Running.{Running}
use Rattle.machine.proofs.turn.Seat.alone.Given as goal

abbrev pub invariant-loop-t : goal.invariant-loop-t
invariant-loop-t l =
    Running width l.self.at l.budget (ran_none l.initial.t.desk l.initial.items) (length l.initial.items) l.t l.items

abbrev pub decreases-loop-t : goal.decreases-loop-t
decreases-loop-t l = l.budget - l.t.reply.steps
