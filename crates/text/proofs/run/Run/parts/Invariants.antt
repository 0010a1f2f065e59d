-- Each turn writes the part that the definition has next.
use Rattle.text.specs.Session.{state_of}
use Rattle.text.specs.Write.{room_of}
use Rattle.text.specs.Feeding.{GetsParts}
use Rattle.text.proofs.run.Run.parts.Given as goal

abbrev pub invariant-loop-at : goal.invariant-loop-at
invariant-loop-at l = GetsParts (state_of l.self.session l.self.machine l.items) l.initial.at l.initial.out l.at l.out

abbrev pub decreases-loop-at : goal.decreases-loop-at
decreases-loop-at l = room_of l.out
