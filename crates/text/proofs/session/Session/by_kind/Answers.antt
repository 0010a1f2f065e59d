-- Each line is taken by its own function, which is what the definition says of that line.
use Rattle.text.specs.Session.{line_taken}
use Rattle.text.proofs.Sessions.{stays_as}
use Rattle.text.proofs.session.Session.by_kind.Goals as goal

pub returns-in-Machine : goal.returns-in-Machine
unfolding line_taken
returns-in-Machine c = rw c.in-Machine.is (stays_as _ _ c.machine_taken.ensures)

pub returns-in-Queue : goal.returns-in-Queue
unfolding line_taken
returns-in-Queue c = rw c.in-Queue.is c.queue_taken.ensures

pub returns-in-Begin : goal.returns-in-Begin
unfolding line_taken
returns-in-Begin c = rw c.in-Begin.is c.acts.ensures

pub returns-in-Step : goal.returns-in-Step
unfolding line_taken
returns-in-Step c = rw c.in-Step.is c.acts-in-Step.ensures

pub returns-in-Malformed : goal.returns-in-Malformed
unfolding line_taken
returns-in-Malformed c = rw c.in-Malformed.is (stays_as _ _ c.misplaced.ensures)
