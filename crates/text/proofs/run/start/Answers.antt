-- No parties are asked for, so that the opening is refused and leaves the closed machine.
use Rattle.std.proofs.Common.{refl}
use Rattle.tables.specs.Step.{opening, open_refusal}
use Rattle.text.proofs.run.start.Goals as goal

pub returns-clause-flow_is : goal.returns-clause-flow_is
unfolding opening open_refusal
returns-clause-flow_is c = rw (c.open-opened.ensures, c.start.ensures, c.none.ensures) refl
