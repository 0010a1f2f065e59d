use Rattle.std.proofs.Common.{refl, sym, ◌∙◌}
use Rattle.text.specs.Feeding.{last_fed}
use Rattle.text.proofs.Writing.{puts_none}
use Rattle.text.proofs.Feedings.{gets_whole}
use Rattle.text.proofs.run.Run.last_line.Goals as goal

pub returns-then-not-is_none-clause-flow_is : goal.returns-then-not-is_none-clause-flow_is
unfolding last_fed
returns-then-not-is_none-clause-flow_is c =
    simp (sym c.is_none.ensures ∙ c.if-not-is_none.true) (gets_whole c.take.ensures.gets c.take.ensures.over _ refl).0

pub returns-then-not-is_none-clause-puts : goal.returns-then-not-is_none-clause-puts
unfolding last_fed
returns-then-not-is_none-clause-puts c =
    simp (sym c.is_none.ensures ∙ c.if-not-is_none.true) (gets_whole c.take.ensures.gets c.take.ensures.over _ refl).2

pub returns-else-not-is_none-clause-flow_is : goal.returns-else-not-is_none-clause-flow_is
unfolding last_fed
returns-else-not-is_none-clause-flow_is c = simp (sym c.is_none.ensures ∙ c.if-not-is_none.false)

pub returns-else-not-is_none-clause-puts : goal.returns-else-not-is_none-clause-puts
unfolding last_fed
returns-else-not-is_none-clause-puts c = simp (sym c.is_none.ensures ∙ c.if-not-is_none.false) (puts_none _)
