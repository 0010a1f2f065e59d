use Rattle.std.proofs.Common.{refl, eq-eqb, ne_eqb}
use Rattle.text.specs.Session.{queue_read}
use Rattle.text.proofs.Sessions.{stays_as, told_none}
use Rattle.text.proofs.session.Session.queue_read.Goals as goal

pub returns-then-self : goal.returns-then-self
unfolding queue_read
returns-then-self c = simp (eq-eqb _ _ c.if-self.true) c.opens.ensures

pub returns-else-self : goal.returns-else-self
unfolding queue_read
returns-else-self c = simp (ne_eqb _ _ c.if-self.false) (stays_as _ _ (told_none _ refl))
