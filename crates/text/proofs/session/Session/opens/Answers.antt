use Rattle.std.proofs.Common.{refl, arith}
use Rattle.words.specs.Edition.{width}
use Rattle.tables.specs.Machine.{most}
use Rattle.text.proofs.Writing.{puts_none}
use Rattle.text.proofs.Sessions.{stays_as, opens_taken, opens_refused}
use Rattle.text.proofs.session.Session.opens.Goals as goal

pub returns-in-None : goal.returns-in-None
returns-in-None c =
    let a = c.args in
    rw (opens_taken width most a.m.now a.items.now a.self.now c.open-opened.ensures c.in-None.is)
    (record { state_is = refl; puts = puts_none _; near = omega arith })

pub returns-in-Some : goal.returns-in-Some
returns-in-Some c =
    let a = c.args in
    rw (opens_refused width most a.m.now a.items.now a.self.now c.open-opened.ensures c.in-Some.is) (stays_as _ _ c.ends.ensures)
