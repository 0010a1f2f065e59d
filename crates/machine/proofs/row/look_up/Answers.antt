-- The refusal that meets the step, or what the row says.
use Rattle.std.proofs.Common.{true}
use Rattle.std.proofs.lemmas.Result.{err_from_is_err_and}
use Rattle.words.specs.Edition.{width}
use Rattle.tables.specs.Step.{step_order}
use Rattle.machine.specs.declared.row.Look.{Look}
use Rattle.machine.specs.Look.{look_at}
use Rattle.machine.proofs.Told.{told_on}
use Rattle.machine.proofs.row.look_up.Goals as goal

pub returns-in_err-may_step : goal.returns-in_err-may_step
returns-in_err-may_step c =
    let p = err_from_is_err_and c.from_residual.result c.from_residual.ensures.1 in
    let a = c.args in let k = look_at width a.x a.y a.place a.context in
    rw (p.1, p.2)
    (told_on {A = Look} (step_order true a.parties a.who k.access a.context.mark a.place) k
    (rw c.look_at-look.ensures at c.in_err-may_step.ensures))

pub returns : goal.returns
returns c =
    let a = c.args in let k = look_at width a.x a.y a.place a.context in
    rw c.look_at-look.ensures
    (told_on {A = Look} (step_order true a.parties a.who k.access a.context.mark a.place) k
    (rw c.look_at-look.ensures at c.in_ok-may_step.ensures))
