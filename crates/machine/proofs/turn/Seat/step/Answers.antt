-- The refusals are tested in their order; past them the step is taken by the row that was looked up for them.
use Rattle.std.proofs.Common.{Ok, ap, ◌∙◌}
use Rattle.std.proofs.lemmas.Result.{err_from_is_err_and}
use Rattle.words.specs.Edition.{width}
use Rattle.tables.specs.Step.{mark_refusal}
use Rattle.machine.specs.declared.desk.Turn.{Turn}
use Rattle.machine.specs.Desk.{With, with, desk_row, desk_step, of_stepped}
use Rattle.machine.proofs.Running.{stepped_is}
use Rattle.machine.proofs.Told.{taking_on}
use Rattle.machine.proofs.turn.Seat.step.Goals as goal

pub returns-in_err-may_make : goal.returns-in_err-may_make
returns-in_err-may_make c =
    let a = c.args in let p = err_from_is_err_and c.from_residual.result c.from_residual.ensures.1 in
    rw (p.1, p.2)
    (taking_on (mark_refusal (desk_row width a.self.desk a.mark).access a.mark a.self.desk.party.place)
    (of_stepped (desk_step width a.self.at a.self.desk a.items.now a.mark)) a.items.now
    (rw c.reached-r.ensures at c.in_err-may_make.ensures))

pub returns : goal.returns
returns c =
    let a = c.args in let did = desk_step width a.self.at a.self.desk a.items.now a.mark in
    ap (λ (t : With Turn). with (Ok t.value) t.items)
    (stepped_is did c.taken-o.ensures c.no_effects.ensures c.note-effects.ensures c.turn_with.ensures)
    ∙ taking_on (mark_refusal (desk_row width a.self.desk a.mark).access a.mark a.self.desk.party.place) (of_stepped did) a.items.now
    (rw c.reached-r.ensures at c.in_ok-may_make.ensures)
