-- Each turn is one more of `until`, so what the loop leaves is what `until` gives.
use Rattle.std.proofs.Common.{◌<◌, sym, ap, subst, ◌∙◌, length, arith}
use Rattle.words.specs.Edition.{width}
use Rattle.machine.specs.declared.desk.Turn.{Turn}
use Rattle.machine.specs.Desk.{ran_none, desk_runs, of_ran}
use Rattle.machine.proofs.Running.{Running, running_start, running_spent, running_stopped, running_roomy, running_on}
use Rattle.machine.proofs.turn.Seat.alone.Goals as goal
use Rattle.machine.proofs.turn.Seat.alone.Goals.{then-t-budget-via-then-t-budget, then-t-budget-via-else-t-budget+then-stops}

pub loop-t-init : goal.loop-t-init
loop-t-init c =
    let a = c.args in
    subst (λ (t : Turn). Running width a.self.at a.budget (ran_none t.desk a.items.now) (length a.items.now) t a.items.now)
    (sym c.as_came-t.ensures) (running_start width a.self.at a.budget a.self.desk a.items.now c.requires)

pub onward-t-requires-clause-roomy : goal.onward-t-requires-clause-roomy
onward-t-requires-clause-roomy c =
    let v = c.loop-t in running_roomy v.invariant c.ranges.budget.fits (omega (arith, v.invariant.within, c.if-t-budget.false))

pub loop-t-preserved : goal.loop-t-preserved
loop-t-preserved c =
    let v = c.loop-t in
    let h : v.t.reply.steps < c.args.budget = omega (arith, v.invariant.within, c.if-t-budget.false) in
    running_on v.invariant h (sym c.stops.ensures ∙ c.if-stops.false) _ _ c.onward-t.ensures

pub returns : goal.returns
returns c =
    (elim c.then-t-budget.branch [
      | then-t-budget-via-then-t-budget w ↦ running_spent c.loop-t.invariant w.if-t-budget.true
      | then-t-budget-via-else-t-budget+then-stops w ↦ running_stopped c.loop-t.invariant (sym w.stops.ensures ∙ w.if-stops.true)
    ])
    ∙ ap (λ (t : Turn). of_ran (desk_runs width c.args.self.at c.args.budget (ran_none t.desk c.args.items.now))) c.as_came-t.ensures
