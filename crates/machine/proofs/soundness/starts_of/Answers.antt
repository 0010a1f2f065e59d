-- The test fails at what it finds first; past all of it the record is sound, and every start is where it should be.
use Rattle.std.proofs.Common.{ℕ, sym, ap, ◌∙◌, arith, rules}
use lib.ListN.{length-replicate}
use Rattle.words.specs.Edition.{width}
use Rattle.tables.specs.Machine.{most}
use Rattle.tables.specs.declared.state.Queue.{Queue}
use Rattle.machine.proofs.Surveys.{none_unsound, many_unsound, entry_unsound, started_none, started_more, fits_sound, less_unsound, fit_of}
use Rattle.machine.proofs.soundness.starts_of.Goals as goal
use Rattle.machine.proofs.soundness.starts_of.Goals.{then-parties-eq0-via-then-parties-eq0, then-parties-eq0-via-else-parties-eq0+then-parties-gt-MOST}

pub returns-then-parties-eq0-clause-passes : goal.returns-then-parties-eq0-clause-passes
returns-then-parties-eq0-clause-passes g c =
    let m = g.R.Record.machine c.args.held.now in let e = c.parties-parties.ensures in
    elim c.then-parties-eq0.branch [
      | then-parties-eq0-via-then-parties-eq0 w ↦ none_unsound width most m c.args.lent (sym e ∙ w.if-parties-eq0.true)
      | then-parties-eq0-via-else-parties-eq0+then-parties-gt-MOST w ↦
          many_unsound width most m c.args.lent (omega (arith, e, w.if-parties-gt-MOST.true))
    ]

pub loop-i-init : goal.loop-i-init
loop-i-init g c = started_none (g.R.Record.machine c.args.held.now) _ (length-replicate {A = ℕ} most 0)

pub returns-then-not-fine-clause-passes : goal.returns-then-not-fine-clause-passes
returns-then-not-fine-clause-passes g c =
    entry_unsound width most (g.R.Record.machine c.args.held.now) c.args.lent c.loop-i.i
    (omega (arith, c.parties-parties.ensures, c.loop-i-test.true)) c.if-not-fine.ensures.fine_is

pub overflow_add-total : goal.overflow_add-total
overflow_add-total g c = omega (arith, c.loop-i.invariant.small, c.loop-i-test.true, c.if-parties-gt-MOST.false)

pub loop-i-preserved : goal.loop-i-preserved
loop-i-preserved g c =
    started_more (g.R.Record.machine c.args.held.now) (omega (arith, c.loop-i-test.true, c.if-parties-gt-MOST.false)) c.loop-i.invariant
    c.if-not-fine.ensures.fine_is (ap (λ (q : Queue). q.capacity) c.queue-own.ensures.queue_is) (search rules)
    c.fine.ensures.parties_many c.queue-own.ensures.queues_many

pub returns-then-total-lent-clause-passes : goal.returns-then-total-lent-clause-passes
returns-then-total-lent-clause-passes g c =
    let v = c.loop-i in
    fits_sound (g.R.Record.machine c.args.held.now) c.args.lent c.parties-parties.ensures c.if-parties-eq0.false
    c.if-parties-gt-MOST.false v.auto.i-end c.loop-i-test.false v.invariant c.if-total-lent.true

pub returns-then-total-lent-clause-fit : goal.returns-then-total-lent-clause-fit
returns-then-total-lent-clause-fit g c =
    let v = c.loop-i in
    fit_of (g.R.Record.machine c.args.held.now) c.args.lent c.parties-parties.ensures c.if-parties-eq0.false
    c.if-parties-gt-MOST.false v.auto.i-end c.loop-i-test.false v.invariant c.if-total-lent.true

pub returns-else-total-lent-clause-passes : goal.returns-else-total-lent-clause-passes
returns-else-total-lent-clause-passes g c =
    let v = c.loop-i in
    less_unsound (g.R.Record.machine c.args.held.now) c.args.lent c.parties-parties.ensures c.if-parties-eq0.false
    c.if-parties-gt-MOST.false v.auto.i-end c.loop-i-test.false v.invariant c.if-total-lent.false
