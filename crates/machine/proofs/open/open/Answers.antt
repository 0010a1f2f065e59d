-- Each refusal's test is the definition's, in its order; past all of them the machine is the one it opens.
use Rattle.std.proofs.Common.{sym, ◌∙◌, length, arith, rules}
use Rattle.words.specs.Edition.{width}
use Rattle.tables.specs.Machine.{most}
use Rattle.tables.specs.Step.{every_kind}
use Rattle.machine.proofs.Opens.{none_refused, many_refused, over_is, over_refused, sum_refused, none_refusal, opened_refused, opened_taken}
use Rattle.machine.proofs.open.open.Goals as goal
use Rattle.machine.proofs.open.open.Goals.{then-parties-eq0-via-then-parties-eq0, then-parties-eq0-via-else-parties-eq0+then-parties}

pub returns-then-parties-eq0 : goal.returns-then-parties-eq0
returns-then-parties-eq0 c =
    let a = c.args in let ks = every_kind most a.kind in let n = a.parties in let lent = length a.items.now in
    elim c.then-parties-eq0.branch [
      | then-parties-eq0-via-then-parties-eq0 w ↦
          opened_refused width most ks n _ _ lent c.blank-closed.ensures
          (none_refused width most ks n _ _ lent w.if-parties-eq0.true) (omega arith)
      | then-parties-eq0-via-else-parties-eq0+then-parties w ↦
          opened_refused width most ks n _ _ lent c.blank-closed.ensures
          (many_refused width most ks n _ _ lent w.if-parties.true) (omega arith)
    ]

pub returns-then-over : goal.returns-then-over
returns-then-over c =
    let a = c.args in let ks = every_kind most a.kind in let n = a.parties in let lent = length a.items.now in
    opened_refused width most ks n _ _ lent c.blank-closed.ensures
    (over_refused width most ks n a.requests _ lent (omega (arith, c.if-parties-eq0.false)) c.if-parties.false
    (over_is width n a.requests (search rules) ∙ sym c.over.ensures ∙ c.if-over.true)) (omega arith)

pub fill-filled-requires-clause-small : goal.fill-filled-requires-clause-small
fill-filled-requires-clause-small c =
    over_is width c.args.parties c.args.requests (search rules) ∙ sym c.over.ensures ∙ c.if-over.false

pub returns-then-items-filled : goal.returns-then-items-filled
returns-then-items-filled c =
    let a = c.args in let ks = every_kind most a.kind in let n = a.parties in let lent = length a.items.now in let f = c.fill-filled in
    opened_refused width most ks n _ _ lent c.blank-closed.ensures
    (sum_refused width most ks n a.requests _ lent (omega (arith, c.if-parties-eq0.false)) c.if-parties.false
    (over_is width n a.requests (search rules) ∙ sym c.over.ensures ∙ c.if-over.false)
    (omega (arith, f.ensures.total_is, c.if-items-filled.true))) (omega arith)

pub returns : goal.returns
returns c =
    let a = c.args in let ks = every_kind most a.kind in let n = a.parties in let lent = length a.items.now in let f = c.fill-filled in
    opened_taken width most ks n _ _ lent f.ensures.machine_is
    (none_refusal width most ks n a.requests _ lent (omega (arith, c.if-parties-eq0.false)) c.if-parties.false
    (over_is width n a.requests (search rules) ∙ sym c.over.ensures ∙ c.if-over.false)
    (omega (arith, f.ensures.total_is, c.if-items-filled.false)))
