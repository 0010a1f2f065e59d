-- What was opened has no more parties than there is room for, so it can be stored, and what is stored is read back.
use Rattle.std.proofs.Common.{ℕ, ◌≤◌, length, inl, inr, sym, ap, subst, rules}
use Rattle.words.specs.Edition.{width}
use Rattle.tables.specs.declared.state.Opened.{Opened}
use Rattle.tables.specs.Machine.{most}
use Rattle.tables.specs.Step.{every_kind}
use Rattle.block.proofs.Opens.{opening_few, open_untouched, open_done}
use Rattle.block.proofs.open.open.Goals as goal
use Rattle.block.proofs.open.open.Goals.{then-block-lt-SIZE-via-then-block-lt-SIZE, then-block-lt-SIZE-via-else-block-lt-SIZE+then-kind-gt1}

pub returns-then-block-lt-SIZE-clause-block_is : goal.returns-then-block-lt-SIZE-clause-block_is
returns-then-block-lt-SIZE-clause-block_is c =
    let a = c.args in
    open_untouched width most a.block.now a.kind a.parties a.requests.now a.positions.now (length a.items.now)
    (elim c.then-block-lt-SIZE.branch [
      | then-block-lt-SIZE-via-then-block-lt-SIZE w ↦ inl w.if-block-lt-SIZE.true
      | then-block-lt-SIZE-via-else-block-lt-SIZE+then-kind-gt1 w ↦ inr w.if-kind-gt1.true
    ])

pub store-requires : goal.store-requires
store-requires c =
    subst (λ (n : ℕ). n ≤ most) (sym (ap (λ (o : Opened). o.machine.parties) c.open-o.ensures))
    (opening_few width most (every_kind most c.kind_of.result) c.asked-n.result c.first_of.result c.first_of-2.result
    (length c.args.items.now))

pub returns-clause-block_is : goal.returns-clause-block_is
returns-clause-block_is c =
    let a = c.args in
    open_done width most a.block.now a.kind a.parties a.requests.now a.positions.now (length a.items.now) c.if-block-lt-SIZE.false
    c.if-kind-gt1.false c.kind_of.ensures c.asked-n.ensures c.first_of.ensures c.first_of-2.ensures c.open-o.ensures
    (search rules) (search rules)
