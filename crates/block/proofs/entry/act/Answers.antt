-- Words that are no block read as a machine without parties, which every act refuses with 1. Of a block the act is the record's;
-- refused, nothing was put back.
use Rattle.std.proofs.Common.{rules}
use Rattle.words.specs.Edition.{width}
use Rattle.tables.specs.Machine.{most}
use Rattle.block.proofs.Acting.{act_none, act_refused, act_taken}
use Rattle.block.proofs.entry.act.Goals as goal

pub returns-in_default-clause-outcome : goal.returns-in_default-clause-outcome
returns-in_default-clause-outcome c = let a = c.args in act_none width most a.block.now (search rules) a.items.now a.who a.act

pub returns-in_err-turn-clause-outcome : goal.returns-in_err-turn-clause-outcome
returns-in_err-turn-clause-outcome c =
    let a = c.args in
    act_refused width most c.in-Some.ensures.same a.items.now a.who a.act c.in_err-turn.field-0.0 c.in_err-turn.ensures.acted (search rules)

pub returns-clause-outcome : goal.returns-clause-outcome
returns-clause-outcome c =
    let a = c.args in
    act_taken width most c.in-Some.ensures.same a.items.now a.who a.act c.in_ok-turn.turn c.in_ok-turn.ensures.acted (search rules)
