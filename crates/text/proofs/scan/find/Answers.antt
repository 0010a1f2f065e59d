use Rattle.std.proofs.Common.{rules}
use Rattle.text.proofs.Finding.{first_at, first_nowhere}
use Rattle.text.proofs.scan.find.Goals as goal

pub returns-in-Some-clause-index : goal.returns-in-Some-clause-index
returns-in-Some-clause-index c =
    first_at _ _ _ _ c.requires.ordered c.requires.within c.in-Some.before (search rules) (search rules) (search rules)

pub returns-in-None-clause-index : goal.returns-in-None-clause-index
returns-in-None-clause-index c = first_nowhere _ _ _ _ c.requires.ordered c.requires.within (search rules)
