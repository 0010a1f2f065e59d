use Rattle.std.proofs.Common.{List, ◌++◌, drop, replicate, ap, ◌∙◌}
use Rattle.tables.specs.Machine.{most}
use Rattle.block.proofs.Opens.{first_filled}
use Rattle.block.proofs.open.first_of.Goals as goal

pub returns : goal.returns
returns g c =
    let a = c.args in
    ap (λ (l : List g.row.T.Denot). l ++ drop c.min-n.result (replicate most a.none)) c.copy_from_slice.ensures.after
    ∙ rw c.min-n.ensures (first_filled most a.given.now a.none)
