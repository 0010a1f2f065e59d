use Rattle.std.proofs.Common.{arith}
use Rattle.text.proofs.Feedings.{kept_in}
use Rattle.text.proofs.run.Held.keep.Goals as goal

pub returns : goal.returns
returns c =
    let h = c.args.self.now in
    kept_in h.bytes h.count c.args.more.now _ (omega arith) c.min-from.ensures c.min.ensures c.copy_from_slice.ensures.after
