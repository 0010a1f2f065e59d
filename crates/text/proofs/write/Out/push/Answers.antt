use Rattle.std.proofs.Common.{length, refl, ap, ◌∙◌}
use lib.Seq.{length-sets}
use Rattle.text.proofs.Writing.{put_in}
use Rattle.text.proofs.write.Out.push.Goals as goal

pub returns : goal.returns
returns c =
    let a = c.args in let l = a.self.now.bytes.now in let at = a.self.now.put in
    let bytes = put_in l at _ _ c.copy_from_slice.ensures.after c.requires in
    record { same = refl; wrote = record { bytes = bytes; after = refl }; long = ap length bytes ∙ length-sets l at a.text.now }
