-- Line after line is what the definition does byte by byte.
use Rattle.std.proofs.Common.{◌∙◌}
use Rattle.text.proofs.Feedings.{gets_then}
use Rattle.text.proofs.run.Run.take.Goals as goal

pub loop-used-preserved : goal.loop-used-preserved
loop-used-preserved c =
    let o = c.one_line-used.ensures in let t = c.many_lines-used.ensures in let v = c.loop-used.invariant in
    record {
      gets = gets_then (gets_then v.gets o.gets) t.gets;
      cursor_is = t.cursor_is ∙ o.cursor_is ∙ v.cursor_is;
    }
