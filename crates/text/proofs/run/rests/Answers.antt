-- Where the line at hand had room the parts follow it, and otherwise nothing does.
use Rattle.std.proofs.Common.{ℕ, leb, sym, ap, ◌∙◌, rules}
use Rattle.text.proofs.Feedings.{wrote_whole}
use Rattle.text.proofs.Parting.{rests_held, rests_parts}
use Rattle.text.proofs.run.rests.Goals as goal

pub returns-then-not-is_none : goal.returns-then-not-is_none
returns-then-not-is_none c =
    let n = c.new-out.ensures in let e = c.last_line.ensures in
    let w = rests_held _ _ _ _ _ e.flow_is e.puts (sym c.is_none.ensures ∙ c.if-not-is_none.true) in
    let same = sym n.same ∙ sym e.puts.same in
    let p = wrote_whole w.puts n.bytes_are n.put_is (search (rules, same)) in
    rw (← n.room_is) (record { flow_is = w.flow_is; cursor_is = e.cursor_is ∙ w.cursor_is; wrote = p.0; room = p.1; done_is = w.done_is })

pub returns : goal.returns
returns c =
    let n = c.new-out.ensures in let e = c.last_line.ensures in let p = c.parts-run.ensures in
    let w = rests_parts _ _ _ _ _ e.flow_is e.puts (sym c.is_none.ensures ∙ c.if-not-is_none.false) _ _ e.cursor_is _ p.gets_parts p.over in
    let same = sym n.same ∙ sym e.puts.same ∙ sym p.gets_parts.puts.same in
    let b = wrote_whole w.puts n.bytes_are n.put_is (search (rules, same)) in
    rw (← n.room_is)
    (record {
      flow_is = w.flow_is;
      cursor_is = w.cursor_is;
      wrote = b.0;
      room = b.1;
      done_is = ap (λ (q : ℕ). leb q c.parts-run.result.queue) c.queues.ensures.number_is ∙ w.done_is;
    })
