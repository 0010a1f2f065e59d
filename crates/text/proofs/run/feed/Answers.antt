-- It ends where the definition ends.
use Rattle.std.proofs.Common.{ℕ, sym, refl, ap, ◌∙◌, rules}
use Rattle.words.specs.Edition.{width}
use Rattle.tables.specs.Machine.{most}
use Rattle.text.specs.Feeding.{flow_of, fed_in}
use Rattle.text.proofs.Feedings.{gets_whole, wrote_whole, fed_some}
use Rattle.text.proofs.run.feed.Goals as goal

pub returns-clause-feeds : goal.returns-clause-feeds
returns-clause-feeds c =
    let n = c.new-out.ensures in let t = c.take-used.ensures in let a = c.args in
    let room = ap (λ (k : ℕ). fed_in width most k (flow_of a.run a.items.now) a.piece.now) (sym n.room_is) in
    let w = gets_whole t.gets t.over _ room in
    let same = sym n.same ∙ sym t.gets.puts.same in
    let p = wrote_whole w.2 n.bytes_are n.put_is (search (rules, same)) in
    record { flow_is = w.0; cursor_is = t.cursor_is; used_is = w.1; wrote = p.0; room = p.1 }

pub returns-clause-onward : goal.returns-clause-onward
returns-clause-onward c =
    let t = c.take-used.ensures in let w = gets_whole t.gets t.over _ refl in
    λ h k. rw w.1 (fed_some _ _ _ _ _ (rw c.new-out.ensures.room_is h) k)
