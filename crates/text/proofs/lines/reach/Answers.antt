-- The stretch that the code lends has the capacity's length, so that the access is the definition's.
use Rattle.std.proofs.Common.{ℕ, Bool, ap, ◌∙◌, ap₂}
use borrow.Rule.Slice.PartMut.{put_mid}
use Rattle.tables.specs.Access.{perform}
use Rattle.tables.specs.Machine.{stretch}
use Rattle.machine.proofs.Turns.{size_is}
use Rattle.text.proofs.lines.reach.Goals as goal

pub returns : goal.returns
returns c =
    let p = c.perform in let a = c.args in let n = size_is a.base a.queue.capacity in
    record {
      slots = p.new.items;
      done =
          p.ensures
          ∙ ap₂ (λ (n : ℕ) (b : Bool). perform a.queue (stretch a.base n a.items.now) a.access b) n c.is_weak.ensures;
      items = ap (λ (n : ℕ). put_mid a.base n a.items.now p.new.items) n;
    }
