use Rattle.std.proofs.Common.{refl, sym, ap₂, ◌∙◌, ◌+◌, ℕ, arith}
use Rattle.tables.specs.declared.state.Queue.{Queue}
use Rattle.tables.specs.Machine.{base_of}
use Rattle.tables.proofs.Bases.{base_more}
use Rattle.machine.proofs.rest.base_of.Goals as goal

pub loop-i-init : goal.loop-i-init
unfolding base_of
loop-i-init g c = record { small = omega arith; sum_is = refl }

pub loop-i-preserved : goal.loop-i-preserved
loop-i-preserved g c = let v = c.loop-i in record {
  small = omega (arith, v.invariant.small);
  sum_is =
      ap₂ (λ (n : ℕ) (q : Queue). n + q.capacity) v.invariant.sum_is c.queue.ensures.queue_is
      ∙ sym (base_more v.i (g.R.Record.machine c.args.held.now).queue);
}
