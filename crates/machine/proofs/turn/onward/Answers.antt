-- A plain step drops one at most, so that its count, joined to the last one's, still fits.
use Rattle.words.specs.Edition.{width}
use Rattle.tables.specs.declared.call.Mark.TheVariants as Mark
use Rattle.machine.proofs.Noting.{count_fits}
use Rattle.machine.proofs.Running.{step_drops}
use Rattle.machine.proofs.turn.onward.Goals as goal

pub note-effects-requires : goal.note-effects-requires
note-effects-requires c =
    count_fits c.args.t.reply.effects c.taken-o.result.effect c.requires.roomy
    (step_drops width c.args.at c.args.t.desk c.args.items.now Mark.Plain c.taken-o.ensures)
