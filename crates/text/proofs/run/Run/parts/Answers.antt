use Rattle.std.proofs.Common.{sym, ◌∙◌, arith, leb-true}
use Rattle.text.specs.Write.{room_of}
use Rattle.text.proofs.Parting.{parts_then}
use Rattle.text.proofs.run.Run.parts.Goals as goal

pub loop-at-preserved : goal.loop-at-preserved
loop-at-preserved c =
    parts_then c.loop-at.invariant (leb-true 128 (room_of c.loop-at.out) (sym c.has_room.ensures ∙ c.if-has_room.true))
    (omega (arith, c.queues-queues.ensures.number_is)) c.resting_of-resting.result c.resting_of-resting.ensures
    _ c.put_part.ensures _ c.after-at.ensures
