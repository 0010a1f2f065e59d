-- A desk that is ready has its stretch inside the items, so the access is made there, and what was seen goes on by the same row.
use Rattle.std.proofs.Common.{◌+◌, ◌-◌, arith}
use Rattle.words.specs.Edition.{width}
use Rattle.tables.specs.Access.{shows}
use Rattle.machine.proofs.Turns.{within_of, one_is, size_is}
use Rattle.machine.proofs.turn.Seat.taken.Goals as goal

pub overflow_add-end : goal.overflow_add-end
overflow_add-end c =
    let v = within_of width c.args.mark c.requires.ready c.requires.reached in
    record { fits = omega (arith, v.fits) }

pub offset_bounds-items-r : goal.offset_bounds-items-r
offset_bounds-items-r c =
    let v = within_of width c.args.mark c.requires.ready c.requires.reached in
    record { fits = omega (arith, v.fits) }

pub slice_bounds-slots-end : goal.slice_bounds-slots-end
slice_bounds-slots-end c = let v = within_of width c.args.mark c.requires.ready c.requires.reached in omega (arith, v.fits)

pub perform-done-requires-clause-pow : goal.perform-done-requires-clause-pow
perform-done-requires-clause-pow c =
    let v = within_of width c.args.mark c.requires.ready c.requires.reached in v.power

pub returns : goal.returns
returns c =
    let r = c.args.r in let p = c.perform-done in
    one_is width c.args.self.at c.args.self.desk c.args.items.now c.args.mark r (r.base + r.queue.capacity - r.base)
    (shows p.result.queue p.new.items p.result.seen) c.requires.reached (size_is r.base r.queue.capacity)
    (rw c.is_weak.ensures at p.ensures) (c.went.ensures p.new.items)
