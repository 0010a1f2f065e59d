-- A line that was found keeps what the loop keeps, by its kind and whether it was refused.
use Rattle.std.proofs.Common.{rules}
use Rattle.text.proofs.Looping.{goes_further, goes_other, goes_begin_refused, goes_begin_taken, site_in}
use Rattle.text.proofs.Looping.{goes_step_refused, goes_step_pending, goes_step_answered, site_ready}
use Rattle.text.proofs.lines.lines.Goals as goal

pub loop-starts-smaller-in-Ok : goal.loop-starts-smaller-in-Ok
loop-starts-smaller-in-Ok c =
    goes_further c.loop-starts.invariant c.has_room.ensures c.loop-starts-test.true c.in-Some.ensures

pub loop-starts-smaller-in-Err : goal.loop-starts-smaller-in-Err
loop-starts-smaller-in-Err c =
    goes_further c.loop-starts.invariant c.has_room.ensures c.loop-starts-test.true c.in-Some.ensures

pub loop-starts-smaller-in-Some-answer : goal.loop-starts-smaller-in-Some-answer
loop-starts-smaller-in-Some-answer c =
    goes_further c.loop-starts.invariant c.has_room.ensures c.loop-starts-test.true c.in-Some.ensures

pub loop-starts-smaller-in_default-answer : goal.loop-starts-smaller-in_default-answer
loop-starts-smaller-in_default-answer c =
    goes_further c.loop-starts.invariant c.has_room.ensures c.loop-starts-test.true c.in-Some.ensures

pub loop-starts-smaller-in-Err-look_up : goal.loop-starts-smaller-in-Err-look_up
loop-starts-smaller-in-Err-look_up c =
    goes_further c.loop-starts.invariant c.has_room.ensures c.loop-starts-test.true c.in-Some.ensures

pub loop-starts-smaller : goal.loop-starts-smaller
loop-starts-smaller c =
    goes_further c.loop-starts.invariant c.has_room.ensures c.loop-starts-test.true c.in-Some.ensures

pub loop-starts-preserved-in-Ok : goal.loop-starts-preserved-in-Ok
loop-starts-preserved-in-Ok c =
    goes_begin_taken c.loop-starts.invariant c.has_room.ensures c.loop-starts-test.true c.in-Some.ensures
    c.in-Begin.is c.index-x.ensures c.in-Ok.ensures c.begun.ensures

pub loop-starts-preserved-in-Err : goal.loop-starts-preserved-in-Err
loop-starts-preserved-in-Err c =
    goes_begin_refused c.loop-starts.invariant c.has_room.ensures c.loop-starts-test.true c.in-Some.ensures
    c.in-Begin.is c.index-x.ensures c.in-Err.ensures c.refused.ensures.puts

pub loop-starts-preserved-in-Err-look_up : goal.loop-starts-preserved-in-Err-look_up
loop-starts-preserved-in-Err-look_up c =
    goes_step_refused c.loop-starts.invariant c.has_room.ensures c.loop-starts-test.true c.in-Some.ensures
    c.in-Step.is c.index-x-in-Step.ensures c.source_of.ensures c.index-y.ensures c.context-context.ensures
    c.in-Err-look_up.ensures c.refused-in-Err-look_up.ensures.puts

pub reach-done-requires-clause-pow : goal.reach-done-requires-clause-pow
reach-done-requires-clause-pow c =
    (site_ready c.loop-starts.invariant c.has_room.ensures c.loop-starts-test.true c.in-Some.ensures
    c.in-Step.is c.index-x-in-Step.ensures c.source_of.ensures c.index-y.ensures c.context-context.ensures c.in-Ok-look_up.ensures).0

pub reach-done-requires-clause-within : goal.reach-done-requires-clause-within
reach-done-requires-clause-within c =
    (site_ready c.loop-starts.invariant c.has_room.ensures c.loop-starts-test.true c.in-Some.ensures
    c.in-Step.is c.index-x-in-Step.ensures c.source_of.ensures c.index-y.ensures c.context-context.ensures c.in-Ok-look_up.ensures).1

pub loop-starts-preserved-in_default-answer : goal.loop-starts-preserved-in_default-answer
loop-starts-preserved-in_default-answer c =
    goes_step_pending c.loop-starts.invariant c.has_room.ensures c.loop-starts-test.true c.in-Some.ensures
    c.in-Step.is c.index-x-in-Step.ensures c.source_of.ensures c.index-y.ensures c.context-context.ensures c.in-Ok-look_up.ensures
    c.reach-done.ensures c.advance-next.ensures c.moved.ensures c.in_default-answer.is

pub loop-starts-preserved-in-Some-answer : goal.loop-starts-preserved-in-Some-answer
loop-starts-preserved-in-Some-answer c =
    goes_step_answered c.loop-starts.invariant c.has_room.ensures c.loop-starts-test.true c.in-Some.ensures
    c.in-Step.is c.index-x-in-Step.ensures c.source_of.ensures c.index-y.ensures c.context-context.ensures c.in-Ok-look_up.ensures
    c.reach-done.ensures c.advance-next.ensures c.moved.ensures c.in-Some-answer.is
    c.answer.ensures.puts

pub loop-starts-preserved : goal.loop-starts-preserved
loop-starts-preserved c =
    goes_other c.loop-starts.invariant c.has_room.ensures c.loop-starts-test.true c.in-Some.ensures c.in-Machine.is c.refused-in-Machine.ensures.puts

pub bounds-m-site : goal.bounds-m-site
bounds-m-site c =
    search (
      rules,
      site_in c.loop-starts.invariant c.has_room.ensures c.loop-starts-test.true c.in-Some.ensures
          c.in-Step.is c.index-x-in-Step.ensures c.source_of.ensures c.index-y.ensures c.context-context.ensures c.in-Ok-look_up.ensures,
    )

pub bounds-starts-site : goal.bounds-starts-site
bounds-starts-site c =
    search (
      rules,
      site_in c.loop-starts.invariant c.has_room.ensures c.loop-starts-test.true c.in-Some.ensures
          c.in-Step.is c.index-x-in-Step.ensures c.source_of.ensures c.index-y.ensures c.context-context.ensures c.in-Ok-look_up.ensures,
    )

pub bounds-m-site-in-Ok-look_up : goal.bounds-m-site-in-Ok-look_up
bounds-m-site-in-Ok-look_up c =
    search (
      rules,
      site_in c.loop-starts.invariant c.has_room.ensures c.loop-starts-test.true c.in-Some.ensures
          c.in-Step.is c.index-x-in-Step.ensures c.source_of.ensures c.index-y.ensures c.context-context.ensures c.in-Ok-look_up.ensures,
    )

pub offset_bounds-m-site : goal.offset_bounds-m-site
offset_bounds-m-site c =
    search (
      rules,
      site_in c.loop-starts.invariant c.has_room.ensures c.loop-starts-test.true c.in-Some.ensures
          c.in-Step.is c.index-x-in-Step.ensures c.source_of.ensures c.index-y.ensures c.context-context.ensures c.in-Ok-look_up.ensures,
    )

pub offset_bounds-starts-site : goal.offset_bounds-starts-site
offset_bounds-starts-site c =
    search (
      rules,
      site_in c.loop-starts.invariant c.has_room.ensures c.loop-starts-test.true c.in-Some.ensures
          c.in-Step.is c.index-x-in-Step.ensures c.source_of.ensures c.index-y.ensures c.context-context.ensures c.in-Ok-look_up.ensures,
    )

pub offset_bounds-m-site-in-Ok-look_up : goal.offset_bounds-m-site-in-Ok-look_up
offset_bounds-m-site-in-Ok-look_up c =
    search (
      rules,
      site_in c.loop-starts.invariant c.has_room.ensures c.loop-starts-test.true c.in-Some.ensures
          c.in-Step.is c.index-x-in-Step.ensures c.source_of.ensures c.index-y.ensures c.context-context.ensures c.in-Ok-look_up.ensures,
    )
