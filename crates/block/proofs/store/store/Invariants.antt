-- After i turns the head, the first i parties and the first i queues are read as the machine's, and the words past the end are as
-- they came.
use Rattle.std.proofs.Common.{◌≡◌}
use Rattle.block.proofs.Storing.{Stored}
use Rattle.block.proofs.store.store.Given as goal

abbrev pub invariant-loop-i : goal.invariant-loop-i
invariant-loop-i l = record {
  same : l.to.words.ghost_name ≡ l.initial.to.words.ghost_name;
  stored : Stored l.m l.initial.to.words.now l.i l.to.words.now;
}
