use Rattle.std.proofs.Common.{refl}
use Rattle.tables.specs.Step.{closed_queues, idle_parties, every_kind}
use Rattle.machine.proofs.open.blank.Goals as goal

pub returns : goal.returns
unfolding closed_queues idle_parties every_kind
returns c = refl
