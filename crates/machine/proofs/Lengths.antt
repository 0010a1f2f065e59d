-- What whoever has a machine knows of it: its tables have as many places as their type says.
use mathlib.Core.Path.{◌≡◌}
use mathlib.Core.List.{[], ◌∷◌}
use lib.ListN.{length}
use denote.Laws.{Is}
use denote.Struct.Laws as LL
use Rattle.tables.specs.declared.state.Machine.{Machine}
use Rattle.tables.specs.Machine.{most}
use Rattle.tables.specs.contracts.state.Machine as T
use Rattle.tables.proofs.state.Machine.TheLaws as T'

module _ (m : Machine) (is : Is T.the_row m (LL.val T.the_type T'.the_laws m ∷ [])) where
  pub parties_many : length m.party ≡ most
  parties_many = (LL.owed T.the_type T'.the_laws m _ is).1.0.1.0.1

  pub queues_many : length m.queue ≡ most
  queues_many = (LL.owed T.the_type T'.the_laws m _ is).1.1.0.1.0.1
