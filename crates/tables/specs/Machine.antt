-- Document 01, "Machine, parties and words".
use Rattle.std.specs.Prelude.{ℕ, zero, suc, ◌+◌, List, ◌++◌, get_or, take, drop}
use Rattle.tables.specs.declared.state.Kind.{Kind}
use Rattle.tables.specs.declared.state.Machine.{Machine}
use Rattle.tables.specs.declared.state.Party.{Party}
use Rattle.tables.specs.declared.state.Queue.{Queue}
use Rattle.tables.specs.declared.place.Place.{Place}

-- the party limit
abbrev pub most : ℕ
most = 16

abbrev pub idle_party : Party
idle_party = record { place = Place.Idle; drain = record { at = 0; end = 0 } }

abbrev pub zero_queue : Kind → Queue
zero_queue k = record { kind = k; capacity = 0; pushes = 0; packed = 0; completed = 0 }

abbrev pub party_at : Machine → ℕ → Party
party_at m p = get_or m.party p idle_party

abbrev pub queue_at : Machine → ℕ → Queue
queue_at m q = get_or m.queue q (zero_queue Kind.Lifo)

-- Items: queue 0 first, then queue 1, with no gaps. The first n capacities together: where queue n's stretch starts.
unfoldable pub base_of : ℕ → List Queue → ℕ
base_of zero l = 0
base_of (suc n) l = base_of n l + (get_or l n (zero_queue Kind.Lifo)).capacity

-- a stretch of the lent items, and the items with another in its place
abbrev pub stretch : ℕ → ℕ → List ℕ → List ℕ
stretch base size xs = take size (drop base xs)

abbrev pub restretched : ℕ → ℕ → List ℕ → List ℕ → List ℕ
restretched base size slots xs = take base xs ++ (slots ++ drop (base + size) xs)
