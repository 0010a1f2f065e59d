-- One memory access to one queue: its words, and the slots of its own stretch.
use Rattle.std.specs.Prelude.{ℕ, Bool, true, false, List, get_or, set, eqb}
use Rattle.words.specs.Word.{pick, slot_of}
use Rattle.tables.specs.declared.access.Access.{Access}
use Rattle.tables.specs.declared.access.Seen.{Seen}
use Rattle.tables.specs.declared.state.Queue.{Queue}

pub record Accessed : Type 0 where
  pub queue : Queue
  pub slots : List ℕ
  pub seen : Seen

abbrev pub nothing_seen : Seen
nothing_seen = record { word = 0; packed = 0; token = 0; stored = true }

abbrev pub saw_word : ℕ → Seen
saw_word x = record { word = x; packed = 0; token = 0; stored = true }

abbrev pub saw_packed : ℕ → Bool → Seen
saw_packed x ok = record { word = 0; packed = x; token = 0; stored = ok }

abbrev pub saw_token : ℕ → Seen
saw_token t = record { word = 0; packed = 0; token = t; stored = true }

abbrev pub shows : Queue → List ℕ → Seen → Accessed
shows q slots s = record { queue = q; slots = slots; seen = s }

abbrev pub with_pushes : Queue → ℕ → Queue
with_pushes q x = record { kind = q.kind; capacity = q.capacity; pushes = x; packed = q.packed; completed = q.completed }

abbrev pub with_packed : Queue → ℕ → Queue
with_packed q x = record { kind = q.kind; capacity = q.capacity; pushes = q.pushes; packed = x; completed = q.completed }

abbrev pub with_completed : Queue → ℕ → Queue
with_completed q x = record { kind = q.kind; capacity = q.capacity; pushes = q.pushes; packed = q.packed; completed = x }

-- CAS compares and stores in one step. Marked weak it fails anyway; a failure hands back the word as it is.
abbrev pub swaps : Bool → Bool → Bool
swaps true same = false
swaps false same = same

abbrev pub perform : Queue → List ℕ → Access → Bool → Accessed
perform q xs Access.Touch weak = shows q xs nothing_seen
perform q xs Access.LoadPushes weak = shows q xs (saw_word q.pushes)
perform q xs Access.LoadPacked weak = shows q xs (saw_packed q.packed true)
perform q xs Access.LoadCompleted weak = shows q xs (saw_word q.completed)
perform q xs (Access.StorePushes x) weak = shows (with_pushes q x) xs nothing_seen
perform q xs (Access.StoreCompleted x) weak = shows (with_completed q x) xs nothing_seen
perform q xs (Access.Cas old new) weak =
    pick (swaps weak (eqb q.packed old)) (shows (with_packed q new) xs (saw_packed q.packed true))
    (shows q xs (saw_packed q.packed false))
perform q xs (Access.Read at) weak = shows q xs (saw_token (get_or xs (slot_of q.capacity at.0) 0))
perform q xs (Access.Write at t) weak = shows q (set xs (slot_of q.capacity at.0) t) nothing_seen

abbrev pub is_cas : Access → Bool
is_cas Access.Touch = false
is_cas Access.LoadPushes = false
is_cas Access.LoadPacked = false
is_cas Access.LoadCompleted = false
is_cas (Access.StorePushes x) = false
is_cas (Access.StoreCompleted x) = false
is_cas (Access.Cas old new) = true
is_cas (Access.Read at) = false
is_cas (Access.Write at t) = false
