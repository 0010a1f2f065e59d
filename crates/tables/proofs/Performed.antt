-- One access keeps its queue's kind and capacity, and the number of its slots.
use Prim.Native.Nat.{ℕ}
use mathlib.Core.Path.{◌≡◌, refl}
use mathlib.Core.Bool.{Bool}
use mathlib.Core.List.{List}
use lib.Dec.{eqb}
use lib.ListN.{length, length-set}
use Rattle.words.specs.Word.{slot_of}
use Rattle.tables.specs.declared.access.Access.{Access}
use Rattle.tables.specs.declared.state.Queue.{Queue}
use Rattle.tables.specs.Access.{Accessed, swaps, perform}
use Rattle.tables.proofs.Bools.{pick_if}

pub record Kept (q : Queue) (slots : List ℕ) (a : Accessed) : Type 0 where
  pub kind : a.queue.kind ≡ q.kind
  pub capacity : a.queue.capacity ≡ q.capacity
  pub length_is : length a.slots ≡ length slots

pub perform_keeps : (q : Queue) (slots : List ℕ) (a : Access) (weak : Bool) → Kept q slots (perform q slots a weak)
perform_keeps q slots Access.Touch weak = record { kind = refl; capacity = refl; length_is = refl }
perform_keeps q slots Access.LoadPushes weak = record { kind = refl; capacity = refl; length_is = refl }
perform_keeps q slots Access.LoadPacked weak = record { kind = refl; capacity = refl; length_is = refl }
perform_keeps q slots Access.LoadCompleted weak = record { kind = refl; capacity = refl; length_is = refl }
perform_keeps q slots (Access.StorePushes x) weak = record { kind = refl; capacity = refl; length_is = refl }
perform_keeps q slots (Access.StoreCompleted x) weak = record { kind = refl; capacity = refl; length_is = refl }
perform_keeps q slots (Access.Cas old new) weak =
    pick_if (Kept q slots) (swaps weak (eqb q.packed old)) (λ h. record { kind = refl; capacity = refl; length_is = refl })
    (λ h. record { kind = refl; capacity = refl; length_is = refl })
perform_keeps q slots (Access.Read at) weak = record { kind = refl; capacity = refl; length_is = refl }
perform_keeps q slots (Access.Write at t) weak = record { kind = refl; capacity = refl; length_is = length-set slots (slot_of q.capacity at.0) t }
