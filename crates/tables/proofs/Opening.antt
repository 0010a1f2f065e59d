-- What opening gives: each queue opened as it was asked, every party idle.
use Prim.Native.Nat.{ℕ, zero, suc, ◌-◌, ◌^◌, ◌≤◌, ◌<◌}
use mathlib.Core.Path.{◌≡◌, refl, ap, ◌∙◌}
use mathlib.Core.Bool.{true, false}
use mathlib.Core.List.{List, [], ◌∷◌}
use mathlib.Core.Logic.{⊎_elim}
use native.Mathlib.Omega.{arith}
use native.Mathlib.Nat.{eq-or-lt_of_le, le_of_suc-le-suc}
use borrow.Author.Tests.{ltb-false}
use lib.Dec.{ltb}
use lib.ListN.{length, get_or, length-set}
use lib.Seq.{get_or-set_same, get_or-set_other}
use Rattle.words.specs.Word.{pow_below, capacity_of}
use Rattle.words.proofs.Doubling.{capacity_power}
use Rattle.tables.specs.declared.state.Kind.{Kind}
use Rattle.tables.specs.declared.state.Machine.{Machine}
use Rattle.tables.specs.declared.state.Queue.{Queue}
use Rattle.tables.specs.Machine.{idle_party, zero_queue, queue_at}
use Rattle.tables.specs.Step.{open_queue, open_to, over_to, closed_queues, idle_parties, tables, open_queues}
use Rattle.tables.proofs.Bools.{neither}
use Rattle.tables.proofs.Refused.{CanOpen}

pub closed_length : (n : ℕ) (ks : List Kind) → length (closed_queues n ks) ≡ n
unfolding closed_queues
closed_length zero ks = refl
closed_length (suc n) [] = ap suc (closed_length n [])
closed_length (suc n) (k ∷ ks) = ap suc (closed_length n ks)

pub closed_at : (n : ℕ) (ks : List Kind) (q : ℕ) → q < n → get_or (closed_queues n ks) q (zero_queue Kind.Lifo) ≡ zero_queue (get_or ks q Kind.Lifo)
unfolding closed_queues
closed_at zero ks q h = absurd (omega arith)
closed_at (suc n) [] zero h = refl
closed_at (suc n) [] (suc q) h = closed_at n [] q (omega arith)
closed_at (suc n) (k ∷ ks) zero h = refl
closed_at (suc n) (k ∷ ks) (suc q) h = closed_at n ks q (omega arith)

pub idle_at : (n p : ℕ) → get_or (idle_parties n) p idle_party ≡ idle_party
unfolding idle_parties
idle_at zero p = refl
idle_at (suc n) zero = refl
idle_at (suc n) (suc p) = idle_at n p

pub idle_length : (n : ℕ) → length (idle_parties n) ≡ n
unfolding idle_parties
idle_length zero = refl
idle_length (suc n) = ap suc (idle_length n)

pub open_capacity : (w : ℕ) (k : Kind) (r p : ℕ) → (open_queue w k r p).capacity ≡ capacity_of w r
open_capacity w Kind.Lifo r p = refl
open_capacity w Kind.Fifo r p = refl

pub open_kind : (w : ℕ) (k : Kind) (r p : ℕ) → (open_queue w k r p).kind ≡ k
open_kind w Kind.Lifo r p = refl
open_kind w Kind.Fifo r p = refl

module _ (w : ℕ) (ks : List Kind) (rs ps : List ℕ) where
  pub open_length : (n : ℕ) (l : List Queue) → length (open_to w ks rs ps n l) ≡ length l
  unfolding open_to
  open_length zero l = refl
  open_length (suc n) l = length-set (open_to w ks rs ps n l) n _ ∙ open_length n l

  pub open_at : (n : ℕ) (l : List Queue) (q : ℕ) → q < n → n ≤ length l
      → get_or (open_to w ks rs ps n l) q (zero_queue Kind.Lifo) ≡ open_queue w (get_or ks q Kind.Lifo) (get_or rs q 0) (get_or ps q 0)
  unfolding open_to
  open_at zero l q h k = absurd (omega arith)
  open_at (suc n) l q h k =
      ⊎_elim
      (λ e. rw e
      (get_or-set_same (open_to w ks rs ps n l) n (open_queue w (get_or ks n Kind.Lifo) (get_or rs n 0) (get_or ps n 0)) (zero_queue Kind.Lifo)
      (rw (open_length n l) k)))
      (λ i. get_or-set_other (open_to w ks rs ps n l) n q _ (zero_queue Kind.Lifo) (omega arith) ∙ open_at n l q i (omega arith))
      (eq-or-lt_of_le (le_of_suc-le-suc h))

  -- those past the parties stay closed
  pub open_past : (n : ℕ) (l : List Queue) (q : ℕ) → n ≤ q → get_or (open_to w ks rs ps n l) q (zero_queue Kind.Lifo) ≡ get_or l q (zero_queue Kind.Lifo)
  unfolding open_to
  open_past zero l q h = refl
  open_past (suc n) l q h = get_or-set_other (open_to w ks rs ps n l) n q _ (zero_queue Kind.Lifo) (omega arith) ∙ open_past n l q (omega arith)

  pub requests_small : (n : ℕ) → over_to w rs n ≡ false → (q : ℕ) → q < n → get_or rs q 0 ≤ 2 ^ (w - 1)
  unfolding over_to
  requests_small zero e q h = absurd (omega arith)
  requests_small (suc n) e q h =
      let b = neither (over_to w rs n) (ltb (2 ^ (w - 1)) (get_or rs n 0)) e in
      ⊎_elim (λ i. rw i (ltb-false _ _ b.1)) (λ i. requests_small n b.0 q i) (eq-or-lt_of_le (le_of_suc-le-suc h))

module _ (w most : ℕ) (ks : List Kind) (n : ℕ) (rs ps : List ℕ) (lent : ℕ) (c : CanOpen w most ks n rs ps lent) where
  abbrev machine : Machine
  machine = tables most n (open_queues w most ks n rs ps)

  pub opened_queue : (q : ℕ) → q < n → queue_at machine q ≡ open_queue w (get_or ks q Kind.Lifo) (get_or rs q 0) (get_or ps q 0)
  opened_queue q h = open_at w ks rs ps n (closed_queues most ks) q h (rw (closed_length most ks) c.few)

  pub opened_power : 0 < w → (q : ℕ) → q < n → pow_below w (queue_at machine q).capacity ≡ true
  opened_power p q h =
      rw (opened_queue q h, open_capacity w (get_or ks q Kind.Lifo) (get_or rs q 0) (get_or ps q 0))
      (capacity_power w (requests_small w ks rs ps n c.requests q h) p)
