-- Laws of the bases: where each queue's stretch starts in the lent items, and that the stretches do not overlap.
use Prim.Native.Nat.{ℕ, zero, suc, ◌+◌, ◌-◌, ◌≤◌, ◌<◌}
use mathlib.Core.Path.{◌≡◌, refl, sym, ap, ap₂, ◌∙◌}
use mathlib.Core.List.{List, ◌++◌, append_assoc}
use mathlib.Core.Logic.{◌⊎◌, inl, inr, ⊎_elim}
use native.Mathlib.Omega.{arith}
use native.Mathlib.Numerals.{add-one}
use lib.ListN.{length, get_or, take, drop, set, take-append-drop, length-append, length-take, length-drop}
use lib.Seq.{length-take-le, take_at, drop_at, take-append-le, drop-append-le, drop-append-add, drop-drop, take-set-le, take-set-lt, drop-set-lt, drop-set-add}
use Rattle.tables.specs.declared.state.Kind.TheVariants as Kind
use Rattle.tables.specs.declared.state.Queue.{Queue}
use Rattle.tables.specs.Machine.{zero_queue, base_of, stretch, restretched}
use Rattle.tables.proofs.Bools.{set_keeps, less_or_not}

-- the capacity of queue q
abbrev pub capacity_at : List Queue → ℕ → ℕ
capacity_at l q = (get_or l q (zero_queue Kind.Lifo)).capacity

pub base_next : (q : ℕ) (l : List Queue) → base_of (suc q) l ≡ base_of q l + capacity_at l q
unfolding base_of
base_next q l = refl

pub base_more : (q : ℕ) (l : List Queue) → base_of (q + 1) l ≡ base_of q l + capacity_at l q
base_more q l = rw add-one (base_next q l)

pub base_grows : (l : List Queue) (q k : ℕ) → base_of q l ≤ base_of (k + q) l
base_grows l q zero = rw zero_is (omega arith)
  where
    zero_is : zero + q ≡ q
    zero_is = omega arith
base_grows l q (suc k) =
    let e : suc k + q ≡ suc (k + q) = omega arith in rw e (omega (arith, base_next (k + q) l, base_grows l q k))

pub base_mono : (l : List Queue) {q n : ℕ} → q ≤ n → base_of q l ≤ base_of n l
base_mono l {q} {n} h = let e : n - q + q ≡ n = omega arith in rw e at (base_grows l q (n - q))

pub base_within : (l : List Queue) {q n : ℕ} → q < n → base_of q l + capacity_at l q ≤ base_of n l
base_within l {q} h = rw base_next at (base_mono l {q = suc q} h)

-- two queues' stretches are apart
pub base_apart : (l : List Queue) (q r : ℕ) → (q ≡ r → ⊥)
    → (base_of q l + capacity_at l q ≤ base_of r l) ⊎ (base_of r l + capacity_at l r ≤ base_of q l)
base_apart l q r ne = ⊎_elim (λ h. inl (base_within l h)) (λ h. inr (base_within l (below h))) (less_or_not q r)
  where
    below : r ≤ q → r < q
    below h = omega (arith, ne)

pub base_same : (n : ℕ) (l k : List Queue) → ((q : ℕ) → capacity_at l q ≡ capacity_at k q) → base_of n l ≡ base_of n k
unfolding base_of
base_same zero l k e = refl
base_same (suc n) l k e = ap₂ (λ (a b : ℕ). a + b) (base_same n l k e) (e n)

-- a queue replaced by one of its capacity
pub base_set : (n : ℕ) (l : List Queue) (i : ℕ) (x : Queue) → x.capacity ≡ capacity_at l i → base_of n (set l i x) ≡ base_of n l
base_set n l i x e = base_same n (set l i x) l (λ q. set_keeps (λ (y : Queue). y.capacity) l i q x (zero_queue Kind.Lifo) e)

-- ---- stretches

module _ (base size : ℕ) (xs : List ℕ) where
  pub stretch_length : base + size ≤ length xs → length (stretch base size xs) ≡ size
  stretch_length fits = simp (length-take, length-drop) (omega arith)

  -- put back as it was
  pub stretch_same : restretched base size (stretch base size xs) xs ≡ xs
  stretch_same =
      ap (λ (l : List ℕ). take base xs ++ (take size (drop base xs) ++ l)) (sym (drop-drop size base xs))
      ∙ ap (λ (l : List ℕ). take base xs ++ l) (take-append-drop size (drop base xs))
      ∙ take-append-drop base xs

  -- one slot written
  pub stretch_set : (i t : ℕ) → i < size → restretched base size (set (stretch base size xs) i t) xs ≡ set xs (base + i) t
  stretch_set i t h =
      ap₂ (λ (a b : List ℕ). a ++ b)
      (sym (take-set-le base xs (base + i) t (omega arith)))
      (ap₂ (λ (a b : List ℕ). a ++ b) (sym (take-set-lt size (drop base xs) i t h))
      (sym (drop-drop size base xs) ∙ sym (drop-set-lt size (drop base xs) i t h))
      ∙ take-append-drop size (set (drop base xs) i t)
      ∙ sym (drop-set-add base xs i t))
      ∙ take-append-drop base (set xs (base + i) t)

  module _ (slots : List ℕ) (fits : base + size ≤ length xs) (full : length slots ≡ size) where
    pub restretched_length : length (restretched base size slots xs) ≡ length xs
    restretched_length = simp (length-append, length-take, length-drop, full) (omega arith)

    pub stretch_back : stretch base size (restretched base size slots xs) ≡ slots
    stretch_back =
        ap (take size) (drop_at (take base xs) (slots ++ drop (base + size) xs) base (length-take-le base xs (omega arith)))
        ∙ take_at slots (drop (base + size) xs) size full

    before : (at n : ℕ) (p q : List ℕ) → at + n ≤ length p → stretch at n (p ++ q) ≡ stretch at n p
    before at n p q h = ap (take n) (drop-append-le at p q (omega arith)) ∙ take-append-le n (drop at p) q (rw length-drop (omega arith))

    pub stretch_before : (at n : ℕ) → at + n ≤ base → stretch at n (restretched base size slots xs) ≡ stretch at n xs
    stretch_before at n h =
        let l : at + n ≤ length (take base xs) = rw (length-take-le base xs (omega arith)) (omega arith) in
        before at n (take base xs) (slots ++ drop (base + size) xs) l
        ∙ sym (before at n (take base xs) (drop base xs) l)
        ∙ ap (λ (ys : List ℕ). stretch at n ys) (take-append-drop base xs)

    pub stretch_after : (at n : ℕ) → base + size ≤ at → stretch at n (restretched base size slots xs) ≡ stretch at n xs
    stretch_after at n h =
        let front : length (take base xs ++ slots) ≡ base + size = simp (length-append, length-take, full) (omega arith) in
        let e : at ≡ length (take base xs ++ slots) + (at - (base + size)) = omega arith in
        let f : base + size + (at - (base + size)) ≡ at = omega arith in
        ap (λ (l : List ℕ). take n (drop at l)) (sym (append_assoc (take base xs) slots (drop (base + size) xs)))
        ∙ ap (λ (k : ℕ). take n (drop k ((take base xs ++ slots) ++ drop (base + size) xs))) e
        ∙ ap (take n)
        (drop-append-add (take base xs ++ slots) (drop (base + size) xs) (at - (base + size))
        ∙ drop-drop (at - (base + size)) (base + size) xs)
        ∙ ap (λ (k : ℕ). take n (drop k xs)) f

-- the stretch of another queue is left as it is
pub stretch_other : (l : List Queue) (xs slots : List ℕ) (q r : ℕ) → (q ≡ r → ⊥) → base_of q l + capacity_at l q ≤ length xs
    → length slots ≡ capacity_at l q
    → stretch (base_of r l) (capacity_at l r) (restretched (base_of q l) (capacity_at l q) slots xs) ≡ stretch (base_of r l) (capacity_at l r) xs
stretch_other l xs slots q r ne fits full =
    ⊎_elim (λ h. stretch_after (base_of q l) (capacity_at l q) xs slots fits full (base_of r l) (capacity_at l r) h)
    (λ h. stretch_before (base_of q l) (capacity_at l q) xs slots fits full (base_of r l) (capacity_at l r) h) (base_apart l q r ne)
