-- Laws of a table read entry by entry: an entry, and a table with one entry changed.
use Prim.Native.Nat.{ℕ, zero, suc, ◌+◌, ◌≤◌, ◌<◌}
use mathlib.Core.Path.{◌≡◌, refl, ap, ap₂, ◌∙◌}
use mathlib.Core.List.{List, ◌∷◌}
use native.Mathlib.Omega.{arith}
use lib.ListN.{length, get_or, set}
use Rattle.block.specs.Block.{table}

module _ {A : Type 0} where
  pub table_length : (f : ℕ → A) (i n : ℕ) → length (table f i n) ≡ n
  unfolding table
  table_length f i zero = refl
  table_length f i (suc n) = ap suc (table_length f (suc i) n)

  pub table_at : (f : ℕ → A) (i n j : ℕ) (d : A) → j < n → get_or (table f i n) j d ≡ f (i + j)
  unfolding table
  table_at f i zero j d h = absurd (omega arith)
  table_at f i (suc n) zero d h = let e : i ≡ i + 0 = omega arith in ap f e
  table_at f i (suc n) (suc j) d h = let e : suc i + j ≡ i + suc j = omega arith in table_at f (suc i) n j d (omega arith) ∙ ap f e

  pub table_same : (f g : ℕ → A) (i n : ℕ) → ((j : ℕ) → i ≤ j → j < i + n → g j ≡ f j) → table g i n ≡ table f i n
  unfolding table
  table_same f g i zero e = refl
  table_same f g i (suc n) e =
      ap₂ (λ (x : A) (l : List A). x ∷ l) (e i (omega arith) (omega arith)) (table_same f g (suc i) n (λ j h k. e j (omega arith) (omega arith)))

  -- all entries as they were, but entry i + j
  pub table_set : (f g : ℕ → A) (v : A) (i n j : ℕ) → j < n → g (i + j) ≡ v → ((q : ℕ) → q < i + n → (q ≡ i + j → ⊥) → g q ≡ f q)
      → table g i n ≡ set (table f i n) j v
  unfolding table
  table_set f g v i zero j h here other = absurd (omega arith)
  table_set f g v i (suc n) zero h here other =
      let e : i ≡ i + 0 = omega arith in
      ap₂ (λ (x : A) (l : List A). x ∷ l) (ap g e ∙ here) (table_same f g (suc i) n (λ q a b. other q (omega arith) (λ k. omega arith)))
  table_set f g v i (suc n) (suc j) h here other =
      let e : suc i + j ≡ i + suc j = omega arith in
      ap₂ (λ (x : A) (l : List A). x ∷ l) (other i (omega arith) (λ k. omega arith))
      (table_set f g v (suc i) n j (omega arith) (ap g e ∙ here) (λ q a n. other q (omega arith) (λ k. n (omega arith))))

  -- the same from entry 0 on
  pub entry : (f : ℕ → A) (n j : ℕ) (d : A) → j < n → get_or (table f 0 n) j d ≡ f j
  entry f n j d h = let e : 0 + j ≡ j = omega arith in table_at f 0 n j d h ∙ ap f e

  pub one_changed : (f g : ℕ → A) (v : A) (n j : ℕ) → j < n → g j ≡ v → ((q : ℕ) → (q ≡ j → ⊥) → g q ≡ f q) → table g 0 n ≡ set (table f 0 n) j v
  one_changed f g v n j h here other =
      let e : 0 + j ≡ j = omega arith in
      table_set f g v 0 n j h (ap g e ∙ here) (λ q a ne. other q (λ k. ne (omega arith)))
