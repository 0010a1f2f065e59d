-- The line that ends at the next newline.
use Rattle.std.proofs.Common.{◌≡◌, ◌≢◌, ℕ, zero, suc, ◌+◌, ◌-◌, ◌≤◌, List, [], ◌∷◌, length, take, drop, refl, ap, get_or, length-take-le, eq-eqb, ne_eqb, ◌<◌, ◌∙◌, arith, length-drop, le-ltb, lt-ltb}
use Rattle.std.proofs.lemmas.List.{drop-take}
use lib.Seq.{take-length}
use Rattle.text.specs.Bytes.{slice, index_of, index_after}
use Rattle.std.specs.Prelude.{Some, None}
use Rattle.text.specs.Line.{read_of}
use Rattle.text.specs.Find.{next_line}

module _ (w : ℕ) (s : List ℕ) (from end : ℕ) (h : from ≤ length s) (found : end ≡ from + index_of 10 (slice from (length s) s)) where
  index : end ≡ from + index_of 10 (drop from s)
  unfolding slice
  index = found ∙ rw (take-length s)

  pub found_none : end ≡ length s → None ≡ next_line w s from
  unfolding next_line
  found_none e = rw (le-ltb (index_of 10 (drop from s)) (length (drop from s)) (omega (arith, index, length-drop from s)))

  pub found_line : end ≤ length s → (end ≡ length s → ⊥)
      → Some (record { line = read_of w (take (end - from) (drop from s)); next = end + 1 }) ≡ next_line w s from
  unfolding next_line
  found_line k ne =
      let n : end - from ≡ index_of 10 (drop from s) = omega (arith, index) in
      let z : end + 1 ≡ from + suc (index_of 10 (drop from s)) = omega (arith, index) in
      rw (lt-ltb (index_of 10 (drop from s)) (length (drop from s)) (omega (arith, index, length-drop from s, ne)), n, z)

-- ---- a search

index_is : (b : ℕ) (s : List ℕ) (i : ℕ) → i ≤ length s → ((k : ℕ) → k < i → get_or s k 0 ≢ b) → (i < length s → get_or s i 0 ≡ b) → index_of b s ≡ i
unfolding index_of index_after
index_is b [] i h before at = omega (arith, h)
index_is b (x ∷ s) zero h before at = rw (eq-eqb x b (at (omega arith))) refl
index_is b (x ∷ s) (suc i) h before at =
    rw (
      ne_eqb x b (before 0 (omega arith)),
      index_is b s i (omega (arith, h)) (λ k l. before (suc k) (omega (arith, l))) (λ l. at (omega (arith, l))),
    ) refl

module _ (b : ℕ) (s : List ℕ) (from end : ℕ) (h : from ≤ end) (k : end ≤ length s) where
  abbrev pub part : List ℕ
  part = take (end - from) (drop from s)

  slice_is : slice from end s ≡ part
  unfolding slice
  slice_is =
      let e : end ≡ from + (end - from) = omega arith in
      ap (λ (n : ℕ). drop from (take n s)) e ∙ drop-take from (end - from) s

  length_is : length part ≡ end - from
  length_is = length-take-le (end - from) (drop from s) (omega (arith, length-drop from s))

  pub first_at : (i : ℕ) → i < length part → get_or part i 0 ≡ b → ((j : ℕ) → j < i → get_or part j 0 ≢ b)
      → from + i ≡ from + index_of b (slice from end s)
  first_at i l at before = rw (slice_is, index_is b part i (omega (arith, l)) before (λ _. at)) refl

  pub first_nowhere : ((j : ℕ) → j < length part → get_or part j 0 ≢ b) → end ≡ from + index_of b (slice from end s)
  first_nowhere others =
      rw (slice_is, index_is b part (length part) (omega arith) others (λ l. absurd (omega (arith, l)))) (omega (arith, length_is))
