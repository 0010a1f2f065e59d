-- What the slots show: the n tokens from a position on, by true positions, which do not turn over; and that a queue's words show the same,
-- since its capacity divides 2 ^ w, so that a position and its word share a slot.
use mathlib.Core.Path.{◌≡◌, refl, sym, ap, ap₂, ◌∙◌}
use mathlib.Core.Bool.{true}
use mathlib.Core.List.{List, [], ◌∷◌, ◌++◌}
use Prim.Native.Nat.{ℕ, zero, suc, ◌+◌, ◌%◌, ◌≤◌, ◌<◌}
use native.Mathlib.Numerals.{add-one}
use native.Mathlib.Nat.{mod-lt, mod-mod_of_dvd, suc-mod, suc-add, zero-add, add-zero}
use native.Mathlib.Omega.{arith}
use lib.ListN.{length, get_or, set}
use lib.Seq.{get_or-set_same, get_or-set_other}
use Rattle.words.specs.Word.{plus, pow_below}
use Rattle.words.proofs.Powers.{power_divides}
use Rattle.tables.specs.Lists as L
use Rattle.tables.proofs.Bools.{pick_yes}
use Rattle.agreement.proofs.Wrap.{sub_same}

unfoldable pub tokens : (capacity : ℕ) → List ℕ → (at n : ℕ) → List ℕ
tokens cap slots at zero = []
tokens cap slots at (suc n) = get_or slots (at % cap) 0 ∷ tokens cap slots (suc at) n

unfoldable pub cell : ℕ → List ℕ → ℕ → ℕ
cell cap s p = get_or s (p % cap) 0

module _ (cap : ℕ) where
  pub tokens_zero : (s : List ℕ) (h : ℕ) → tokens cap s h 0 ≡ []
  unfolding tokens cell
  tokens_zero s h = refl

  pub length_tokens : (s : List ℕ) (h n : ℕ) → length (tokens cap s h n) ≡ n
  unfolding tokens cell
  length_tokens s h zero = refl
  length_tokens s h (suc n) = ap suc (length_tokens s (suc h) n)

  pub get_d_tokens : (s : List ℕ) (h n j : ℕ) → j < n → get_or (tokens cap s h n) j 0 ≡ cell cap s (h + j)
  unfolding tokens cell
  get_d_tokens s h zero j lt = absurd (omega arith)
  get_d_tokens s h (suc n) zero lt = rw add-zero
  get_d_tokens s h (suc n) (suc j) lt = get_d_tokens s (suc h) n j (omega arith) ∙ ap (cell cap s) (omega arith)

  pub tokens_append : (s : List ℕ) (h n m : ℕ) → tokens cap s h (n + m) ≡ tokens cap s h n ++ tokens cap s (h + n) m
  unfolding tokens cell
  tokens_append s h zero m = rw (zero-add, add-zero)
  tokens_append s h (suc n) m =
      ap (tokens cap s h) (suc-add n m) ∙ ap (λ (l : List ℕ). cell cap s h ∷ l) (tokens_append s (suc h) n m
      ∙ ap (λ (k : ℕ). tokens cap s (suc h) n ++ tokens cap s k m) (omega arith))

  pub tokens_snoc : (s : List ℕ) (h n : ℕ) → tokens cap s h (n + 1) ≡ tokens cap s h n ++ (cell cap s (h + n) ∷ [])
  unfolding tokens cell
  tokens_snoc s h n = tokens_append s h n 1

  module _ (pos : 0 < cap) where
    pub cell_same : (s : List ℕ) (x v : ℕ) → length s ≡ cap → cell cap (set s (x % cap) v) x ≡ v
    unfolding cell
    cell_same s x v e = get_or-set_same s (x % cap) v 0 (omega (arith, mod-lt x pos))

    pub cell_other : (s : List ℕ) (x v p : ℕ) → p < x → x < p + cap → cell cap (set s (x % cap) v) p ≡ cell cap s p
    unfolding cell
    cell_other s x v p h k = get_or-set_other s (x % cap) (p % cap) v 0
        (λ e. let z : x ≡ p = sub_same cap pos x p refl refl (sym e) (omega arith) k in omega arith)

    -- a write at x leaves alone the n tokens from h on, where they end at x or sooner and x is within a capacity of h
    pub tokens_other : (s : List ℕ) (x v h n : ℕ) → h + n ≤ x → x < h + cap → tokens cap (set s (x % cap) v) h n ≡ tokens cap s h n
    unfolding tokens cell
    tokens_other s x v h zero le lt = refl
    tokens_other s x v h (suc n) le lt = ap₂ (λ (a : ℕ) (l : List ℕ). a ∷ l) (cell_other s x v h (omega arith) lt)
        (tokens_other s x v (suc h) n (omega arith) (omega arith))

    -- written at the end: one more token
    pub tokens_write : (s : List ℕ) (v h n : ℕ) → length s ≡ cap → n < cap
        → tokens cap (set s ((h + n) % cap) v) h (n + 1) ≡ tokens cap s h n ++ (v ∷ [])
    tokens_write s v h n e lt =
        tokens_snoc (set s ((h + n) % cap) v) h n
        ∙ ap₂ (λ (l : List ℕ) (a : ℕ). l ++ (a ∷ [])) (tokens_other s (h + n) v h n (omega arith) (omega arith)) (cell_same s (h + n) v e)

  -- positions that share a slot show the same tokens
  pub tokens_cong : (s : List ℕ) (h k n : ℕ) → h % cap ≡ k % cap → tokens cap s h n ≡ tokens cap s k n
  unfolding tokens cell
  tokens_cong s h k zero e = refl
  tokens_cong s h k (suc n) e =
      ap₂ (λ (i : ℕ) (l : List ℕ). get_or s i 0 ∷ l) e (tokens_cong s (suc h) (suc k) n (suc-mod h cap ∙ ap (λ (x : ℕ). suc x % cap) e
      ∙ sym (suc-mod k cap)))

  -- what a queue's words show
  pub tokens_shown : (w : ℕ) → pow_below w cap ≡ true → (s : List ℕ) (at n : ℕ) → L.tokens w cap s at n ≡ tokens cap s at n
  unfolding tokens L.tokens
  tokens_shown w ok s at zero = refl
  tokens_shown w ok s at (suc n) =
      ap₂ (λ (t : ℕ) (l : List ℕ). t ∷ l) (pick_yes (pow_below w cap) (get_or s (at % cap) 0) 0 ok)
      (tokens_shown w ok s (plus w at 1) n
      ∙ tokens_cong s (plus w at 1) (suc at) n (mod-mod_of_dvd cap (at + 1) (power_divides w cap ok) ∙ ap (λ (x : ℕ). x % cap) (add-one at)))
