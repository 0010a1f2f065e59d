-- The capacity for a request by a count of leading zeros: what they leave of the k digits of the number before it is the exponent.
use Rattle.std.proofs.Common.{◌≡◌, ℕ, suc, ◌+◌, ◌-◌, ◌*◌, ◌%◌, ◌^◌, ◌<◌, ◌≤◌, ◌∙◌, ⊎_elim, le_antisymm, one-mul, arith, pow_mono, shl_exact}
use native.Mathlib.Nat.{two-pow-succ}
use lib.Count.{count_leading_zeros, leading_length}
use Rattle.words.specs.Word.{Pow, capacity_of}
use Rattle.words.proofs.Powers.{le_or_lt, power_of}
use Rattle.words.proofs.Doubling.{capacity_power, capacity_holds, capacity_least}

-- a power of two below twice r is not above one that holds r
not_above : {m n r : ℕ} → 2 ^ m < r + r → r ≤ 2 ^ n → m ≤ n
not_above {m} {n} near holds =
    ⊎_elim (λ l. l)
    (λ (l : n < m). let g : 2 ^ suc n ≤ 2 ^ m = pow_mono l in absurd (omega (arith, two-pow-succ n)))
    (le_or_lt m n)

module _ (w k : ℕ) {r : ℕ} (wide : 0 < w) (digits : w ≤ k) (some : 0 < r) (most : r ≤ 2 ^ (w - 1)) where
  abbrev exponent : ℕ
  exponent = k - count_leading_zeros k (r - 1)

  -- that power holds the request, and its half does not
  fits : (r ≤ 2 ^ exponent) × (2 ^ exponent < r + r)
  fits =
      let b : 2 ^ (w - 1) ≤ 2 ^ k = pow_mono (omega arith) in
      let t = leading_length k (r - 1) (omega arith) in
      let e : exponent ≡ t.0 = omega (arith, t.1) in
      rw e (omega (arith, t.2), omega (arith, t.3))

  pub zeros_leave : exponent ≤ w - 1
  zeros_leave = not_above fits.1 most

  by_zeros : 2 ^ exponent ≡ capacity_of w r
  by_zeros =
      let p : Pow (capacity_of w r) = power_of w _ (capacity_power w most wide) in
      let h : r ≤ 2 ^ p.0 = rw p.1 at (capacity_holds w most) in
      let g : 2 ^ exponent ≤ capacity_of w r = rw p.1 (pow_mono (not_above fits.1 h)) in
      le_antisymm g (capacity_least w most exponent fits.0)

  -- 1 shifted that far, in a word of b digits
  pub capacity_by_zeros : (b : ℕ) → w ≤ b → 1 * 2 ^ exponent % 2 ^ b ≡ capacity_of w r
  capacity_by_zeros b room = shl_exact 1 exponent b (omega arith) (omega (arith, zeros_leave)) ∙ one-mul (2 ^ exponent) ∙ by_zeros
