-- Laws of powers of two below 2 ^ w, the capacities, and of the masks that they make.
use Rattle.std.proofs.Common.{◌≡◌, ℕ, zero, suc, ◌+◌, ◌-◌, ◌*◌, ◌/◌, ◌%◌, ◌^◌, ◌<◌, ◌≤◌, min, Bool, true, false, eqb, leb, ◌⊎◌, sym, refl, ap, ◌∙◌, inl, inr, ⊎_elim, true≢false, le_of_suc-le-suc, eq-zero-or-pos, eq-or-lt_of_le, pow-suc, arith, pow_pos, pow_mono, pow-add, eq-eqb, eqb-true, leb-false, leb-true}
use Prim.Native.Nat.{◌∣◌}
use native.Mathlib.Nat.{mod_self, dvd-mul_right}
use borrow.Author.Tests.{eqb-false}
use lib.Arith.{bin_ind}
use lib.Bits.{bit_and, and_mask, and_self, and_step}
use Rattle.words.specs.Word.{Pow, orb, pow_below}

pub le_or_lt : (a b : ℕ) → (a ≤ b) ⊎ (b < a)
le_or_lt a b = go (leb a b) refl
  where
    go : (t : Bool) → leb a b ≡ t → (a ≤ b) ⊎ (b < a)
    go true e = inl (leb-true a b e)
    go false e = inr (leb-false a b e)

-- a mask one below a power of two takes the remainder
pub masks : (p : ℕ) {c : ℕ} → Pow c → bit_and p (c - 1) ≡ p % c
masks p h = rw h.1 (and_mask p h.0)

pub pow_positive : {c : ℕ} → Pow c → 0 < c
pow_positive h = rw h.1 (pow_pos h.0)

-- ---- the test, one power after the other

or_of : (a b : Bool) → orb a b ≡ true → (a ≡ true) ⊎ (b ≡ true)
or_of true b e = inl refl
or_of false b e = inr e

or_right : (a b : Bool) → b ≡ true → orb a b ≡ true
or_right true b e = refl
or_right false b e = e

or_left : (a b : Bool) → a ≡ true → orb a b ≡ true
or_left true b e = refl
or_left false b e = absurd (true≢false (sym e))

pub power_below : (w c : ℕ) → pow_below w c ≡ true → (k : ℕ) × (k < w) × (c ≡ 2 ^ k)
unfolding pow_below
power_below zero c e = absurd (true≢false (sym e))
power_below (suc n) c e =
    ⊎_elim (λ h. let t = power_below n c h in (t.0, omega arith, t.2)) (λ h. (n, omega arith, eqb-true _ _ h)) (or_of _ _ e)

pub power_test : {k w : ℕ} → k < w → pow_below w (2 ^ k) ≡ true
unfolding pow_below
power_test {k} {w = zero} h = absurd (omega arith)
power_test {k} {w = suc n} h =
    ⊎_elim (λ e. or_right (pow_below n (2 ^ k)) (eqb (2 ^ k) (2 ^ n)) (eq-eqb _ _ (ap (λ (i : ℕ). 2 ^ i) e)))
    (λ l. or_left (pow_below n (2 ^ k)) (eqb (2 ^ k) (2 ^ n)) (power_test l)) (eq-or-lt_of_le (le_of_suc-le-suc h))

pub pow_divides : {k w : ℕ} → k < w → 2 ^ k ∣ 2 ^ w
pow_divides {k} {w} h =
    let e : w ≡ k + (w - k) = omega arith in
    let s : 2 ^ w ≡ 2 ^ k * 2 ^ (w - k) = ap (λ (i : ℕ). 2 ^ i) e ∙ pow-add 2 k (w - k) in
    rw s (dvd-mul_right (2 ^ k) (2 ^ (w - k)))

module _ (w c : ℕ) (ok : pow_below w c ≡ true) where
  pub power_of : Pow c
  power_of = let t = power_below w c ok in (t.0, t.2)

  pub power_positive : 0 < c
  power_positive = pow_positive power_of

  pub power_most : c ≤ 2 ^ (w - 1)
  power_most = let t = power_below w c ok in rw t.2 (pow_mono (omega arith))

  pub power_divides : c ∣ 2 ^ w
  power_divides = let t = power_below w c ok in rw t.2 (pow_divides t.1)

-- ---- the test in one step: a power of two has no bit in common with the number before it

unless : (t : Bool) → (t ≡ true → ⊥) → t ≡ false
unless true h = absurd (h refl)
unless false h = refl

pub test_zero : (w : ℕ) → pow_below w 0 ≡ false
test_zero w = unless (pow_below w 0) (λ h. let l : 0 < 0 = power_positive w 0 h in omega arith)

pow_twice : {n m : ℕ} → n ≡ m * 2 → Pow m → Pow n
pow_twice d t = (suc t.0, d ∙ ap (λ (x : ℕ). x * 2) t.1 ∙ sym (pow-suc 2 t.0))

-- by the lowest bit, and the half that is left
by_half : (n : ℕ) → (0 < n / 2 → bit_and (n / 2) (n / 2 - 1) ≡ 0 → Pow (n / 2)) → 0 < n → bit_and n (n - 1) ≡ 0 → Pow n
by_half n ih p e = ⊎_elim even odd (eq-zero-or-pos (n % 2))
  where
    even : n % 2 ≡ 0 → Pow n
    even z =
        let q : (n - 1) / 2 ≡ n / 2 - 1 = omega arith in
        let s : bit_and n (n - 1) ≡ bit_and (n / 2) (n / 2 - 1) * 2 + min (n % 2) ((n - 1) % 2) =
        and_step n (n - 1) ∙ ap (λ (x : ℕ). bit_and (n / 2) x * 2 + min (n % 2) ((n - 1) % 2)) q in
        pow_twice (omega arith) (ih (omega arith) (omega arith))

    odd : 0 < n % 2 → Pow n
    odd z =
        let q : (n - 1) / 2 ≡ n / 2 = omega arith in
        let s : bit_and n (n - 1) ≡ n / 2 * 2 + min (n % 2) ((n - 1) % 2) =
        and_step n (n - 1) ∙ ap (λ (x : ℕ). bit_and (n / 2) x * 2 + min (n % 2) ((n - 1) % 2)) q
        ∙ ap (λ (x : ℕ). x * 2 + min (n % 2) ((n - 1) % 2)) (and_self (n / 2)) in
        (0, omega arith)

pub one_bit : (n : ℕ) → 0 < n → bit_and n (n - 1) ≡ 0 → Pow n
one_bit = bin_ind (λ (n : ℕ). 0 < n → bit_and n (n - 1) ≡ 0 → Pow n) (λ p e. absurd (omega arith)) by_half

pub test_bits : (w : ℕ) {c : ℕ} → 0 < c → c < 2 ^ w → eqb (bit_and c (c - 1)) 0 ≡ pow_below w c
test_bits w {c} p l = go (eqb (bit_and c (c - 1)) 0) refl
  where
    few : (k : ℕ) → c ≡ 2 ^ k → k < w
    few k e = ⊎_elim (λ h. let m : 2 ^ w ≤ 2 ^ k = pow_mono h in absurd (omega arith)) (λ h. h) (le_or_lt w k)

    go : (t : Bool) → eqb (bit_and c (c - 1)) 0 ≡ t → t ≡ pow_below w c
    go true e =
        let h = one_bit c p (eqb-true _ _ e) in
        sym (ap (pow_below w) h.1 ∙ power_test (few h.0 h.1))
    go false e =
        sym (unless (pow_below w c)
        (λ t. eqb-false _ _ e (masks c (power_of w c t) ∙ mod_self c)))
