-- Laws of the capacity for a request: the smallest power of two not below it, found by doubling.
use Rattle.std.proofs.Common.{◌≡◌, ℕ, zero, suc, ◌+◌, ◌-◌, ◌^◌, ◌<◌, ◌≤◌, true, sym, refl, ap, ◌∙◌, ⊎_elim, zero-le, add-zero, eq-or-lt_of_le, zero-add, arith, pow_mono, le-leb}
use native.Mathlib.Nat.{two-pow-succ}
use borrow.Author.Tests.{lt-leb}
use Rattle.words.specs.Word.{pow_below, doubled, capacity_of}
use Rattle.words.proofs.Powers.{le_or_lt, power_test}

pub doubled_done : (m : ℕ) {p r : ℕ} → r ≤ p → doubled m p r ≡ p
unfolding doubled
doubled_done zero h = refl
doubled_done (suc m) {p} {r} h = rw (le-leb r p h)

pub doubled_next : (m : ℕ) {p r : ℕ} → p < r → doubled (suc m) p r ≡ doubled m (p + p) r
unfolding doubled
doubled_next m {p} {r} h = rw (lt-leb r p h)

-- a smaller power of two has a smaller exponent
exponent_lt : {j k r : ℕ} → j ≤ k → 2 ^ j < r → r ≤ 2 ^ k → j < k
exponent_lt {j} {k} h l g =
    ⊎_elim (λ e. let q : 2 ^ j ≡ 2 ^ k = ap (λ (i : ℕ). 2 ^ i) e in absurd (omega arith)) (λ s. s) (eq-or-lt_of_le h)

-- where m doublings from 2 ^ j lead
record Led (m j r : ℕ) : Type 0 where
  at : ℕ
  to : at ≤ j + m
  is : doubled m (2 ^ j) r ≡ 2 ^ at
  holds : r ≤ 2 ^ at
  least : (k : ℕ) → j ≤ k → r ≤ 2 ^ k → at ≤ k

led : (m j r : ℕ) → r ≤ 2 ^ (j + m) → Led m j r
unfolding doubled
led zero j r h =
    record { at = j; to = omega arith; is = refl; holds = rw add-zero at h; least = λ k l g. l }
led (suc m) j r h =
    ⊎_elim (λ l. record { at = j; to = omega arith; is = doubled_done (suc m) l; holds = l; least = λ k i g. i })
    (λ l.
    let e : j + suc m ≡ suc j + m = omega arith in
    let t = led m (suc j) r (rw e at h) in
    record {
      at = t.at;
      to = omega arith;
      is = doubled_next m l ∙ ap (λ (p : ℕ). doubled m p r) (sym (two-pow-succ j)) ∙ t.is;
      holds = t.holds;
      least = λ k i g. t.least k (exponent_lt i l g) g;
    })
    (le_or_lt r (2 ^ j))

module _ (w : ℕ) {r : ℕ} (h : r ≤ 2 ^ (w - 1)) where
  from_one : Led (w - 1) 0 r
  from_one = led (w - 1) 0 r (rw zero-add h)

  pub capacity_power : 0 < w → pow_below w (capacity_of w r) ≡ true
  capacity_power p = rw from_one.is (power_test (omega (arith, from_one.to)))

  pub capacity_holds : r ≤ capacity_of w r
  capacity_holds = rw from_one.is from_one.holds

  pub capacity_least : (k : ℕ) → r ≤ 2 ^ k → capacity_of w r ≤ 2 ^ k
  capacity_least k g = rw from_one.is (pow_mono (from_one.least k zero-le g))

-- ---- what it comes to

pub capacity_of_none : capacity_of 32 0 ≡ 1
unfolding doubled
capacity_of_none = refl

pub capacity_of_one : capacity_of 32 1 ≡ 1
unfolding doubled
capacity_of_one = refl

pub capacity_of_five : capacity_of 32 5 ≡ 8
unfolding doubled
capacity_of_five = refl

pub capacity_of_most : capacity_of 32 (2 ^ 31) ≡ 2 ^ 31
unfolding doubled
capacity_of_most = refl
