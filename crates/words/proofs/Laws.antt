-- Laws of words of any width: sums and differences that turn over, and two words in one.
use Rattle.std.proofs.Common.{◌≡◌, ℕ, ◌+◌, ◌-◌, ◌*◌, ◌%◌, ◌^◌, ◌<◌, ◌≤◌, sym, ap, ◌∙◌, add-zero, le_of_lt, mul-le-mul_right, mod-lt, mod-eq_of_lt, suc-mul, zero-add, arith, pow_pos, pow-add, shl_exact, shr_lt}
use native.Mathlib.Nat.{mod_self, mod-add-mod, add-mod_right, sub-zero}
use lib.Pow as P
use lib.Pow.{split}
use lib.Bits.{bit_or, or_shifted}
use Rattle.words.specs.Word.{plus, minus, packed, high, low}

-- ---- over any modulus

pub back_by_less : {m a b : ℕ} → a < m → b ≤ m → ((a + b) % m + (m - b)) % m ≡ a
back_by_less {m} {a} {b} ha hb =
    let e : a + b + (m - b) ≡ a + m = omega arith in
    mod-add-mod (a + b) m (m - b) ∙ ap (λ (k : ℕ). k % m) e ∙ add-mod_right a m ∙ mod-eq_of_lt ha

pub back_by_more : {m a b : ℕ} → a < m → b ≤ m → ((a + (m - b)) % m + b) % m ≡ a
back_by_more {m} {a} {b} ha hb =
    let e : a + (m - b) + b ≡ a + m = omega arith in
    mod-add-mod (a + (m - b)) m b ∙ ap (λ (k : ℕ). k % m) e ∙ add-mod_right a m ∙ mod-eq_of_lt ha

-- ---- sums and differences

pub plus_below : (w a b : ℕ) → plus w a b < 2 ^ w
plus_below w a b = mod-lt (a + b) (pow_pos w)

pub minus_below : (w a b : ℕ) → minus w a b < 2 ^ w
minus_below w a b = mod-lt (a + (2 ^ w - b)) (pow_pos w)

pub minus_plus : (w : ℕ) {a b : ℕ} → a < 2 ^ w → b < 2 ^ w → minus w (plus w a b) b ≡ a
minus_plus w ha hb = back_by_less ha (le_of_lt hb)

pub plus_minus : (w : ℕ) {a b : ℕ} → a < 2 ^ w → b < 2 ^ w → plus w (minus w a b) b ≡ a
plus_minus w ha hb = back_by_more ha (le_of_lt hb)

pub minus_self : (w : ℕ) {a : ℕ} → a < 2 ^ w → minus w a a ≡ 0
minus_self w {a} ha =
    let e : a + (2 ^ w - a) ≡ 2 ^ w = omega arith in
    ap (λ (k : ℕ). k % 2 ^ w) e ∙ mod_self (2 ^ w)

pub minus_zero : (w : ℕ) {a : ℕ} → a < 2 ^ w → minus w a 0 ≡ a
minus_zero w {a} ha = rw sub-zero (add-mod_right a (2 ^ w) ∙ mod-eq_of_lt ha)

pub plus_zero : (w : ℕ) {a : ℕ} → a < 2 ^ w → plus w a 0 ≡ a
plus_zero w ha = rw add-zero (mod-eq_of_lt ha)

-- words with no difference are equal
pub equal_of_minus : (w : ℕ) {a b : ℕ} → a < 2 ^ w → b < 2 ^ w → minus w a b ≡ 0 → a ≡ b
equal_of_minus w {a} {b} ha hb e =
    sym (plus_minus w ha hb) ∙ ap (λ (k : ℕ). (k + b) % 2 ^ w) e ∙ ap (λ (k : ℕ). k % 2 ^ w) (zero-add b) ∙ mod-eq_of_lt hb

-- ---- two words in one

-- a shift and an or pack two words of w bits
pub packs : (w : ℕ) {a b : ℕ} → a < 2 ^ w → b < 2 ^ w → bit_or (a * 2 ^ w % 2 ^ (w + w)) b ≡ packed w a b
packs w {a} {b} ha hb = ap (λ (k : ℕ). bit_or k b) (shl_exact w w (w + w) ha (omega arith)) ∙ or_shifted a w b hb

pub high_packed : (w a : ℕ) {b : ℕ} → b < 2 ^ w → high w (packed w a b) ≡ a
high_packed w a hb = P.high a w hb

pub low_packed : (w a : ℕ) {b : ℕ} → b < 2 ^ w → low w (packed w a b) ≡ b
low_packed w a hb = P.low a w hb

pub packed_halves : (w x : ℕ) → packed w (high w x) (low w x) ≡ x
packed_halves w x = split x w

-- packing is one-to-one
pub high_same : (w a c : ℕ) {b d : ℕ} → b < 2 ^ w → d < 2 ^ w → packed w a b ≡ packed w c d → a ≡ c
high_same w a c hb hd e = sym (high_packed w a hb) ∙ ap (high w) e ∙ high_packed w c hd

pub low_same : (w a c : ℕ) {b d : ℕ} → b < 2 ^ w → d < 2 ^ w → packed w a b ≡ packed w c d → b ≡ d
low_same w a c hb hd e = sym (low_packed w a hb) ∙ ap (low w) e ∙ low_packed w c hd

pub packed_below : (w : ℕ) {a b : ℕ} → a < 2 ^ w → b < 2 ^ w → packed w a b < 2 ^ (w + w)
packed_below w {a} {b} ha hb = omega (arith, pow-add 2 w w, suc-mul a (2 ^ w), mul-le-mul_right (2 ^ w) ha)

pub low_below : (w x : ℕ) → low w x < 2 ^ w
low_below w x = mod-lt x (pow_pos w)

pub high_below : (w : ℕ) {x : ℕ} → x < 2 ^ (w + w) → high w x < 2 ^ w
high_below w h = shr_lt w w h
