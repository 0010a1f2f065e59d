-- Words that turn over at 2 ^ w and the true numbers behind them; the packed word of two of them.
use mathlib.Core.Path.{◌≡◌, sym, ap, ◌∙◌}
use Prim.Native.Nat.{ℕ, ◌+◌, ◌-◌, ◌*◌, ◌/◌, ◌%◌, ◌^◌, ◌≤◌, ◌<◌}
use native.Mathlib.Nat.{mod-lt, mod-eq_of_lt, mod-add-mod, div-add-mod', add-mul-mod_self_right}
use native.Mathlib.Decide.{dec_le}
use native.Mathlib.Omega.{arith}
use lib.Arith.{digits_div, digits_mod}
use lib.Pow.{pow_pos}
use Rattle.words.specs.Word.{plus, minus, packed, high, low}

abbrev sub : ℕ → ℕ → ℕ → ℕ
sub W x y = (x + (W - y)) % W

-- over any modulus
module _ (W : ℕ) (pos : 0 < W) where
  gather : (d b : ℕ) → d + b + (W - b % W) ≡ d + (b / W + 1) * W
  gather d b = omega (arith, div-add-mod' b W, mod-lt b pos)

  -- the wrapped difference of d + b and b is d turned over
  minus_is : (d b : ℕ) → sub W ((d + b) % W) (b % W) ≡ d % W
  minus_is d b =
      mod-add-mod (d + b) W (W - b % W) ∙ ap (λ (n : ℕ). n % W) (gather d b) ∙ add-mul-mod_self_right d (b / W + 1) W

  pub sub_word : {x y : ℕ} (d b : ℕ) → x ≡ (d + b) % W → y ≡ b % W → sub W x y ≡ d % W
  sub_word d b ex ey = rw (ex, ey) (minus_is d b)

  minus_exact : (d b : ℕ) → d < W → sub W ((d + b) % W) (b % W) ≡ d
  minus_exact d b h = minus_is d b ∙ mod-eq_of_lt h

  minus_self : (b : ℕ) → sub W (b % W) (b % W) ≡ 0
  minus_self b = ap (λ (n : ℕ). sub W (n % W) (b % W)) (omega arith) ∙ minus_exact 0 b pos

  -- the wrapped difference of two words is the true difference, where that is small
  pub sub_diff : {x y : ℕ} (a b : ℕ) → x ≡ a % W → y ≡ b % W → b ≤ a → a < b + W → sub W x y + b ≡ a
  sub_diff {x} {y} a b ex ey le lt =
      let e : sub W x y ≡ a - b = rw (ex, ey) (ap (λ (n : ℕ). sub W (n % W) (b % W)) (omega arith) ∙ minus_exact (a - b) b (omega arith)) in
      omega arith

  -- equal words and a small true difference: equal numbers
  pub sub_same : {x y : ℕ} (a b : ℕ) → x ≡ a % W → y ≡ b % W → x ≡ y → b ≤ a → a < b + W → a ≡ b
  sub_same {x} {y} a b ex ey e le lt =
      let d : sub W x y + b ≡ a = sub_diff a b ex ey le lt in
      let z : sub W x y ≡ 0 = rw (e, ey) (minus_self b) in
      omega arith

  -- the same, where it is not known which is the larger
  pub sub_near : {x y : ℕ} (a b : ℕ) → x ≡ a % W → y ≡ b % W → x ≡ y → a < b + W → b < a + W → a ≡ b
  sub_near a b ex ey e la lb = go (dec_le b a)
    where
      go : Dec (b ≤ a) → a ≡ b
      go (yes h) = sub_same a b ex ey e h la
      go (no h) = sym (sub_same b a ey ex (sym e) (omega arith) lb)

module _ (w : ℕ) where
  pub small : {a : ℕ} → a < 2 ^ w → a ≡ a % 2 ^ w
  small h = sym (mod-eq_of_lt h)

  -- a word plus a number is the word of the sum
  pub plus_is : {x : ℕ} (a b : ℕ) → x ≡ a % 2 ^ w → plus w x b ≡ (a + b) % 2 ^ w
  plus_is {x} a b e = rw e (mod-add-mod a (2 ^ w) b)

  pub plus_both : {x y : ℕ} (a b : ℕ) → x ≡ a % 2 ^ w → y ≡ b % 2 ^ w → plus w x y ≡ (a + b) % 2 ^ w
  plus_both {x} {y} a b e f =
      plus_is a y e ∙ ap (λ (n : ℕ). n % 2 ^ w) (omega arith) ∙ plus_is b a f ∙ ap (λ (n : ℕ). n % 2 ^ w) (omega arith)

  pub plus_exact : (a b : ℕ) → a + b < 2 ^ w → plus w a b ≡ a + b
  plus_exact a b h = mod-eq_of_lt h

  pub diff_word : {x y : ℕ} (d b : ℕ) → x ≡ (d + b) % 2 ^ w → y ≡ b % 2 ^ w → minus w x y ≡ d % 2 ^ w
  diff_word d b ex ey = sub_word (2 ^ w) (pow_pos w) d b ex ey

  -- the wrapped difference of two words is the true difference, where that is small
  pub diff : {x y : ℕ} (a b : ℕ) → x ≡ a % 2 ^ w → y ≡ b % 2 ^ w → b ≤ a → a < b + 2 ^ w → minus w x y + b ≡ a
  diff a b ex ey le lt = sub_diff (2 ^ w) (pow_pos w) a b ex ey le lt

  pub same : {x y : ℕ} (a b : ℕ) → x ≡ a % 2 ^ w → y ≡ b % 2 ^ w → x ≡ y → b ≤ a → a < b + 2 ^ w → a ≡ b
  same a b ex ey e le lt = sub_same (2 ^ w) (pow_pos w) a b ex ey e le lt

  pub same_near : {x y : ℕ} (a b : ℕ) → x ≡ a % 2 ^ w → y ≡ b % 2 ^ w → x ≡ y → a < b + 2 ^ w → b < a + 2 ^ w → a ≡ b
  same_near a b ex ey e la lb = sub_near (2 ^ w) (pow_pos w) a b ex ey e la lb

  -- the packed word of two true numbers
  unfoldable pub pair : ℕ → ℕ → ℕ
  pair a b = packed w (a % 2 ^ w) (b % 2 ^ w)

  pub pair_of : {x y : ℕ} (a b : ℕ) → x ≡ a % 2 ^ w → y ≡ b % 2 ^ w → packed w x y ≡ pair a b
  unfolding pair
  pair_of a b ex ey = rw (ex, ey)

  pub high_is : {p : ℕ} (a b : ℕ) → p ≡ pair a b → high w p ≡ a % 2 ^ w
  unfolding pair
  high_is a b e = rw e (digits_div (a % 2 ^ w) (mod-lt b (pow_pos w)))

  pub low_is : {p : ℕ} (a b : ℕ) → p ≡ pair a b → low w p ≡ b % 2 ^ w
  unfolding pair
  low_is a b e = rw e (digits_mod (a % 2 ^ w) (mod-lt b (pow_pos w)))

  -- equal packed words have equal halves
  pub highs : {p q : ℕ} (a b c d : ℕ) → p ≡ pair a b → q ≡ pair c d → p ≡ q → a % 2 ^ w ≡ c % 2 ^ w
  highs a b c d ep eq e = sym (high_is a b ep) ∙ ap (λ (x : ℕ). high w x) e ∙ high_is c d eq

  pub lows : {p q : ℕ} (a b c d : ℕ) → p ≡ pair a b → q ≡ pair c d → p ≡ q → b % 2 ^ w ≡ d % 2 ^ w
  lows a b c d ep eq e = sym (low_is a b ep) ∙ ap (λ (x : ℕ). low w x) e ∙ low_is c d eq

  pub pair_low : (a b c : ℕ) → b % 2 ^ w ≡ c % 2 ^ w → pair a b ≡ pair a c
  unfolding pair
  pair_low a b c e = ap (λ (n : ℕ). packed w (a % 2 ^ w) n) e
