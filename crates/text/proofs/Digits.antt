-- Numbers read and written.
use Rattle.std.proofs.Common.{◌≡◌, ℕ, zero, suc, ◌+◌, ◌-◌, ◌*◌, ◌/◌, ◌%◌, ◌^◌, ◌<◌, ◌≤◌, Bool, true, false, eqb, ltb, leb, List, [], ◌∷◌, ◌++◌, length, get_or, drop, sym, refl, ap, ◌∙◌, subst, append-nil, le_trans, mul-le-mul_right, mul_assoc, add-one, arith, drop_of_length-le, drop-cons, ltb-true, le-ltb, lt-ltb, ne_eqb, eqb-true, le-leb, leb-false, leb-true}
use Rattle.std.specs.Prelude.{Option, Some, None, ◌&&◌}
use Rattle.std.specs.Char.{is_ascii_digit}
use Rattle.std.proofs.lemmas.Option.{same_Some, none-some}
use Rattle.words.specs.Word.{pick}
use Rattle.text.specs.Number.{digits_of, number_of, digits_to, decimal_of}

no : {A : Type 0} → true ≡ false → A
no e = absurd (let z : ◌≡◌ {A = ℕ} 1 0 = cc in omega arith)

-- ---- read

pub number_some : (s : List ℕ) → (length s ≡ 0 → ⊥) → number_of s ≡ digits_of 0 s
unfolding number_of
number_some [] h = absurd (h refl)
number_some (b ∷ s) h = refl

pub number_none : (s : List ℕ) → length s ≡ 0 → number_of s ≡ None
unfolding number_of
number_none [] h = refl
number_none (b ∷ s) h = absurd (omega (arith, h))

pub digits_end : (n : ℕ) (s : List ℕ) (i : ℕ) → length s ≤ i → digits_of n (drop i s) ≡ Some n
unfolding digits_of
digits_end n s i k = rw (drop_of_length-le s k)

-- a turn, by the byte b at i
module _ (n : ℕ) (s : List ℕ) (i b : ℕ) (h : i < length s) (e : b ≡ get_or s i 0) where
  turn : digits_of n (drop i s)
      ≡ pick (leb 48 b) (pick (leb b 57) (pick (ltb (n * 10 + (b - 48)) (2 ^ 64)) (digits_of (n * 10 + (b - 48)) (drop (i + 1) s)) None) None) None
  unfolding digits_of
  turn = rw (add-one, drop-cons s i 0 h, ← e)

  pub digits_other : is_ascii_digit b ≡ false → digits_of n (drop i s) ≡ None
  digits_other k = turn ∙ by (leb 48 b) (leb b 57) k
    where
      by : (p q : Bool) → (p && q) ≡ false
          → pick p (pick q (pick (ltb (n * 10 + (b - 48)) (2 ^ 64)) (digits_of (n * 10 + (b - 48)) (drop (i + 1) s)) None) None) None ≡ None
      by true true e = no e
      by true false e = refl
      by false q e = refl

  digit_range : is_ascii_digit b ≡ true → (48 ≤ b) × (b ≤ 57)
  digit_range k = by (leb 48 b) (leb b 57) refl refl k
    where
      by : (p q : Bool) → leb 48 b ≡ p → leb b 57 ≡ q → (p && q) ≡ true → (48 ≤ b) × (b ≤ 57)
      by true true f g e = (leb-true 48 b f, leb-true b 57 g)
      by true false f g e = no (sym e)
      by false q f g e = no (sym e)

  pub digits_past : is_ascii_digit b ≡ true → 2 ^ 64 ≤ n * 10 + (b - 48) → digits_of n (drop i s) ≡ None
  digits_past k m =
      let r = digit_range k in
      rw (turn, le-leb 48 b r.0, le-leb b 57 r.1, le-ltb (n * 10 + (b - 48)) (2 ^ 64) m)

  pub digits_more : is_ascii_digit b ≡ true → n * 10 + (b - 48) < 2 ^ 64
      → digits_of n (drop i s) ≡ digits_of (n * 10 + (b - 48)) (drop (i + 1) s)
  digits_more k m =
      let r = digit_range k in
      rw (turn, le-leb 48 b r.0, le-leb b 57 r.1, lt-ltb (n * 10 + (b - 48)) (2 ^ 64) m)

-- ---- reading back what is written

-- ten to the f
tens : ℕ → ℕ
tens zero = 1
tens (suc f) = 10 * tens f

digit : (m n : ℕ) (after : List ℕ) → m ≡ n / 10 → n < 2 ^ 64 → digits_of m ((48 + n % 10) ∷ after) ≡ digits_of n after
unfolding digits_of
digit m n after e k =
    let a : 48 ≤ 48 + n % 10 = omega arith in
    let b : 48 + n % 10 ≤ 57 = omega arith in
    let v : m * 10 + (48 + n % 10 - 48) ≡ n = omega (arith, e) in
    rw (le-leb 48 (48 + n % 10) a, le-leb (48 + n % 10) 57 b, v, lt-ltb n (2 ^ 64) k)

back : (f n : ℕ) (after : List ℕ) → n < tens f → n < 2 ^ 64 → digits_of 0 (digits_to f n after) ≡ digits_of n after
unfolding digits_to tens
back zero n after h k = ap (λ (m : ℕ). digits_of m after) (omega (arith, h))
back (suc f) n after h k = by (back f (n / 10) ((48 + n % 10) ∷ after) (omega (arith, h)) (omega arith)) (eqb (n / 10) 0) refl
  where
    by : digits_of 0 (digits_to f (n / 10) ((48 + n % 10) ∷ after)) ≡ digits_of (n / 10) ((48 + n % 10) ∷ after) → (t : Bool) → eqb (n / 10) 0 ≡ t
        → digits_of 0 (pick t ((48 + n % 10) ∷ after) (digits_to f (n / 10) ((48 + n % 10) ∷ after))) ≡ digits_of n after
    by ih true e = digit 0 n after (sym (eqb-true (n / 10) 0 e)) k
    by ih false e = ih ∙ digit (n / 10) n after refl k

-- what is written is never empty
some_digits : (f n : ℕ) (after : List ℕ) → 0 < length after → 0 < length (digits_to f n after)
unfolding digits_to
some_digits zero n after h = h
some_digits (suc f) n after h = by (some_digits f (n / 10) ((48 + n % 10) ∷ after) (omega arith)) (eqb (n / 10) 0)
  where
    by : 0 < length (digits_to f (n / 10) ((48 + n % 10) ∷ after)) → (t : Bool)
        → 0 < length (pick t ((48 + n % 10) ∷ after) (digits_to f (n / 10) ((48 + n % 10) ∷ after)))
    by ih true = omega arith
    by ih false = ih

written : (f n : ℕ) → length (digits_to (suc f) n []) ≡ 0 → ⊥
unfolding digits_to
written f n = by (some_digits f (n / 10) ((48 + n % 10) ∷ []) (omega arith)) (eqb (n / 10) 0)
  where
    by : 0 < length (digits_to f (n / 10) ((48 + n % 10) ∷ [])) → (t : Bool)
        → length (pick t ((48 + n % 10) ∷ []) (digits_to f (n / 10) ((48 + n % 10) ∷ []))) ≡ 0 → ⊥
    by ih true e = omega (arith, e)
    by ih false e = omega (arith, e)

twenty : (n : ℕ) → n < 2 ^ 64 → n < tens 20
unfolding tens
twenty n k = omega arith

-- Every number of 64 bits is read back as it was written.
pub read_back : (n : ℕ) → n < 2 ^ 64 → number_of (decimal_of n) ≡ Some n
unfolding decimal_of digits_of
read_back n k = number_some (digits_to 20 n []) (written 19 n) ∙ back 20 n [] (twenty n k) k

-- ---- writing again what was read

some_then : (t : Bool) (x : Option ℕ) (n : ℕ) → pick t x None ≡ Some n → (t ≡ true) × (x ≡ Some n)
some_then true x n e = (refl, e)
some_then false x n e = absurd (none-some n e)

-- a digit was read: it is one, and what is left was read after it
pub record Digit (m b : ℕ) (s : List ℕ) (n : ℕ) : Type 0 where
  pub low : 48 ≤ b
  pub high : b ≤ 57
  pub fits : m * 10 + (b - 48) < 2 ^ 64
  pub rest : digits_of (m * 10 + (b - 48)) s ≡ Some n

pub digit_read : (m b : ℕ) (s : List ℕ) (n : ℕ) → digits_of m (b ∷ s) ≡ Some n → Digit m b s n
unfolding digits_of
digit_read m b s n e =
    let one = some_then (leb 48 b) _ n e in
    let two = some_then (leb b 57) _ n one.1 in
    let three = some_then (ltb (m * 10 + (b - 48)) (2 ^ 64)) _ n two.1 in
    record { low = leb-true 48 b one.0; high = leb-true b 57 two.0; fits = ltb-true _ _ three.0; rest = three.1 }

-- each digit makes the number ten times as large
grown : (s : List ℕ) (m n : ℕ) → digits_of m s ≡ Some n → m * tens (length s) ≤ n
unfolding digits_of tens
grown [] m n e = omega (arith, same_Some m n e)
grown (b ∷ s) m n e =
    let d : Digit m b s n = digit_read m b s n e in
    let g : (m * 10 + (b - 48)) * tens (length s) ≤ n = grown s (m * 10 + (b - 48)) n d.rest in
    le_trans (more (length s)) g
  where
    more : (k : ℕ) → m * (10 * tens k) ≤ (m * 10 + (b - 48)) * tens k
    more k = subst (λ (x : ℕ). x ≤ (m * 10 + (b - 48)) * tens k) (mul_assoc m 10 (tens k)) (mul-le-mul_right (tens k) (omega arith))

read_fits : (s : List ℕ) (m n : ℕ) → m < 2 ^ 64 → digits_of m s ≡ Some n → n < 2 ^ 64
unfolding digits_of
read_fits [] m n h e = omega (arith, same_Some m n e, h)
read_fits (b ∷ s) m n h e = let d : Digit m b s n = digit_read m b s n e in read_fits s (m * 10 + (b - 48)) n d.fits d.rest

-- one digit more is written before what was written of the number so far
digit_written : (f m b : ℕ) (after : List ℕ) → 0 < m → 48 ≤ b → b ≤ 57 → digits_to (suc f) (m * 10 + (b - 48)) after ≡ digits_to f m (b ∷ after)
unfolding digits_to
digit_written f m b after h lo hi =
    let q : (m * 10 + (b - 48)) / 10 ≡ m = omega arith in
    let r : 48 + (m * 10 + (b - 48)) % 10 ≡ b = omega arith in
    rw (q, r, ne_eqb m 0 (λ e. omega (arith, e)))

rewritten : (s after : List ℕ) (f m n : ℕ) → 0 < m → digits_of m s ≡ Some n → digits_to (length s + f) n after ≡ digits_to f m (s ++ after)
unfolding digits_of
rewritten [] after f m n h e = let z : 0 + f ≡ f = omega arith in rw (z, same_Some m n e)
rewritten (b ∷ s) after f m n h e =
    let d : Digit m b s n = digit_read m b s n e in
    let p : length (b ∷ s) + f ≡ length s + suc f = omega arith in
    ap (λ (k : ℕ). digits_to k n after) p
    ∙ rewritten s after (suc f) (m * 10 + (b - 48)) n (omega (arith, h)) d.rest
    ∙ digit_written f m b (s ++ after) h d.low d.high

tens_more : (j k : ℕ) → tens j ≤ tens (k + j)
unfolding tens
tens_more j zero = let e : zero + j ≡ j = omega arith in rw e (omega arith)
tens_more j (suc k) = let e : suc k + j ≡ suc (k + j) = omega arith in rw e (omega (arith, tens_more j k))

-- a number of 64 bits has no more than twenty digits
at_most_twenty : (s : List ℕ) (m n : ℕ) → 0 < m → m < 2 ^ 64 → digits_of m s ≡ Some n → length s ≤ 19
unfolding tens
at_most_twenty s m n h k e = by (leb (length s) 19) refl
  where
    by : (t : Bool) → leb (length s) 19 ≡ t → length s ≤ 19
    by true y = leb-true (length s) 19 y
    by false y =
        let j : 19 < length s = leb-false (length s) 19 y in
        let g : tens 20 ≤ tens (length s - 20 + 20) = tens_more 20 (length s - 20) in
        let l : length s - 20 + 20 ≡ length s = omega arith in
        let one : 1 * tens (length s) ≤ m * tens (length s) = mul-le-mul_right (tens (length s)) h in
        absurd (omega (arith, rw l at g, one, grown s m n e, read_fits s m n k e))

-- Digits without a 0 before others are written again as they were read.
pub write_back : (b : ℕ) (s : List ℕ) (n : ℕ) → (b ≡ 48 → ⊥) → number_of (b ∷ s) ≡ Some n → decimal_of n ≡ b ∷ s
unfolding number_of decimal_of digits_to
write_back b s n ne e =
    let d : Digit 0 b s n = digit_read 0 b s n e in
    let v : 0 * 10 + (b - 48) ≡ b - 48 = omega arith in
    let read : digits_of (b - 48) s ≡ Some n = rw v at d.rest in
    let some_left : 0 < b - 48 = omega (arith, ne, d.low) in
    let few : length s ≤ 19 = at_most_twenty s (b - 48) n some_left (omega (arith, d.high)) read in
    let l : length s + suc (19 - length s) ≡ 20 = omega arith in
    let q : (b - 48) / 10 ≡ 0 = omega (arith, d.high) in
    let r : 48 + (b - 48) % 10 ≡ b = omega (arith, d.low, d.high) in
    sym (ap (λ (k : ℕ). digits_to k n []) l) ∙ rewritten s [] (suc (19 - length s)) (b - 48) n some_left read ∙ rw (q, r, append-nil s) refl

pub write_zero : decimal_of 0 ≡ 48 ∷ []
unfolding decimal_of digits_to
write_zero = refl
