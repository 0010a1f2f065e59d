-- Runs of stores, and digits stored from the end.
use Rattle.std.proofs.Common.{◌≡◌, ℕ, suc, ◌+◌, ◌-◌, ◌/◌, ◌%◌, ◌<◌, ◌≤◌, List, [], ◌∷◌, ◌++◌, length, take, drop, set, sym, refl, ap, ◌∙◌, append-nil, append_assoc, add-zero, add-suc, suc-add, add-one, arith, length-append, length-set, drop-cons, get_or-set_same, drop-set-lt, eq-eqb, ne_eqb}
use lib.Seq.{sets}
use borrow.Rule.Slice.PartMut.{put_mid, Post-is}
use Rattle.std.proofs.lemmas.List.Edits.{sets-eq}
use Rattle.text.specs.Ascii.{ascii}
use Rattle.text.specs.Number.{digits_to, decimal_of}
use Rattle.text.specs.declared.write.Out.{Out}
use Rattle.text.specs.Write.{Wrote, Puts, field_for, fields_for}

-- two runs of stores, one after the other, are one
sets_append : (l : List ℕ) (at : ℕ) (xs ys : List ℕ) → sets (sets l at xs) (at + length xs) ys ≡ sets l at (xs ++ ys)
sets_append l at [] ys = rw add-zero
sets_append l at (x ∷ xs) ys = rw (add-suc, ← suc-add) (sets_append (set l at x) (suc at) xs ys)

-- one piece of text after another
pub then : {l l₁ l₂ : List ℕ} {at p q : ℕ} {xs ys : List ℕ} → Wrote l at xs l₁ p → Wrote l₁ p ys l₂ q → Wrote l at (xs ++ ys) l₂ q
then {l} {l₁} {l₂} {at} {p} {q} {xs} {ys} a b = record {
  bytes = b.bytes ∙ rw (a.bytes, a.after, sets_append);
  after = b.after ∙ (rw (a.after, length-append) (omega arith));
}

pub puts_then : {o o₁ o₂ : Out} {xs ys : List ℕ} → Puts o xs o₁ → Puts o₁ ys o₂ → Puts o (xs ++ ys) o₂
puts_then a b = record { same = b.same ∙ a.same; wrote = then a.wrote b.wrote; long = b.long ∙ a.long }

pub wrote_none : (l : List ℕ) (at : ℕ) → Wrote l at [] l at
wrote_none l at = record { bytes = refl; after = sym (add-zero at) }

pub puts_none : (o : Out) → Puts o [] o
puts_none o = record { same = refl; wrote = wrote_none o.bytes.now o.put; long = refl }

pub one_field : (n : ℕ) → fields_for (n ∷ []) ≡ field_for n
unfolding fields_for
one_field n = append-nil (field_for n)

pub fields_append : (a b : List ℕ) → fields_for (a ++ b) ≡ fields_for a ++ fields_for b
unfolding fields_for
fields_append [] b = refl
fields_append (n ∷ a) b =
    ap (λ (s : List ℕ). field_for n ++ s) (fields_append a b) ∙ sym (append_assoc (field_for n) (fields_for a) (fields_for b))

-- a store before what is kept
front : (l : List ℕ) (j d : ℕ) → j < length l → drop j (set l j d) ≡ d ∷ drop (j + 1) l
front l j d h =
    let k : j < length (set l j d) = rw (length-set l j d) h in
    rw (add-one, drop-cons (set l j d) j 0 k, get_or-set_same l j d 0 h, drop-set-lt (suc j) l j d (omega arith))

digits_last : (f n : ℕ) (after : List ℕ) → n / 10 ≡ 0 → digits_to (f + 1) n after ≡ (48 + n % 10) ∷ after
unfolding digits_to
digits_last f n after h = rw (add-one, eq-eqb (n / 10) 0 h)

-- a number below 10 is one digit
pub one_digit : (n : ℕ) → n ≤ 9 → field_for n ++ ascii "\n" ≡ 9 ∷ (48 + n) ∷ 10 ∷ []
unfolding decimal_of
one_digit n h = rw (digits_last 19 n [] (omega (arith, h))) (ap (λ (d : ℕ). 9 ∷ (48 + d) ∷ 10 ∷ []) (omega (arith, h)))

digits_next : (f n : ℕ) (after : List ℕ) → (n / 10 ≡ 0 → ⊥) → digits_to (f + 1) n after ≡ digits_to f (n / 10) ((48 + n % 10) ∷ after)
unfolding digits_to
digits_next f n after h = rw (add-one, ne_eqb (n / 10) 0 h)

-- a turn of the digits, at the place i of the text
module _ (i n : ℕ) (l : List ℕ) (pos : 0 < i) (h : i - 1 < length l) where
  same : i ≡ (i - 1) + 1
  same = omega arith

  pub turn_last : n / 10 ≡ 0 → drop (i - 1) (set l (i - 1) (48 + n % 10)) ≡ digits_to i n (drop i l)
  turn_last e =
      front l (i - 1) (48 + n % 10) h
      ∙ rw (← same) (sym (ap (λ (k : ℕ). digits_to k n (drop i l)) same ∙ digits_last (i - 1) n (drop i l) e))

  pub turn_next : (n / 10 ≡ 0 → ⊥)
      → digits_to i n (drop i l) ≡ digits_to (i - 1) (n / 10) (drop (i - 1) (set l (i - 1) (48 + n % 10)))
  turn_next e =
      (ap (λ (k : ℕ). digits_to k n (drop i l)) same ∙ digits_next (i - 1) n (drop i l) e)
      ∙ sym (ap (digits_to (i - 1) (n / 10)) (front l (i - 1) (48 + n % 10) h ∙ rw (← same)))

pub digits_none : (i n : ℕ) (l : List ℕ) → i ≡ 0 → digits_to i n (drop i l) ≡ drop 0 l
unfolding digits_to
digits_none i n l e = rw e

-- bytes copied over a part are as many stores
pub put_in : (l : List ℕ) (at : ℕ) (ys xs : List ℕ) → ys ≡ xs → at + length xs ≤ length l
    → put_mid at (at + length xs - at) l ys ≡ sets l at xs
put_in l at ys xs e h =
    rw (e, Post-is at (at + length xs) l (omega arith), sets-eq xs l at h) (sym (append_assoc (take at l) xs (drop (at + length xs) l)))
