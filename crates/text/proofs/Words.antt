-- A field compared by its length, and then byte after byte, as code does that matches it against words.
use Rattle.std.proofs.Common.{◌≡◌, ℕ, zero, suc, ◌<◌, Bool, true, false, eqb, List, [], ◌∷◌, length, get_or, refl, arith, ne_eqb}
use Rattle.words.specs.Word.{pick}
use Rattle.text.specs.Ascii.{same}

cut : (b c : Bool) → c ≡ false → pick b c false ≡ false
cut true c e = e
cut false c e = refl

pub same_short : (s t : List ℕ) → length s < length t → same s t ≡ false
unfolding same
same_short [] [] h = absurd (omega (arith, h))
same_short [] (y ∷ t) h = refl
same_short (x ∷ s) [] h = refl
same_short (x ∷ s) (y ∷ t) h = cut (eqb x y) (same s t) (same_short s t (omega (arith, h)))

pub same_long : (s t : List ℕ) → length t < length s → same s t ≡ false
unfolding same
same_long [] [] h = absurd (omega (arith, h))
same_long [] (y ∷ t) h = refl
same_long (x ∷ s) [] h = refl
same_long (x ∷ s) (y ∷ t) h = cut (eqb x y) (same s t) (same_long s t (omega (arith, h)))

-- another byte at a place
apart : (i : ℕ) (s t : List ℕ) → (get_or s i 0 ≡ get_or t i 0 → ⊥) → same s t ≡ false
unfolding same
apart i [] [] h = absurd (h refl)
apart i [] (y ∷ t) h = refl
apart i (x ∷ s) [] h = refl
apart zero (x ∷ s) (y ∷ t) h = rw (ne_eqb x y h) refl
apart (suc i) (x ∷ s) (y ∷ t) h = cut (eqb x y) (same s t) (apart i s t h)

pub apart_0 : (s t : List ℕ) → (get_or s 0 0 ≡ get_or t 0 0 → ⊥) → same s t ≡ false
apart_0 = apart 0

pub apart_1 : (s t : List ℕ) → (get_or s 1 0 ≡ get_or t 1 0 → ⊥) → same s t ≡ false
apart_1 = apart 1

pub apart_2 : (s t : List ℕ) → (get_or s 2 0 ≡ get_or t 2 0 → ⊥) → same s t ≡ false
apart_2 = apart 2

pub apart_3 : (s t : List ℕ) → (get_or s 3 0 ≡ get_or t 3 0 → ⊥) → same s t ≡ false
apart_3 = apart 3

pub apart_4 : (s t : List ℕ) → (get_or s 4 0 ≡ get_or t 4 0 → ⊥) → same s t ≡ false
apart_4 = apart 4

pub apart_5 : (s t : List ℕ) → (get_or s 5 0 ≡ get_or t 5 0 → ⊥) → same s t ≡ false
apart_5 = apart 5

pub apart_6 : (s t : List ℕ) → (get_or s 6 0 ≡ get_or t 6 0 → ⊥) → same s t ≡ false
apart_6 = apart 6

-- the bytes of t stand in s from a place on
abbrev pub reads : List ℕ → ℕ → List ℕ → Bool
reads s i [] = true
reads s i (y ∷ t) = pick (eqb (get_or s i 0) y) (reads s (suc i) t) false

reads_on : (x : ℕ) (s : List ℕ) (i : ℕ) (t : List ℕ) → reads (x ∷ s) (suc i) t ≡ reads s i t
reads_on x s i [] = refl
reads_on x s i (y ∷ t) = rw (reads_on x s (suc i) t) refl

pub same_reads : (s t : List ℕ) → length s ≡ length t → same s t ≡ reads s 0 t
unfolding same
same_reads [] [] h = refl
same_reads [] (y ∷ t) h = absurd (omega (arith, h))
same_reads (x ∷ s) [] h = absurd (omega (arith, h))
same_reads (x ∷ s) (y ∷ t) h = rw (reads_on x s 0 t, same_reads s t (omega (arith, h))) refl

-- by these the check finds what each arm of such a match says, and that the arm of all others says the rest
pub ruleset words = (same_short, same_long, apart_0, apart_1, apart_2, apart_3, apart_4, apart_5, apart_6, same_reads)
