-- Laws of andb, orb and pick, and of a list with one entry set.
use Prim.Native.Nat.{ℕ, zero, suc, ◌<◌, ◌≤◌}
use mathlib.Core.Path.{◌≡◌, refl, sym}
use mathlib.Core.Bool.{Bool, true, false, true≢false}
use mathlib.Core.List.{List, [], ◌∷◌}
use mathlib.Core.Logic.{◌⊎◌, inl, inr}
use borrow.Author.Tests.{eqb-true, eqb-false, ltb-true, ltb-false}
use lib.Dec.{eqb, ltb}
use lib.ListN.{get_or, set}
use Rattle.words.specs.Word.{pick, orb}
use Rattle.tables.specs.Step.{andb}

pub and_left : (a b : Bool) → andb a b ≡ true → a ≡ true
and_left true b e = refl
and_left false b e = e

pub and_right : (a b : Bool) → andb a b ≡ true → b ≡ true
and_right true b e = e
and_right false b e = absurd (true≢false (sym e))

pub and_both : (a b : Bool) → a ≡ true → b ≡ true → andb a b ≡ true
and_both true b d e = e
and_both false b d e = d

pub neither : (a b : Bool) → orb a b ≡ false → (a ≡ false) × (b ≡ false)
neither true b e = absurd (true≢false e)
neither false b e = (refl, e)

-- what holds of both arms, each under its test, holds of the pick
pub pick_if : {A : Type 0} (P : A → Type 0) (t : Bool) {x y : A} → (t ≡ true → P x) → (t ≡ false → P y) → P (pick t x y)
pick_if P true f g = f refl
pick_if P false f g = g refl

pub pick_yes : {A : Type 0} (t : Bool) (x y : A) → t ≡ true → pick t x y ≡ x
pick_yes true x y e = refl
pick_yes false x y e = absurd (true≢false (sym e))

pub pick_no : {A : Type 0} (t : Bool) (x y : A) → t ≡ false → pick t x y ≡ y
pick_no true x y e = absurd (true≢false e)
pick_no false x y e = refl

pub equal_or_not : (a b : ℕ) → (a ≡ b) ⊎ (a ≡ b → ⊥)
equal_or_not a b = go (eqb a b) refl
  where
    go : (t : Bool) → eqb a b ≡ t → (a ≡ b) ⊎ (a ≡ b → ⊥)
    go true e = inl (eqb-true a b e)
    go false e = inr (eqb-false a b e)

pub less_or_not : (a b : ℕ) → (a < b) ⊎ (b ≤ a)
less_or_not a b = go (ltb a b) refl
  where
    go : (t : Bool) → ltb a b ≡ t → (a < b) ⊎ (b ≤ a)
    go true e = inl (ltb-true a b e)
    go false e = inr (ltb-false a b e)

-- an entry after a store is the stored one, at its place, or the one before
pub set_if : {A : Type 0} (P : A → Type 0) (l : List A) (i j : ℕ) (a d : A) → (j ≡ i → P a) → P (get_or l j d) → P (get_or (set l i a) j d)
set_if P [] i j a d f g = g
set_if P (x ∷ l) zero zero a d f g = f refl
set_if P (x ∷ l) zero (suc j) a d f g = g
set_if P (x ∷ l) (suc i) zero a d f g = g
set_if P (x ∷ l) (suc i) (suc j) a d f g = set_if P l i j a d (λ e. f (rw e)) g

-- what a stored entry shares with the one before, every entry does
pub set_keeps : {A B : Type 0} (f : A → B) (l : List A) (i j : ℕ) (a d : A) → f a ≡ f (get_or l i d)
    → f (get_or (set l i a) j d) ≡ f (get_or l j d)
set_keeps f [] i j a d e = refl
set_keeps f (x ∷ l) zero zero a d e = e
set_keeps f (x ∷ l) zero (suc j) a d e = refl
set_keeps f (x ∷ l) (suc i) zero a d e = refl
set_keeps f (x ∷ l) (suc i) (suc j) a d e = set_keeps f l i j a d e
