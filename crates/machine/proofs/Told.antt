-- A test that refuses says by its number what comes of any outcome: taken, or refused with everything as it was.
use Prim.Native.Nat.{ℕ, zero, suc}
use mathlib.Core.Path.{◌≡◌, refl, sym, ap, ◌∙◌}
use mathlib.Core.Bool.{true≢false}
use native.Mathlib.Omega.{arith}
use mathlib.Core.List.{List}
use Rattle.std.specs.Prelude.{Result, Ok, Err, is_ok}
use Rattle.tables.specs.declared.answer.Refusal.{Refusal}
use Rattle.tables.specs.Refusal.{told, refusal_of}
use Rattle.machine.specs.declared.desk.Turn.{Turn}
use Rattle.machine.specs.Desk.{With, with, taking}

abbrev pub Test : Type 0
Test = Result (Unit {0}) Refusal

abbrev pub over : {A : Type 0} → A → Test → Result A Refusal
over y (Ok a) = Ok y
over y (Err e) = Err e

pub told_on : {A : Type 0} (k : ℕ) (y : A) {r : Test} → r ≡ told k tt → over y r ≡ told k y
told_on k y p = ap (over y) p ∙ at k
  where
    at : (k : ℕ) → over y (told k tt) ≡ told k y
    at zero = refl
    at (suc k) = refl

-- by what is told: the number is 0, or it is the refusal's
pub ok_code : {A : Type 0} (k : ℕ) (x : A) {a : A} → Ok a ≡ told k x → (k ≡ 0) × (a ≡ x)
ok_code {A = A} zero x {a} p = (refl, ap here p)
  where
    here : Result A Refusal → A
    here (Ok b) = b
    here (Err e) = a
ok_code (suc k) x p = absurd (true≢false (ap is_ok p))

pub err_code : {A : Type 0} (k : ℕ) (x : A) {e : Refusal} → Err e ≡ told k x → (k ≡ 0 → ⊥) × (e ≡ refusal_of k)
err_code zero x p = absurd (true≢false (sym (ap is_ok p)))
err_code {A = A} (suc k) x {e} p = (λ z. omega arith, ap said p)
  where
    said : Result A Refusal → Refusal
    said (Ok a) = e
    said (Err f) = f

pub told_some : {A : Type 0} (k : ℕ) (x : A) → (k ≡ 0 → ⊥) → told k x ≡ Err (refusal_of k)
told_some zero x n = absurd (n refl)
told_some (suc k) x n = refl

abbrev pub turn_over : With Turn → List ℕ → Test → With (Result Turn Refusal)
turn_over t xs (Ok a) = with (Ok t.value) t.items
turn_over t xs (Err e) = with (Err e) xs

pub taking_on : (k : ℕ) (t : With Turn) (xs : List ℕ) {r : Test} → r ≡ told k tt → turn_over t xs r ≡ taking k t xs
taking_on k t xs p = ap (turn_over t xs) p ∙ at k
  where
    at : (k : ℕ) → turn_over t xs (told k tt) ≡ taking k t xs
    at zero = refl
    at (suc k) = refl
