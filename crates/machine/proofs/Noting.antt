-- An array of three holds the effects of a run alone: by the number of effects there are, one more noted is the list's.
use Prim.Native.Nat.{ℕ, ◌+◌, ◌≤◌, ◌<◌, ◌^◌}
use mathlib.Core.Path.{◌≡◌, refl}
use mathlib.Core.Bool.{Bool, true, false}
use mathlib.Core.List.{List, [], ◌∷◌}
use native.Mathlib.Omega.{arith}
use lib.Dec.{eqb}
use lib.ListN.{length}
use Rattle.std.specs.Prelude.{Option, Some, None}
use Rattle.words.specs.Word.{pick}
use Rattle.tables.specs.declared.answer.Effect.{Effect}
use Rattle.tables.specs.declared.answer.Effects.{Effects}
use Rattle.tables.specs.Step.{joins, merged, appended, noted, three_effects}
use Rattle.tables.proofs.Bools.{pick_if}
use Rattle.tables.proofs.Effects.{DropsMost}
use Rattle.tables.proofs.Maybe.{change_in, drops_maybe}
use Rattle.machine.specs.Note.{with', note_more, note, dropped_by, CountFits}
use Rattle.machine.specs.Desk.{Roomy}

appended_more : (l : List Effect) (e : Effect) → length l ≤ length (appended l e)
unfolding appended
appended_more [] e = omega arith
appended_more (x ∷ []) e = pick_if (λ (l : List Effect). 1 ≤ length l) (joins x e) (λ h. omega arith) (λ h. omega arith)
appended_more (x ∷ y ∷ l) e = omega (arith, appended_more (y ∷ l) e)

-- one more noted is the list's, where it comes to three at most
pub note_is : (l : List Effect) (e : Option Effect) → length (noted l e) ≤ 3 → note (three_effects l) e ≡ three_effects (noted l e)
unfolding appended
note_is l None h = refl
note_is l (Some e) h = at l h
  where
    one : (j : Bool) (x : Effect)
        → pick j (with' (three_effects (x ∷ [])) 0 (merged x e) 1) (with' (three_effects (x ∷ [])) 1 e 2)
        ≡ three_effects (pick j (merged x e ∷ []) (x ∷ e ∷ []))
    one true x = refl
    one false x = refl

    two : (j : Bool) (x y : Effect)
        → pick j (with' (three_effects (x ∷ y ∷ [])) 1 (merged y e) 2) (with' (three_effects (x ∷ y ∷ [])) 2 e 3)
        ≡ three_effects (x ∷ pick j (merged y e ∷ []) (y ∷ e ∷ []))
    two true x y = refl
    two false x y = refl

    three : (j : Bool) (x y z : Effect) → length (x ∷ y ∷ pick j (merged z e ∷ []) (z ∷ e ∷ [])) ≤ 3
        → pick j (with' (three_effects (x ∷ y ∷ z ∷ [])) 2 (merged z e) 3) (three_effects (x ∷ y ∷ z ∷ []))
        ≡ three_effects (x ∷ y ∷ pick j (merged z e ∷ []) (z ∷ e ∷ []))
    three true x y z k = refl
    three false x y z k = absurd (omega arith)

    at : (l : List Effect) → length (appended l e) ≤ 3
        → pick (eqb (length l) 0) (with' (three_effects l) 0 e 1) (note_more (three_effects l) e) ≡ three_effects (appended l e)
    at [] k = refl
    at (x ∷ []) k = one (joins x e) x
    at (x ∷ y ∷ []) k = two (joins y e) x y
    at (x ∷ y ∷ z ∷ []) k = three (joins z e) x y z k
    at (x ∷ y ∷ z ∷ u ∷ l) k = absurd (omega (arith, appended_more (x ∷ y ∷ z ∷ u ∷ l) e))

-- the count of dropped ones has room for one more
pub roomy_of : (n : ℕ) (l : List Effect) → n + 1 < 2 ^ 64 → length l ≤ 3 → DropsMost n l → Roomy (three_effects l)
roomy_of n [] h few m = omega arith
roomy_of n (x ∷ []) h few m = omega (arith, m.0)
roomy_of n (x ∷ y ∷ []) h few m = omega (arith, m.1.0)
roomy_of n (x ∷ y ∷ z ∷ []) h few m = omega (arith, m.1.1.0)
roomy_of n (x ∷ y ∷ z ∷ u ∷ l) h few m = absurd (omega arith)

-- what an effect drops, by its change
pub dropped_change : (e : Option Effect) → dropped_by e ≡ drops_maybe (change_in e)
dropped_change None = refl
dropped_change (Some e) = refl

pub count_fits : (l : Effects) (e : Option Effect) → Roomy l → dropped_by e ≤ 1 → CountFits l e
count_fits l e r h = omega (arith, r)
