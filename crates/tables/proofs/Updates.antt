-- Laws of a table with one entry changed, and of a list read as a table.
use Prim.Native.Nat.{ℕ, ◌<◌}
use mathlib.Core.Path.{◌≡◌, refl, fun_ext}
use mathlib.Core.Bool.{Bool, true, false}
use mathlib.Core.List.{List}
use borrow.Author.Tests.{eqb-true, eqb-false}
use lib.Dec.{eqb}
use lib.ListN.{length, get_or, set}
use lib.Seq.{get_or-set_same, get_or-set_other}
use Rattle.words.specs.Word.{pick}
use Rattle.tables.specs.Lists.{update}
use Rattle.tables.proofs.Bools.{pick_if}

module _ {A : Type 0} (f : ℕ → A) (i : ℕ) where
  -- an entry is the new one, at its place, or the one that was there
  pub update_elim : (v : A) (P : A → Type 0) (j : ℕ) → (j ≡ i → P v) → ((j ≡ i → ⊥) → P (f j)) → P (update f i v j)
  unfolding update
  update_elim v P j g h = pick_if P (eqb j i) (λ e. g (eqb-true j i e)) (λ e. h (eqb-false j i e))

  pub update_same : (v : A) → update f i v i ≡ v
  update_same v = update_elim v (λ (x : A). x ≡ v) i (λ e. refl) (λ n. absurd (n refl))

  pub update_other : (v : A) (j : ℕ) → (j ≡ i → ⊥) → update f i v j ≡ f j
  update_other v j n = update_elim v (λ (x : A). x ≡ f j) j (λ e. absurd (n e)) (λ n. refl)

  pub update_twice : (u v : A) → update (update f i u) i v ≡ update f i v
  unfolding update
  update_twice u v = fun_ext (λ j. at (eqb j i) (f j))
    where
      at : (t : Bool) (x : A) → pick t v (pick t u x) ≡ pick t v x
      at true x = refl
      at false x = refl

  -- what holds of the new entry, and of the one that was there, holds of the entry
  pub update_if : (P : A → Type 0) (v : A) (j : ℕ) → (j ≡ i → P v) → P (f j) → P (update f i v j)
  update_if P v j g h = update_elim v P j g (λ n. h)

-- a list with one entry set
pub list_update : {A : Type 0} (d : A) (t : List A) (i : ℕ) (v : A) → i < length t → (j : ℕ)
    → get_or (set t i v) j d ≡ update (λ (z : ℕ). get_or t z d) i v j
list_update {A} d t i v lt j =
    update_elim (λ (z : ℕ). get_or t z d) i v (λ (x : A). get_or (set t i v) j d ≡ x) j (λ e. rw e (get_or-set_same t i v d lt))
    (λ n. get_or-set_other t i j v d n)
