-- Many parties and queues as tables. A party has three roles (owner of its queue, booker at its source, holder of its open drain) and
-- claims on queues; a step changes one queue x and one party p, and one lemma says who must be told what. It knows nothing of queues.
use mathlib.Core.Path.{◌≡◌, refl, sym, ap, subst, ◌∙◌}
use mathlib.Core.Logic.{◌≢◌}
use mathlib.Core.Bool.{Bool, true, false}
use Prim.Native.Nat.{ℕ}
use lib.Dec.{eqb}
use Rattle.words.specs.Word.{pick}
use Rattle.tables.specs.Lists.{update}
use Rattle.tables.proofs.Updates.{update_elim}

-- an entry's column after one entry is changed
pub column : {A B : Type 0} (f : A → B) (t : ℕ → A) (u : ℕ → B) → ((j : ℕ) → f (t j) ≡ u j) → (i : ℕ) (v : A) (w : B) → f v ≡ w
    → (j : ℕ) → f (update t i v j) ≡ update u i w j
unfolding update
column f t u h i v w e j = go (eqb j i)
  where
    go : (b : Bool) → f (pick b v (t j)) ≡ pick b w (u j)
    go true = e
    go false = h j

-- .. after it is changed twice
pub column_over : {A B : Type 0} (f : A → B) (t : ℕ → A) (i : ℕ) (u v : A) (w : B) → f v ≡ w → (j : ℕ)
    → f (update (update t i u) i v j) ≡ update (λ (z : ℕ). f (t z)) i w j
unfolding update
column_over f t i u v w e j = go (eqb j i)
  where
    go : (b : Bool) → f (pick b v (pick b u (t j))) ≡ pick b w (f (t j))
    go true = e
    go false = refl

-- .. and where the column's entry stays
pub column_s : {A B : Type 0} (f : A → B) (t : ℕ → A) (i : ℕ) (v : A) → f v ≡ f (t i) → (j : ℕ) → f (update t i v j) ≡ f (t j)
column_s {A} f t i v e j = update_elim t i v (λ (x : A). f x ≡ f (t j)) j (λ h. e ∙ ap (λ (z : ℕ). f (t z)) (sym h)) (λ _. refl)

module _ (Cell Member : Type 0) (Ok : Cell → Type 0) (src : ℕ → Member → ℕ) (Own : Member → Cell → Type 0)
    (Bkr Drn : ℕ → Member → Cell → Type 0) (Claim : ℕ → ℕ → Member → Cell → Type 0) where
  pub record Inv (cells : ℕ → Cell) (members : ℕ → Member) : Type 0 where
    pub ok : (x : ℕ) → Ok (cells x)
    pub own : (p : ℕ) → Own (members p) (cells p)
    pub bkr : (p : ℕ) → Bkr p (members p) (cells (src p (members p)))
    pub drn : (p : ℕ) → Drn p (members p) (cells p)
    pub claim : (p y : ℕ) → Claim p y (members p) (cells y)

  module _ {cells : ℕ → Cell} {members : ℕ → Member} (inv : Inv cells members) (p x : ℕ) (m' : Member) (c' : Cell) where
    -- a fact on queue y, after queue x was changed
    pub after : (P : Cell → Type 0) (y : ℕ) → (y ≡ x → P (cells x) → P c') → P (cells y) → P (update cells x c' y)
    after P y f b = update_elim cells x c' P y (λ e. f e (subst (λ (z : ℕ). P (cells z)) e b)) (λ _. b)

    pub frame : Ok c' → Own m' (update cells x c' p) → Bkr p m' (update cells x c' (src p m')) → Drn p m' (update cells x c' p)
        → ((y : ℕ) → Claim p y m' (update cells x c' y))
        → ((r : ℕ) → r ≢ p → r ≡ x → Own (members r) (cells x) → Own (members r) c')
        → ((r : ℕ) → r ≢ p → Bkr r (members r) (cells x) → Bkr r (members r) c')
        → ((r : ℕ) → r ≢ p → Drn r (members r) (cells x) → Drn r (members r) c')
        → ((r : ℕ) → r ≢ p → Claim r x (members r) (cells x) → Claim r x (members r) c')
        → Inv (update cells x c') (update members p m')
    frame okc ownp bkrp drnp claimp rely_o rely_b rely_d rely_c = record {
      ok = λ y. update_elim cells x c' Ok y (λ _. okc) (λ _. inv.ok y);
      own =
          λ r. update_elim members p m' (λ (m : Member). Own m (update cells x c' r)) r (λ e. rw e ownp)
          (λ n. after (Own (members r)) r (rely_o r n) (inv.own r));
      bkr =
          λ r. update_elim members p m' (λ (m : Member). Bkr r m (update cells x c' (src r m))) r (λ e. rw e bkrp)
          (λ n. after (Bkr r (members r)) (src r (members r)) (λ _. rely_b r n) (inv.bkr r));
      drn =
          λ r. update_elim members p m' (λ (m : Member). Drn r m (update cells x c' r)) r (λ e. rw e drnp)
          (λ n. after (Drn r (members r)) r (λ _. rely_d r n) (inv.drn r));
      claim =
          λ r y. update_elim members p m' (λ (m : Member). Claim r y m (update cells x c' y)) r (λ e. rw e (claimp y))
          (λ n. after (Claim r y (members r)) y (λ e b. subst (λ (z : ℕ). Claim r z (members r) c') (sym e) (rely_c r n (subst (λ (z : ℕ).
          Claim r z (members r) (cells x)) e b))) (inv.claim r y));
    }
