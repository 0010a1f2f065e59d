-- What the desk's functions put together: each part is the definition's, so the whole is.
use Prim.Native.Nat.{ℕ, ◌+◌, ◌-◌, ◌≤◌}
use mathlib.Core.Path.{◌≡◌, refl, sym, ap, subst, ◌∙◌}
use mathlib.Core.Bool.{Bool, true, false}
use mathlib.Core.List.{List, ◌++◌}
use lib.ListN.{take}
use native.Mathlib.Omega.{arith}
use lib.Seq.{drop-drop}
use borrow.Rule.Slice.PartMut.{put_mid}
use Rattle.words.specs.Word.{Pow}
use Rattle.tables.specs.declared.call.Mark.{Mark}
use Rattle.tables.specs.Machine.{stretch, restretched}
use Rattle.tables.specs.Access.{Accessed, perform}
use Rattle.tables.specs.Step.{is_weak}
use Rattle.machine.specs.declared.desk.Desk.{Desk}
use Rattle.machine.specs.declared.desk.Stretches.{Stretches}
use Rattle.machine.specs.declared.desk.Reached.{Reached}
use Rattle.machine.specs.declared.desk.Stepped.{Stepped}
use Rattle.machine.specs.Desk.{with, reach, went, desk_step, Ready}

-- the reached queue's stretch lies within the items
pub record Within (r : Reached) (lent : ℕ) : Type 0 where
  pub power : Pow r.queue.capacity
  pub fits : r.base + r.queue.capacity ≤ lent

pub ready_reach : (w : ℕ) (l : Stretches) (d : Desk) (k : Mark) (lent : ℕ) → Ready l d lent → Within (reach w l d k) lent
ready_reach w l d k lent y = at (reach w l d k).away refl
  where
    at : (a : Bool) → (reach w l d k).away ≡ a → Within (reach w l d k) lent
    at true e = record { power = rw e y.source_power; fits = rw e y.source_fits }
    at false e = record { power = rw e y.own_power; fits = rw e y.own_fits }

pub put_is : (xs : List ℕ) (base n : ℕ) (ys : List ℕ) → put_mid base n xs ys ≡ restretched base n ys xs
put_is xs base n ys = ap (λ (zs : List ℕ). take base xs ++ (ys ++ zs)) (drop-drop n base xs)

-- n is the capacity as the code has it, the end of the stretch less its start; q and seen are what the access left
pub one_is : (w : ℕ) (l : Stretches) (d : Desk) (xs : List ℕ) (k : Mark) (r : Reached) (n : ℕ) (a : Accessed) {o : Stepped}
    → r ≡ reach w l d k → n ≡ r.queue.capacity → a ≡ perform r.queue (stretch r.base n xs) r.access (is_weak k)
    → o ≡ went w l d r a → with o (put_mid r.base n xs a.slots) ≡ desk_step w l d xs k
unfolding desk_step
one_is w l d xs k r n a {o} er en ea eo =
    ap (with o) (put_is xs r.base n a.slots) ∙ simp (eo, ea, en, er)

pub size_is : (base n : ℕ) → base + n - base ≡ n
size_is base n = omega arith

pub within_of : (w : ℕ) (k : Mark) {l : Stretches} {d : Desk} {lent : ℕ} {r : Reached} → Ready l d lent → r ≡ reach w l d k → Within r lent
within_of w k {l} {d} {lent} y e = subst (λ (x : Reached). Within x lent) (sym e) (ready_reach w l d k lent y)
