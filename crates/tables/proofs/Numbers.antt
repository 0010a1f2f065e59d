-- A refusal that code names has the number that the definitions gave: the enum's numbers and `refusal_of` are inverse on those there are.
use Prim.Native.Nat.{ℕ, zero, suc, ◌<◌, ◌≤◌}
use mathlib.Core.Path.{◌≡◌, refl, subst}
use mathlib.Core.Bool.{Bool}
use mathlib.Core.List.{List}
use native.Mathlib.Omega.{arith}
use lib.Dec.{eqb, ltb, leb}
use Rattle.std.specs.Prelude.{Err, Some, None}
use Rattle.tables.specs.declared.access.Access.{Access}
use Rattle.tables.specs.declared.answer.Refusal.{Refusal}
use Rattle.tables.specs.declared.call.Call.{Call}
use Rattle.tables.specs.declared.call.Mark.{Mark}
use Rattle.tables.specs.declared.place.Place.{Place}
use Rattle.tables.specs.declared.state.Kind.{Kind}
use Rattle.tables.specs.Access.{is_cas}
use Rattle.tables.specs.Machine.{base_of}
use Rattle.tables.specs.Refusal.{number_of, refusal_of, told, named}
use Rattle.tables.specs.Tables.{is_idle, wish_of, mark_fits, call_source}
use Rattle.tables.specs.Step.{andb, begin_order, step_order, alone_order, over_to, open_queues, open_refusal, Opening, opening}
use Rattle.tables.proofs.Bools.{pick_if}

pub number_back : (k : ℕ) → 0 < k → k ≤ 9 → number_of (refusal_of k) ≡ k
number_back zero p h = absurd (omega arith)
number_back (suc zero) p h = refl
number_back (suc (suc zero)) p h = refl
number_back (suc (suc (suc zero))) p h = refl
number_back (suc (suc (suc (suc zero)))) p h = refl
number_back (suc (suc (suc (suc (suc zero))))) p h = refl
number_back (suc (suc (suc (suc (suc (suc zero)))))) p h = refl
number_back (suc (suc (suc (suc (suc (suc (suc zero))))))) p h = refl
number_back (suc (suc (suc (suc (suc (suc (suc (suc zero)))))))) p h = refl
number_back (suc (suc (suc (suc (suc (suc (suc (suc (suc zero))))))))) p h = refl
number_back (suc (suc (suc (suc (suc (suc (suc (suc (suc (suc k)))))))))) p h = absurd (omega arith)

pub number_few : (e : Refusal) → number_of e ≤ 9
number_few Refusal.Record = omega arith
number_few Refusal.Party = omega arith
number_few Refusal.Busy = omega arith
number_few Refusal.Idle = omega arith
number_few Refusal.Source = omega arith
number_few Refusal.Mark = omega arith
number_few Refusal.Request = omega arith
number_few Refusal.Items = omega arith
number_few Refusal.Line = omega arith

-- what code answers where a number up to 9 is told
pub told_number : {A : Type 0} (k : ℕ) (x : A) (e : Refusal) → k ≤ 9 → told k x ≡ Err e → number_of e ≡ k
told_number zero x e h p = absurd cc
told_number (suc k) x e h p =
    let same : refusal_of (suc k) ≡ e = cc in
    subst (λ (r : Refusal). number_of r ≡ suc k) same (number_back (suc k) (omega arith) h)

-- and the orders give no other
pub begin_few : (ok : Bool) (n who : ℕ) (p : Place) (c : Call) → begin_order ok n who p c ≤ 9
begin_few ok n who p c =
    pick_if (λ (k : ℕ). k ≤ 9) ok
    (λ _. pick_if (λ (k : ℕ). k ≤ 9) (ltb who n)
    (λ _. pick_if (λ (k : ℕ). k ≤ 9) (is_idle p)
    (λ _. pick_if (λ (k : ℕ). k ≤ 9) (ltb (call_source who c) n) (λ _. omega arith) (λ _. omega arith)) (λ _. omega arith)) (λ _. omega arith))
    (λ _. omega arith)

pub step_few : (ok : Bool) (n who : ℕ) (a : Access) (mark : Mark) (p : Place) → step_order ok n who a mark p ≤ 9
step_few ok n who a mark p =
    pick_if (λ (k : ℕ). k ≤ 9) ok
    (λ _. pick_if (λ (k : ℕ). k ≤ 9) (ltb who n)
    (λ _. pick_if (λ (k : ℕ). k ≤ 9) (is_idle p) (λ _. omega arith)
    (λ _. pick_if (λ (k : ℕ). k ≤ 9) (mark_fits (wish_of p) (is_cas a) mark) (λ _. omega arith) (λ _. omega arith))) (λ _. omega arith))
    (λ _. omega arith)

pub alone_few_refusals : (ok : Bool) (n who : ℕ) (p : Place) → alone_order ok n who p ≤ 9
alone_few_refusals ok n who p =
    pick_if (λ (k : ℕ). k ≤ 9) ok
    (λ _. pick_if (λ (k : ℕ). k ≤ 9) (ltb who n) (λ _. pick_if (λ (k : ℕ). k ≤ 9) (is_idle p) (λ _. omega arith) (λ _. omega arith)) (λ _. omega arith))
    (λ _. omega arith)

-- nor does an opening
pub open_few : (w most : ℕ) (ks : List Kind) (n : ℕ) (rs ps : List ℕ) (lent : ℕ) → open_refusal w most ks n rs ps lent ≤ 9
unfolding open_refusal
open_few w most ks n rs ps lent =
    pick_if (λ (k : ℕ). k ≤ 9) (andb (ltb 0 n) (leb n most))
    (λ _. pick_if (λ (k : ℕ). k ≤ 9) (over_to w rs n) (λ _. omega arith)
    (λ _. pick_if (λ (k : ℕ). k ≤ 9) (leb (base_of n (open_queues w most ks n rs ps)) lent) (λ _. omega arith) (λ _. omega arith)))
    (λ _. omega arith)

pub opening_refusal_few : (w most : ℕ) (ks : List Kind) (n : ℕ) (rs ps : List ℕ) (lent : ℕ) → (opening w most ks n rs ps lent).refusal ≤ 9
unfolding opening
opening_refusal_few w most ks n rs ps lent =
    pick_if (λ (o : Opening). o.refusal ≤ 9) (eqb (open_refusal w most ks n rs ps lent) 0) (λ _. omega arith) (λ _. open_few w most ks n rs ps lent)

-- what code names where an opening's number is up to 9
pub named_none : (k : ℕ) → named k ≡ None → k ≡ 0
named_none zero p = refl
named_none (suc k) p = absurd cc

pub named_number : (k : ℕ) (e : Refusal) → k ≤ 9 → named k ≡ Some e → (k ≡ 0 → ⊥) × (number_of e ≡ k)
named_number zero e h p = absurd cc
named_number (suc k) e h p =
    let same : refusal_of (suc k) ≡ e = cc in
    (λ z. omega arith, subst (λ (r : Refusal). number_of r ≡ suc k) same (number_back (suc k) (omega arith) h))
