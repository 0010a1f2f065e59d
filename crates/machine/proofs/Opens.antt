-- The opening's loops: requests above the largest capacity, and the queues opened one by one.
use Prim.Native.Nat.{ℕ, zero, suc, ◌+◌, ◌-◌, ◌*◌, ◌^◌, ◌≤◌, ◌<◌}
use mathlib.Core.Path.{◌≡◌, refl, sym, ap, ap₂, ◌∙◌}
use mathlib.Core.Bool.{Bool, true, false}
use mathlib.Core.List.{List}
use native.Mathlib.Numerals.{add-one}
use native.Mathlib.Omega.{arith}
use borrow.Author.Tests.{lt-ltb, le-leb, lt-leb, eq-eqb, ne_eqb}
use lib.Dec.{ltb, leb, eqb}
use lib.ListN.{length, get_or, set, take}
use lib.Seq.{get_or-set_same, get_or-set_other}
use Rattle.std.specs.Prelude.{nat_lt, ◌||◌}
use Rattle.std.specs.List.{list_any}
use Rattle.std.proofs.lemmas.List.Folds.{list_any_more}
use Rattle.words.specs.Edition.{width}
use Rattle.words.specs.Word.{orb, pick}
use Rattle.tables.specs.declared.state.Kind.{Kind}
use Rattle.tables.specs.declared.state.Machine.{Machine}
use Rattle.tables.specs.declared.state.Queue.{Queue}
use Rattle.tables.specs.declared.state.Opened.{Opened}
use Rattle.tables.specs.Machine.{most, zero_queue, base_of}
use Rattle.tables.specs.Step.{over_to, open_to, open_queue, closed_queues, tables, open_queues, andb, every_kind}
use Rattle.tables.specs.Step.{open_refusal, opening, opened_as}
use Rattle.tables.specs.Refusal.{named}
use Rattle.tables.proofs.Bases.{base_more}
use Rattle.tables.proofs.Bools.{pick_yes, pick_no}
use Rattle.tables.proofs.Opening.{open_length, closed_length}

or_is : (a b : Bool) → orb a b ≡ (a || b)
or_is true b = refl
or_is false b = refl

-- one of the first n is above the largest, as a test of the list
pub over_is : (w n : ℕ) (rs : List ℕ) → n ≤ length rs → over_to w rs n ≡ list_any (λ r. nat_lt (2 ^ (w - 1)) r) (take n rs)
unfolding over_to
over_is w zero rs h = refl
over_is w (suc n) rs h =
    ap (λ (b : Bool). orb b (nat_lt (2 ^ (w - 1)) (get_or rs n 0))) (over_is w n rs (omega arith))
    ∙ or_is (list_any (λ r. nat_lt (2 ^ (w - 1)) r) (take n rs)) (nat_lt (2 ^ (w - 1)) (get_or rs n 0))
    ∙ sym (list_any_more (λ r. nat_lt (2 ^ (w - 1)) r) rs n 0 (omega arith))
    ∙ ap (λ (k : ℕ). list_any (λ r. nat_lt (2 ^ (w - 1)) r) (take k rs)) (add-one n)

-- the queues opened so far, and the sum of their capacities
module _ (w : ℕ) (ks : List Kind) (rs ps : List ℕ) (l : List Queue) where
  pub open_more : (i : ℕ) → open_to w ks rs ps (i + 1) l ≡ set (open_to w ks rs ps i l) i (open_queue w (get_or ks i Kind.Lifo) (get_or rs i 0) (get_or ps i 0))
  unfolding open_to
  open_more i = rw add-one refl

-- a queue's own store does not move its base
pub base_past : (n i : ℕ) (l : List Queue) (q : Queue) → n ≤ i → base_of n (set l i q) ≡ base_of n l
unfolding base_of
base_past zero i l q h = refl
base_past (suc n) i l q h =
    ap₂ (λ (a b : ℕ). a + b) (base_past n i l q (omega arith)) (ap (λ (x : Queue). x.capacity) (get_or-set_other l i n q (zero_queue Kind.Lifo) (λ e. omega arith)))

pub base_next_set : (i : ℕ) (l : List Queue) (q : Queue) → i < length l → base_of (i + 1) (set l i q) ≡ base_of i l + q.capacity
base_next_set i l q h =
    base_more i (set l i q) ∙ ap₂ (λ (a b : ℕ). a + b) (base_past i i l q (omega arith)) (ap (λ (x : Queue). x.capacity) (get_or-set_same l i q (zero_queue Kind.Lifo) h))

pub every_at : (n : ℕ) (k : Kind) (i : ℕ) → i < n → get_or (every_kind n k) i Kind.Lifo ≡ k
unfolding every_kind
every_at zero k i h = absurd (omega arith)
every_at (suc n) k zero h = refl
every_at (suc n) k (suc i) h = every_at n k i (omega arith)

-- what the loop keeps
pub record Filling (kind : Kind) (rs ps : List ℕ) (i : ℕ) (out : Machine) (total : ℕ) : Type 0 where
  pub is : out ≡ tables most 0 (open_to width (every_kind most kind) rs ps i (closed_queues most (every_kind most kind)))
  pub sum : total ≡ base_of i (open_to width (every_kind most kind) rs ps i (closed_queues most (every_kind most kind)))
  pub small : total ≤ i * 2 ^ width

module _ (kind : Kind) (rs ps : List ℕ) where
  abbrev ks : List Kind
  ks = every_kind most kind

  abbrev opened : ℕ → List Queue
  opened i = open_to width ks rs ps i (closed_queues most ks)

  pub filling_start : (out : Machine) → out ≡ tables most 0 (closed_queues most ks) → Filling kind rs ps 0 out 0
  unfolding open_to base_of
  filling_start out is = record { is = is; sum = refl; small = omega arith }

  pub filling_more : (i : ℕ) (out : Machine) (total : ℕ) (q : Queue) → i < most → q.capacity < 2 ^ width → q ≡ open_queue width kind (get_or rs i 0) (get_or ps i 0)
      → Filling kind rs ps i out total
      → Filling kind rs ps (i + 1) (record { parties = out.parties; party = out.party; queue = set out.queue i q }) (total + q.capacity)
  filling_more i out total q h c e f = record {
    is = rw (open_more width ks rs ps (closed_queues most ks) i)
        (ap₂ (λ (m : Machine) (x : Queue). record { parties = m.parties; party = m.party; queue = set m.queue i x }) f.is here);
    sum = rw (open_more width ks rs ps (closed_queues most ks) i)
        (ap₂ (λ (a b : ℕ). a + b) f.sum (ap (λ (x : Queue). x.capacity) here)
        ∙ sym (base_next_set i (opened i) (open_queue width (get_or ks i Kind.Lifo) (get_or rs i 0) (get_or ps i 0))
        (rw (open_length width ks rs ps i (closed_queues most ks), closed_length most ks) h)));
    small = omega (arith, f.small);
  }
    where
      here : q ≡ open_queue width (get_or ks i Kind.Lifo) (get_or rs i 0) (get_or ps i 0)
      here = e ∙ ap (λ (k : Kind). open_queue width k (get_or rs i 0) (get_or ps i 0)) (sym (every_at most kind i h))

-- ---- the refusals, test by test

module _ (w most' : ℕ) (ks : List Kind) (n : ℕ) (rs ps : List ℕ) (lent : ℕ) where
  abbrev code : ℕ
  code = open_refusal w most' ks n rs ps lent

  abbrev sums : ℕ
  sums = base_of n (open_queues w most' ks n rs ps)

  pub none_refused : n ≡ 0 → 1 ≡ code
  unfolding open_refusal
  none_refused e = rw e refl

  pub many_refused : most' < n → 1 ≡ code
  unfolding open_refusal
  many_refused h = rw (lt-leb n most' h) (at (ltb 0 n))
    where
      at : (b : Bool) → ◌≡◌ {A = ℕ} 1 (pick (andb b false) (pick (over_to w rs n) 7 (pick (leb sums lent) 0 8)) 1)
      at true = refl
      at false = refl

  module _ (some : 0 < n) (few : n ≤ most') where
    pub over_refused : over_to w rs n ≡ true → 7 ≡ code
    unfolding open_refusal
    over_refused e = simp (lt-ltb 0 n some, le-leb n most' few, e)

    pub sum_refused : over_to w rs n ≡ false → lent < sums → 8 ≡ code
    unfolding open_refusal
    sum_refused e h = simp (lt-ltb 0 n some, le-leb n most' few, e, lt-leb sums lent h)

    pub none_refusal : over_to w rs n ≡ false → sums ≤ lent → 0 ≡ code
    unfolding open_refusal
    none_refusal e h = simp (lt-ltb 0 n some, le-leb n most' few, e, le-leb sums lent h)

  pub opened_refused : {m : Machine} {c : ℕ} → m ≡ tables most' 0 (closed_queues most' ks) → c ≡ code → 0 < c
      → ◌≡◌ {A = Opened} (record { machine = m; refusal = named c }) (opened_as (opening w most' ks n rs ps lent))
  unfolding opening
  opened_refused {c = c} em ec h =
      (λ i. record { machine = em i; refusal = named (ec i) })
      ∙ ap opened_as (sym (pick_no (eqb code 0) _ _ (ne_eqb code 0 (λ e. let z : c ≡ 0 = ec ∙ e in omega arith))))

  pub opened_taken : {m : Machine} → m ≡ tables most' n (open_queues w most' ks n rs ps) → 0 ≡ code
      → ◌≡◌ {A = Opened} (record { machine = m; refusal = named 0 }) (opened_as (opening w most' ks n rs ps lent))
  unfolding opening
  opened_taken em ec =
      (λ i. record { machine = em i; refusal = named 0 }) ∙ ap opened_as (sym (pick_yes (eqb code 0) _ _ (eq-eqb code 0 (sym ec))))
