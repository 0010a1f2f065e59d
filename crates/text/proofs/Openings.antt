-- The opening lines are judged one by one as `opening` judges them together: 1 at the machine line, 7 at the queue line that asks
-- too much, and at the last queue line nothing is left but 8.
use Rattle.std.proofs.Common.{◌≡◌, ℕ, zero, suc, ◌+◌, ◌-◌, ◌^◌, ◌<◌, ◌≤◌, Bool, true, false, ltb, leb, ◌⊎◌, List, length, get_or, set, sym, refl, ◌∙◌, inl, inr, mod-eq_of_lt, arith, length-set, get_or-set_other, get_or-set_same, ltb-false, ltb-true, le-ltb, lt-ltb, le-leb}
use Rattle.words.specs.Word.{pick, orb, plus}
use Rattle.tables.specs.declared.state.Kind.{Kind}
use Rattle.tables.specs.Machine.{base_of}
use Rattle.tables.specs.Step.{andb, over_to, open_queues, open_refusal}
use Rattle.tables.specs.Step.{every_kind}
use Rattle.text.specs.declared.session.Session.{Session}
use Rattle.text.specs.Session.{machine_session, queue_asked}

-- what holds while queue lines are read
pub record Asking (w most : ℕ) (s : Session) : Type 0 where
  pub some : 0 < s.parties
  pub few : s.parties ≤ most
  pub left : s.asked < s.parties
  pub room : length s.requests ≡ most
  pub small : (i : ℕ) → i < s.asked → get_or s.requests i 0 ≤ 2 ^ (w - 1)

abbrev refusal_of : (w most : ℕ) → Session → (lent : ℕ) → ℕ
refusal_of w most s lent = open_refusal w most (every_kind most s.kind) s.parties s.requests s.positions lent

no : {A : Type 0} → true ≡ false → A
no e = absurd (let z : ◌≡◌ {A = ℕ} 0 1 = cc in omega arith)

module _ (w most : ℕ) (s : Session) (lent : ℕ) where
  -- the machine line's test is opening's first
  pub one_first : andb (ltb 0 s.parties) (leb s.parties most) ≡ false → refusal_of w most s lent ≡ 1
  unfolding open_refusal
  one_first e = rw e

  over_from : (rs : List ℕ) (n i : ℕ) → i < n → 2 ^ (w - 1) < get_or rs i 0 → over_to w rs n ≡ true
  unfolding over_to
  over_from rs zero i h k = absurd (omega arith)
  over_from rs (suc n) i h k = by (over_to w rs n) refl (ltb i n) refl (over_from rs n i)
    where
      either : (b : Bool) → orb b true ≡ true
      either true = refl
      either false = refl

      by : (b : Bool) → over_to w rs n ≡ b → (t : Bool) → ltb i n ≡ t → (i < n → 2 ^ (w - 1) < get_or rs i 0 → over_to w rs n ≡ true)
          → orb (over_to w rs n) (ltb (2 ^ (w - 1)) (get_or rs n 0)) ≡ true
      by b e true f ih = rw (ih (ltb-true i n f) k)
      by b e false f ih =
          let same : i ≡ n = omega (arith, ltb-false i n f, h) in
          rw (lt-ltb (2 ^ (w - 1)) (get_or rs n 0) (rw same at k)) (either (over_to w rs n))

  -- a queue line's test is opening's second
  pub seven_next : andb (ltb 0 s.parties) (leb s.parties most) ≡ true → (i : ℕ) → i < s.parties
      → 2 ^ (w - 1) < get_or s.requests i 0 → refusal_of w most s lent ≡ 7
  unfolding open_refusal
  seven_next e i h k = rw (e, over_from s.requests s.parties i h k)

small_over : (w : ℕ) (rs : List ℕ) (n : ℕ) → ((i : ℕ) → i < n → get_or rs i 0 ≤ 2 ^ (w - 1)) → over_to w rs n ≡ false
unfolding over_to
small_over w rs zero h = refl
small_over w rs (suc n) h = rw (small_over w rs n (λ i k. h i (omega arith)), le-ltb (2 ^ (w - 1)) (get_or rs n 0) (h n (omega arith)))

-- the machine line begins it
pub machine_asks : (w most : ℕ) (s : Session) (k : Kind) (n : ℕ) → length s.requests ≡ most
    → 0 < n → n ≤ most → Asking w most (machine_session s k n)
machine_asks w most s k n e h f = record { some = h; few = f; left = h; room = e; small = λ i z. absurd (omega arith) }

module _ (w most : ℕ) (s : Session) (a : Asking w most s) (bound : most < 2 ^ 64) (r p : ℕ) (fits : r ≤ 2 ^ (w - 1)) where
  counts : plus 64 s.asked 1 ≡ s.asked + 1
  counts = mod-eq_of_lt (omega (arith, a.left, a.few))

  all_small : (i : ℕ) → i < s.asked + 1 → get_or (set s.requests s.asked r) i 0 ≤ 2 ^ (w - 1)
  all_small i h = by (ltb i s.asked) refl
    where
      by : (t : Bool) → ltb i s.asked ≡ t → get_or (set s.requests s.asked r) i 0 ≤ 2 ^ (w - 1)
      by true e =
          let l : i < s.asked = ltb-true i s.asked e in
          rw (get_or-set_other s.requests s.asked i r 0 (λ z. omega (arith, z, l))) (a.small i l)
      by false e =
          let same : i ≡ s.asked = omega (arith, ltb-false i s.asked e, h) in
          rw (same, get_or-set_same s.requests s.asked r 0 (omega (arith, a.left, a.few, a.room))) fits

  -- a queue line that is not the last keeps it
  pub queue_asks : s.asked + 1 < s.parties → Asking w most (queue_asked s r p)
  queue_asks h = record {
    some = a.some;
    few = a.few;
    left = rw counts h;
    room = length-set s.requests s.asked r ∙ a.room;
    small = λ i k. all_small i (rw counts at k);
  }

  -- after the last one opening has 8 left, or nothing
  pub eight_last : (queue_asked s r p).asked ≡ s.parties → (lent : ℕ)
      → (refusal_of w most (queue_asked s r p) lent ≡ 0) ⊎ (refusal_of w most (queue_asked s r p) lent ≡ 8)
  unfolding open_refusal
  eight_last e lent =
      let n : s.asked + 1 ≡ s.parties = sym counts ∙ e in
      let rs = set s.requests s.asked r in
      let few : andb (ltb 0 s.parties) (leb s.parties most) ≡ true =
      rw (lt-ltb 0 s.parties a.some, le-leb s.parties most a.few)
      in
      let over : over_to w rs s.parties ≡ false = small_over w rs s.parties (λ i k. all_small i (omega (arith, k, n))) in
      rw (few, over) (either (leb (base_of s.parties (open_queues w most (every_kind most s.kind) s.parties rs (set s.positions s.asked p))) lent))
    where
      either : (t : Bool) → (◌≡◌ {A = ℕ} (pick t 0 8) 0) ⊎ (◌≡◌ {A = ℕ} (pick t 0 8) 8)
      either true = inl refl
      either false = inr refl
