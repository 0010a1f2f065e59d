-- How often a token stands in the lists: of one queue, list by list and change by change; of all queues and hands.
use Prim.Native.Nat.{ℕ, zero, suc, ◌+◌, ◌-◌, ◌<◌}
use mathlib.Core.Path.{◌≡◌, refl, sym, ap, ap₂, ◌∙◌}
use mathlib.Core.List.{List, [], ◌∷◌, ◌++◌}
use mathlib.Core.Logic.{⊎_elim}
use native.Mathlib.Omega.{arith}
use native.Mathlib.Numerals.{add-one}
use lib.ListN.{length, take, drop, get_or, take-append-drop}
use lib.Seq.{take-suc, take-length}
use Rattle.tables.specs.declared.state.Kind.{Kind}
use Rattle.tables.specs.Lists.{Lists, Plain, update, offer, accept, pop_from, pop, book, leave, arrive, shut, on_queue, in_hand, drops_out}
use Rattle.tables.proofs.Bools.{equal_or_not}
use Rattle.tables.proofs.Updates.{update_same, update_other}
use Rattle.agreement.specs.Counts.{one, count, in_lists, standing}

-- ---- how often a token stands in a list

module _ (t : ℕ) where
  pub count_append : (a b : List ℕ) → count t (a ++ b) ≡ count t a + count t b
  unfolding count
  count_append [] b = omega arith
  count_append (u ∷ a) b = omega (arith, count_append a b)

  pub count_one : (u : ℕ) → count t (u ∷ []) ≡ one t u
  unfolding count
  count_one u = omega arith

  pub count_none : count t [] ≡ 0
  unfolding count
  count_none = refl

  pub count_split : (n : ℕ) (l : List ℕ) → count t (take n l) + count t (drop n l) ≡ count t l
  count_split n l = sym (count_append (take n l) (drop n l)) ∙ ap (count t) (take-append-drop n l)

  pub count_next : (n : ℕ) (l : List ℕ) → n < length l → count t (take (n + 1) l) ≡ count t (take n l) + one t (get_or l n 0)
  count_next n l h =
      ap (λ (k : ℕ). count t (take k l)) (add-one n) ∙ ap (count t) (take-suc l n 0 h) ∙ count_append (take n l) (get_or l n 0 ∷ [])
      ∙ ap (λ (k : ℕ). count t (take n l) + k) (count_one (get_or l n 0))

  -- ---- one queue's lists

  pub in_offer : (u : ℕ) (l : Lists) → in_lists t (offer u l) ≡ in_lists t l + one t u
  unfolding offer
  in_offer u l = omega (arith, count_append l.waiting (u ∷ []), count_one u)

  pub in_accept : (l : Lists) → in_lists t (accept l) ≡ in_lists t l
  unfolding accept
  in_accept l = omega (arith, count_append l.resting l.waiting, count_none)

  pub in_pop : (k : Kind) (l : Lists) → 0 < length l.resting → in_lists t (pop k l) + one t (pop_from k l.resting) ≡ in_lists t l
  unfolding pop
  in_pop Kind.Lifo l h =
      let r = l.resting in
      let e : length r - 1 + 1 ≡ length r = omega arith in
      let whole : take (length r - 1 + 1) r ≡ r = ap (λ (n : ℕ). take n r) e ∙ take-length r in
      omega (arith, count_next (length r - 1) r (omega arith), ap (count t) whole)
  in_pop Kind.Fifo l h = omega (arith, count_next 0 l.resting h, count_split 1 l.resting, count_none)

  pub in_book : (p n : ℕ) (l : Lists) → l.booked ≡ [] → in_lists t (book p n l) ≡ in_lists t l
  unfolding book
  in_book p n l e = omega (arith, count_split n l.resting, ap (count t) e, count_none)

  pub in_leave : (n : ℕ) (l : Lists) → in_lists t (leave n l) + count t (take n l.booked) ≡ in_lists t l
  unfolding leave
  in_leave n l = omega (arith, count_split n l.booked)

  pub in_arrive : (ts : List ℕ) (l : Lists) → in_lists t (arrive ts l) ≡ in_lists t l + count t ts
  unfolding arrive
  in_arrive ts l = omega (arith, count_append l.resting ts)

  pub in_shut : (l : Lists) → in_lists t (shut l) ≡ in_lists t l
  unfolding shut
  in_shut l = refl

  -- ---- all queues and hands

  abbrev pub weight : Plain → ℕ → ℕ
  weight a i = in_lists t (a.queue i) + count t (a.hand i)

  pub standing_same : (a b : Plain) (n : ℕ) → ((i : ℕ) → i < n → weight b i ≡ weight a i) → standing t b n ≡ standing t a n
  unfolding standing
  standing_same a b zero e = refl
  standing_same a b (suc n) e = ap₂ (λ (x y : ℕ). x + y) (standing_same a b n (λ i h. e i (omega arith))) (e n (omega arith))

  -- one entry changed
  pub standing_change : (a b : Plain) (x n : ℕ) → x < n → ((i : ℕ) → (i ≡ x → ⊥) → weight b i ≡ weight a i)
      → standing t b n + weight a x ≡ standing t a n + weight b x
  unfolding standing
  standing_change a b x zero h e = absurd (omega arith)
  standing_change a b x (suc n) h e =
      ⊎_elim
      (λ q.
      let s : standing t b n ≡ standing t a n = standing_same a b n (λ i l. e i (λ z. absurd (omega arith))) in
      let u : weight a x ≡ weight a n = ap (weight a) q in
      let v : weight b x ≡ weight b n = ap (weight b) q in
      omega arith)
      (λ ne.
      let s : standing t b n + weight a x ≡ standing t a n + weight b x = standing_change a b x n (omega (arith, ne)) e in
      let v : weight b n ≡ weight a n = e n (λ z. ne (sym z)) in
      omega arith) (equal_or_not x n)

  module _ (n : ℕ) where
    pub on_queue_lem : (a : Plain) (q : ℕ) (v : Lists) → q < n
        → standing t (on_queue a q v) n + in_lists t (a.queue q) ≡ standing t a n + in_lists t v
    on_queue_lem a q v h =
        omega (
          arith,
          standing_change a (on_queue a q v) q n h
              (λ i ne. ap (λ (l : Lists). in_lists t l + count t (a.hand i)) (update_other a.queue q v i ne)),
          ap (in_lists t) (update_same a.queue q v),
        )

    -- a hand changed
    pub on_hand : (a : Plain) (p : ℕ) (h out gone : List ℕ) → p < n
        → standing t
        (record { queue = a.queue; hand = update a.hand p h; out = out; gone = gone }) n + count t
        (a.hand p) ≡ standing t a n + count t h
    on_hand a p h out gone l =
        omega (
          arith,
          standing_change a (record { queue = a.queue; hand = update a.hand p h; out = out; gone = gone }) p n l
              (λ i ne. ap (λ (x : List ℕ). in_lists t (a.queue i) + count t x) (update_other a.hand p h i ne)),
          ap (count t) (update_same a.hand p h),
        )

    pub in_hand_lem : (a : Plain) (p : ℕ) (ts : List ℕ) → p < n → standing t (in_hand a p ts) n ≡ standing t a n + count t ts
    in_hand_lem a p ts l = omega (arith, on_hand a p (a.hand p ++ ts) a.out a.gone l, count_append (a.hand p) ts)

    pub drops_out_lem : (a : Plain) (ts : List ℕ) → standing t (drops_out a ts) n ≡ standing t a n
    drops_out_lem a ts = standing_same a (drops_out a ts) n (λ i h. refl)
