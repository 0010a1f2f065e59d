-- Claim 3: every token offered stands in the lists, is in hand, was handed out or was dropped, as often as it was offered. An offer adds one;
-- any other effect, and an answer, only moves tokens from one of these to another.
use Prim.Native.Nat.{ℕ, zero, suc, ◌+◌, ◌≤◌, ◌<◌}
use mathlib.Core.Path.{◌≡◌, refl, sym, ap, subst, ◌∙◌}
use mathlib.Core.Bool.{Bool, true, false, not, true≢false}
use mathlib.Core.List.{List, [], ◌∷◌, ◌++◌}
use native.Mathlib.Omega.{arith}
use borrow.Author.Tests.{eqb-true, ltb-true, not-true}
use lib.Dec.{eqb, leb, ltb}
use Rattle.std.specs.Prelude.{Option, Some, None}
use lib.ListN.{length, take, drop, get_or}
use Rattle.words.specs.Word.{pick}
use Rattle.tables.specs.declared.answer.Answer.{Answer}
use Rattle.tables.specs.declared.answer.Change.{Change}
use Rattle.tables.specs.declared.answer.Values.{Values}
use Rattle.tables.specs.declared.state.Kind.{Kind}
use Rattle.tables.specs.Step.{andb}
use Rattle.tables.specs.Answer.{answer_row, listed, tokens_of, handed_out}
use Rattle.tables.specs.Lists.{Holder, nobody, party, is_open, held_by, Lists, Plain, nothing_yet, update, offer, accept, pop_from, pop, book, leave, arrive, shut, on_queue, lands}
use Rattle.tables.specs.Lists.{does, is_nil, can, hand_out, in_front, Entry, did, said, Replayed, impossible, lists, replay_entry, replay_from, replay}
use Rattle.tables.proofs.Bools.{and_left, and_right, pick_if}
use Rattle.tables.proofs.Updates.{update_if}
use Rattle.agreement.specs.Counts.{one, count, standing, offers, offered}
use Rattle.agreement.proofs.Tally.{count_append, count_one, count_none, count_next, in_offer, in_accept, in_pop, in_book, in_leave, in_arrive, in_shut, on_queue_lem, on_hand, in_hand_lem, drops_out_lem}

-- with what was handed out and dropped, an effect that the lists can do adds what it offers

-- where no booking is open, nothing is booked
abbrev pub TidyLists : Lists → Type 0
TidyLists l = is_open l.holder ≡ false → l.booked ≡ []

unfoldable pub Tidy : Plain → Type 0
Tidy a = (q : ℕ) → TidyLists (a.queue q)

abbrev pub total : ℕ → Plain → ℕ → ℕ
total t a n = standing t a n + (count t a.out + count t a.gone)

filled : (l : List ℕ) → not (is_nil l) ≡ true → 0 < length l
filled [] e = absurd (true≢false (sym e))
filled (x ∷ l) e = omega arith

shut_booked : (l : List ℕ) → is_nil l ≡ true → l ≡ []
shut_booked [] e = refl
shut_booked (x ∷ l) e = absurd (true≢false (sym e))

held_open : (p : ℕ) (h : Holder) → held_by p h ≡ true → is_open h ≡ true
held_open p nobody e = e
held_open p (party q) e = refl

module _ (t n : ℕ) (ks : ℕ → Kind) (p q : ℕ) (hp : p < n) (hq : q < n) (a : Plain) (tidy : Tidy a) where
  abbrev l : Lists
  l = a.queue q

  pub total_does : (d : Change) → can p q d l ≡ true → total t (does ks p q d a) n ≡ total t a n + offers t d
  unfolding does can Tidy count
  total_does (Change.Offered u) c = omega (arith, on_queue_lem t n a q (offer u l) hq, in_offer t u l)
  total_does Change.Accepted c = omega (arith, on_queue_lem t n a q (accept l) hq, in_accept t l)
  total_does Change.Popped c =
      omega (
        arith,
        in_hand_lem t n (on_queue a q (pop (ks q) l)) p (pop_from (ks q) l.resting ∷ []) hp,
        on_queue_lem t n a q (pop (ks q) l) hq,
        in_pop t (ks q) l (filled l.resting (and_right (eqb p q) (not (is_nil l.resting)) c)),
        count_one t (pop_from (ks q) l.resting),
      )
  total_does (Change.Booked k) c =
      omega (
        arith,
        on_queue_lem t n a q (book p k l) hq,
        in_book t p k l
            (tidy q (not-true (is_open l.holder) (and_left (not (is_open l.holder)) (andb (ltb 0 k) (leb k (length l.resting))) c))),
      )
  total_does (Change.Landed k) c =
      let a₁ : Plain = on_queue a q (leave k l) in
      omega (
        arith,
        on_queue_lem t n a q (leave k l) hq,
        in_leave t k l,
        on_queue_lem t n a₁ p (arrive (take k l.booked) (a₁.queue p)) hp,
        in_arrive t (take k l.booked) (a₁.queue p),
      )
  total_does (Change.TakeLanded k) c =
      let a₁ : Plain = on_queue a q (leave (k + 1) l) in
      let v : Lists = arrive (take k l.booked) (a₁.queue p) in
      omega (
        arith,
        on_queue_lem t n a q (leave (k + 1) l) hq,
        in_leave t (k + 1) l,
        on_queue_lem t n a₁ p v hp,
        in_arrive t (take k l.booked) (a₁.queue p),
        in_hand_lem t n (on_queue a₁ p v) p (get_or l.booked k 0 ∷ []) hp,
        count_one t (get_or l.booked k 0),
        count_next t k l.booked (ltb-true _ _ (and_right (held_by p l.holder) (ltb k (length l.booked)) c)),
      )
  total_does Change.Drained c =
      omega (
        arith,
        on_queue_lem t n a q (leave 1 l) hq,
        in_leave t 1 l,
        in_hand_lem t n (on_queue a q (leave 1 l)) p (get_or l.booked 0 0 ∷ []) hp,
        count_one t (get_or l.booked 0 0),
        count_next t 0 l.booked (ltb-true _ _ (and_right (held_by p l.holder) (ltb 0 (length l.booked)) c)),
        count_none t,
      )
  total_does (Change.Dropped k) c =
      omega (
        arith,
        on_queue_lem t n a q (leave k l) hq,
        in_leave t k l,
        drops_out_lem t n (on_queue a q (leave k l)) (take k l.booked),
        count_append t a.gone (take k l.booked),
      )
  total_does Change.Closed c = omega (arith, on_queue_lem t n a q (shut l) hq, in_shut t l)

  tidy_leave : (k : ℕ) → held_by p l.holder ≡ true → (i : ℕ) → TidyLists (update a.queue q (leave k l) i)
  unfolding leave Tidy
  tidy_leave k c i =
      update_if a.queue q TidyLists (leave k l) i (λ e o. absurd (true≢false (sym (held_open p l.holder c) ∙ o))) (tidy i)

  tidy_land : (j k : ℕ) → held_by p l.holder ≡ true → (i : ℕ) → TidyLists ((lands a p q j k).queue i)
  unfolding arrive
  tidy_land j k c i =
      update_if (update a.queue q (leave k l)) p TidyLists (arrive (take j l.booked) (update a.queue q (leave k l) p)) i
      (λ e. tidy_leave k c p) (tidy_leave k c i)

  pub tidy_does : (d : Change) → can p q d l ≡ true → Tidy (does ks p q d a)
  unfolding does can Tidy offer accept pop book shut
  tidy_does (Change.Offered u) c = λ i. update_if a.queue q TidyLists (offer u l) i (λ e. tidy q) (tidy i)
  tidy_does Change.Accepted c = λ i. update_if a.queue q TidyLists (accept l) i (λ e. tidy q) (tidy i)
  tidy_does Change.Popped c = λ i. update_if a.queue q TidyLists (pop (ks q) l) i (λ e. tidy q) (tidy i)
  tidy_does (Change.Booked k) c = λ i. update_if a.queue q TidyLists (book p k l) i (λ e o. absurd (true≢false o)) (tidy i)
  tidy_does (Change.Landed k) c = tidy_land k k (and_left (held_by p l.holder) (leb k (length l.booked)) c)
  tidy_does (Change.TakeLanded k) c = tidy_land k (k + 1) (and_left (held_by p l.holder) (ltb k (length l.booked)) c)
  tidy_does Change.Drained c = tidy_leave 1 (and_left (held_by p l.holder) (ltb 0 (length l.booked)) c)
  tidy_does (Change.Dropped k) c = tidy_leave k (and_left (held_by p l.holder) (leb k (length l.booked)) c)
  tidy_does Change.Closed c =
      λ i. update_if a.queue q TidyLists (shut l) i
      (λ e o. shut_booked l.booked (and_right (held_by p l.holder) (is_nil l.booked) c)) (tidy i)

-- ---- a token handed out

listed_short : (o : Option ℕ) → length (listed o) ≤ 1
listed_short None = omega arith
listed_short (Some n) = omega arith

values_short : (v : Values) → length (tokens_of v) ≤ 1
values_short v = listed_short v.token

handed_short : (r : Answer) → length (handed_out r) ≤ 1
handed_short r =
    pick_if (λ (l : List ℕ). length l ≤ 1) (answer_row r).out (λ _. values_short (answer_row r).values) (λ _. omega arith)

module _ (t : ℕ) where
  in_front_lem : (ts h : List ℕ) → length ts ≤ 1 → in_front ts h ≡ true → count t h ≡ count t ts + count t (drop (length ts) h)
  unfolding count
  in_front_lem [] h s e = omega arith
  in_front_lem (u ∷ []) [] s e = absurd (true≢false (sym e))
  in_front_lem (u ∷ []) (x ∷ h) s e = omega (arith, ap (one t) (eqb-true u x e))
  in_front_lem (u ∷ v ∷ ts) h s e = absurd (omega arith)

  pub total_out : (n p : ℕ) → p < n → (a : Plain) (r : Answer) → in_front (handed_out r) (a.hand p) ≡ true
      → total t (hand_out p (handed_out r) a) n ≡ total t a n
  total_out n p h a r e =
      omega (
        arith,
        on_hand t n a p (drop (length (handed_out r)) (a.hand p)) (a.out ++ handed_out r) a.gone h,
        in_front_lem (handed_out r) (a.hand p) (handed_short r) e,
        count_append t a.out (handed_out r),
      )

-- ---- the whole record

-- the parties and queues that a record names are below n
abbrev pub EntryBelow : ℕ → Entry → Type 0
EntryBelow n (did e) = (e.party < n) × (e.queue < n)
EntryBelow n (said p r) = p < n

unfoldable pub Below : ℕ → List Entry → Type 0
Below n [] = Unit {0}
Below n (x ∷ l) = EntryBelow n x × Below n l

abbrev pub offered_by : ℕ → Entry → ℕ
offered_by t (did e) = offers t e.change
offered_by t (said p r) = 0

-- what an entry leaves: the tokens it offers are added, and where no booking is open, nothing is booked
pub record Adds (t n more : ℕ) (a b : Plain) : Type 0 where
  pub sum : total t b n ≡ total t a n + more
  pub tidy : Tidy b

came : (c : Bool) (x b : Plain) → pick c (lists x) impossible ≡ lists b → (c ≡ true) × (x ≡ b)
came true x b e = (refl, cc)
came false x b e = absurd (let z : ◌≡◌ {A = ℕ} 0 1 = cc in omega arith)

module _ (ks : ℕ → Kind) (t n : ℕ) where
  entry_adds : (x : Entry) (a b : Plain) → EntryBelow n x → Tidy a → replay_entry ks x a ≡ lists b → Adds t n (offered_by t x) a b
  unfolding Tidy
  entry_adds (did e) a b w tidy r =
      let k = came (can e.party e.queue e.change (a.queue e.queue)) (does ks e.party e.queue e.change a) b r in
      subst (Adds t n (offers t e.change) a) k.1
      (record {
        sum = total_does t n ks e.party e.queue w.0 w.1 a tidy e.change k.0;
        tidy = tidy_does t n ks e.party e.queue w.0 w.1 a tidy e.change k.0;
      })
  entry_adds (said p m) a b w tidy r =
      let k = came (in_front (handed_out m) (a.hand p)) (hand_out p (handed_out m) a) b r in
      subst (Adds t n 0 a) k.1 (record { sum = omega (arith, total_out t n p w a m k.0); tidy = tidy })

  none_standing : (k : ℕ) → standing t nothing_yet k ≡ 0
  unfolding standing count
  none_standing zero = refl
  none_standing (suc k) = omega (arith, none_standing k)

  offered_next : (x : Entry) (l : List Entry) → offered t (x ∷ l) ≡ offered_by t x + offered t l
  unfolding offered
  offered_next (did e) l = refl
  offered_next (said p r) l = omega arith

  record_adds : (l : List Entry) (a : Plain) → replay ks l ≡ lists a → Below n l → Adds t n (offered t l) nothing_yet a
  unfolding replay Below Tidy offered
  record_adds [] a e w = subst (Adds t n 0 nothing_yet) (came true nothing_yet a e).1 (record { sum = omega arith; tidy = λ q o. refl })
  record_adds (x ∷ l) a e w = below (λ b d. record_adds l b d w.1) (replay ks l) refl e
    where
      below : ((b : Plain) → replay ks l ≡ lists b → Adds t n (offered t l) nothing_yet b) → (r : Replayed) → replay ks l ≡ r
          → replay_from ks x r ≡ lists a → Adds t n (offered t (x ∷ l)) nothing_yet a
      below ih impossible d f = absurd (let z : ◌≡◌ {A = ℕ} 0 1 = cc in omega arith)
      below ih (lists b) d f =
          let s : Adds t n (offered t l) nothing_yet b = ih b d in
          let i : Adds t n (offered_by t x) b a = entry_adds x b a w.0 s.tidy f in
          record { sum = omega (arith, s.sum, i.sum, offered_next x l); tidy = i.tidy }

  -- claim 3
  pub sum : (l : List Entry) (a : Plain) → replay ks l ≡ lists a → Below n l
      → offered t l ≡ standing t a n + (count t a.out + count t a.gone)
  sum l a e w = omega (arith, (record_adds l a e w).sum, none_standing n, count_none t)

-- where no booking is open, nothing is booked
pub record_tidy : (ks : ℕ → Kind) (n : ℕ) (l : List Entry) (a : Plain) → replay ks l ≡ lists a → Below n l → Tidy a
record_tidy ks n l a e w = (record_adds ks 0 n l a e w).tidy
