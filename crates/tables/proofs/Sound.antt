-- What the record test says, as facts; what no call changes; and that a step taken and a call begun keep a record sound.
use Prim.Native.Nat.{ℕ, zero, suc, ◌+◌, ◌≤◌, ◌<◌}
use mathlib.Core.Path.{◌≡◌, refl, sym, ap₂, subst, ◌∙◌}
use mathlib.Core.Bool.{true}
use mathlib.Core.List.{List}
use mathlib.Core.Logic.{⊎_elim}
use native.Mathlib.Omega.{arith}
use native.Mathlib.Nat.{eq-or-lt_of_le, le_of_suc-le-suc}
use borrow.Author.Tests.{ltb-true, leb-true, lt-ltb, le-leb}
use lib.Dec.{ltb, leb}
use lib.ListN.{length, get_or, set, length-set}
use Rattle.words.specs.Word.{pow_below}
use Rattle.tables.specs.declared.access.Context.{Context}
use Rattle.tables.specs.declared.access.Next.{Next}
use Rattle.tables.specs.declared.access.Whose.{Whose}
use Rattle.tables.specs.declared.call.Call.{Call}
use Rattle.tables.specs.declared.call.Mark.{Mark}
use Rattle.tables.specs.declared.state.Kind.{Kind}
use Rattle.tables.specs.declared.state.Machine.{Machine}
use Rattle.tables.specs.declared.state.Party.{Party}
use Rattle.tables.specs.declared.state.Queue.{Queue}
use Rattle.tables.specs.declared.place.Place.{Place}
use Rattle.tables.specs.Machine.{idle_party, zero_queue, party_at, queue_at, base_of, stretch}
use Rattle.tables.specs.Tables.{source_of, has_place, start, call_source}
use Rattle.tables.specs.Step.{andb, kind_at, sound_at, sound_to, sound, begun, place_at, source_at, context_of, row_at, site, site_at, is_weak, access_at, next_at, taken}
use Rattle.tables.proofs.Bools.{and_left, and_right, and_both, set_if, set_keeps}
use Rattle.tables.proofs.Rows.{idle_is}
use Rattle.tables.proofs.Bases.{base_same, base_within, stretch_length, restretched_length}
use Rattle.tables.proofs.Performed.{Kept, perform_keeps}
use Rattle.tables.proofs.Places.{Goes, goes}
use Rattle.tables.proofs.Starts.{Starts, starts}

-- ---- as facts

-- a party's place: its source is in range, and its kind's tables have it
pub record Placed (ks : ℕ → Kind) (parties who : ℕ) (p : Place) : Type 0 where
  pub source : source_of who p < parties
  pub kind : has_place (ks who) (ks (source_of who p)) p ≡ true

pub record Sound (w most : ℕ) (m : Machine) (lent : ℕ) : Type 0 where
  pub some : 0 < m.parties
  pub few : m.parties ≤ most
  pub power : (i : ℕ) → i < m.parties → pow_below w (queue_at m i).capacity ≡ true
  pub placed : (i : ℕ) → i < m.parties → Placed (kind_at m) m.parties i (place_at m i)
  pub fits : base_of m.parties m.queue ≤ lent

module _ (w : ℕ) (m : Machine) where
  to_each : (n : ℕ) → sound_to w m n ≡ true → (i : ℕ) → i < n → sound_at w m i ≡ true
  unfolding sound_to
  to_each zero e i h = absurd (omega arith)
  to_each (suc n) e i h =
      ⊎_elim (λ q. rw q (and_right (sound_to w m n) (sound_at w m n) e)) (λ l. to_each n (and_left (sound_to w m n) (sound_at w m n) e) i l)
      (eq-or-lt_of_le (le_of_suc-le-suc h))

  from_each : (n : ℕ) → ((i : ℕ) → i < n → sound_at w m i ≡ true) → sound_to w m n ≡ true
  unfolding sound_to
  from_each zero f = refl
  from_each (suc n) f = and_both (sound_to w m n) (sound_at w m n) (from_each n (λ i h. f i (omega arith))) (f n (omega arith))

module _ (w most : ℕ) (m : Machine) (lent : ℕ) where
  pub sound_facts : sound w most m lent ≡ true → Sound w most m lent
  unfolding sound
  sound_facts e =
      let n = m.parties in
      let e₂ : andb (leb n most) (andb (sound_to w m n) (leb (base_of n m.queue) lent)) ≡ true = and_right (ltb 0 n) _ e in
      let e₃ : andb (sound_to w m n) (leb (base_of n m.queue) lent) ≡ true = and_right (leb n most) _ e₂ in
      let each : (i : ℕ) → i < n → sound_at w m i ≡ true = to_each w m n (and_left (sound_to w m n) _ e₃) in
      record {
        some = ltb-true _ _ (and_left (ltb 0 n) _ e);
        few = leb-true _ _ (and_left (leb n most) _ e₂);
        power = λ i h. and_left (pow_below w (queue_at m i).capacity) _ (each i h);
        placed = λ i h. record {
          source = ltb-true _ _ (and_left (ltb (source_at m i) n) _ (and_right (pow_below w (queue_at m i).capacity) _ (each i h)));
          kind = and_right (ltb (source_at m i) n) _ (and_right (pow_below w (queue_at m i).capacity) _ (each i h));
        };
        fits = leb-true _ _ (and_right (sound_to w m n) _ e₃);
      }

  pub facts_sound : Sound w most m lent → sound w most m lent ≡ true
  unfolding sound
  facts_sound s =
      and_both (ltb 0 m.parties) _ (lt-ltb _ _ s.some)
      (and_both (leb m.parties most) _ (le-leb _ _ s.few)
      (and_both (sound_to w m m.parties) _
      (from_each w m m.parties (λ i h. and_both (pow_below w (queue_at m i).capacity) _ (s.power i h)
      (and_both (ltb (source_at m i) m.parties) _ (lt-ltb _ _ (s.placed i h).source) (s.placed i h).kind)))
      (le-leb _ _ s.fits)))

-- ---- what no call of the machine changes

pub record Alike (m k : Machine) : Type 0 where
  pub parties : k.parties ≡ m.parties
  pub kinds : (q : ℕ) → kind_at k q ≡ kind_at m q
  pub capacities : (q : ℕ) → (queue_at k q).capacity ≡ (queue_at m q).capacity
  pub party_length : length k.party ≡ length m.party
  pub queue_length : length k.queue ≡ length m.queue

pub alike_self : (m : Machine) → Alike m m
alike_self m = record { parties = refl; kinds = λ q. refl; capacities = λ q. refl; party_length = refl; queue_length = refl }

pub alike_after : {m k n : Machine} → Alike m k → Alike k n → Alike m n
alike_after a b = record {
  parties = b.parties ∙ a.parties;
  kinds = λ q. b.kinds q ∙ a.kinds q;
  capacities = λ q. b.capacities q ∙ a.capacities q;
  party_length = b.party_length ∙ a.party_length;
  queue_length = b.queue_length ∙ a.queue_length;
}

pub bases_alike : {m k : Machine} → Alike m k → (n : ℕ) → base_of n k.queue ≡ base_of n m.queue
bases_alike {m} {k} a n = base_same n k.queue m.queue a.capacities

-- a record alike, its parties placed, is sound too
pub sound_alike : (w most : ℕ) {m k : Machine} (lent : ℕ) → Sound w most m lent → Alike m k
    → ((i : ℕ) → i < m.parties → Placed (kind_at m) m.parties i (place_at k i)) → Sound w most k lent
sound_alike w most {m} {k} lent s a f = record {
  some = rw a.parties s.some;
  few = rw a.parties s.few;
  power = λ i h. rw (a.capacities i) (s.power i (rw a.parties at h));
  placed = λ i h. let p : Placed (kind_at m) m.parties i (place_at k i) = f i (rw a.parties at h) in
      record {
        source = rw a.parties p.source;
        kind = ap₂ (λ (x y : Kind). has_place x y (place_at k i)) (a.kinds i) (a.kinds (source_at k i)) ∙ p.kind;
      };
  fits = rw (a.parties, bases_alike a m.parties) s.fits;
}

module _ (ks : ℕ → Kind) (n who : ℕ) (here : who < n) where
  pub placed_next : {s : Context} {p : Place} {x : Next} → Placed ks n who p → Goes ks who s p x → s.kind ≡ ks who
      → s.from ≡ ks (source_of who p) → Placed ks n who x.place
  placed_next {s} {p} {x} a g k f = record {
    source = ⊎_elim (λ e. rw (idle_is x.place e) here) (λ e. rw e a.source) g.source;
    kind = g.kind k f a.kind;
  }

-- one party's place is another
placed_set : {w most : ℕ} {m : Machine} {lent : ℕ} → Sound w most m lent → (who : ℕ) (v : Party)
    → Placed (kind_at m) m.parties who v.place
    → (i : ℕ) → i < m.parties → Placed (kind_at m) m.parties i (get_or (set m.party who v) i idle_party).place
placed_set {m = m} s who v p i h =
    set_if (λ (x : Party). Placed (kind_at m) m.parties i x.place) m.party who i v idle_party
    (λ e. subst (λ (j : ℕ). Placed (kind_at m) m.parties j v.place) (sym e) p) (s.placed i h)

-- ---- a step that nothing refuses

module _ (w most : ℕ) (m : Machine) (xs : List ℕ) (who : ℕ) (mark : Mark) where
  pub taken_alike : Alike m (taken w m xs who mark).machine
  unfolding taken
  taken_alike =
      let i = site_at w m who mark in
      let slots = stretch (base_of i m.queue) (queue_at m i).capacity xs in
      let k : Kept (queue_at m i) slots (access_at w m xs who mark) =
      perform_keeps (queue_at m i) slots (row_at w m who mark).access (is_weak mark) in
      record {
        parties = refl;
        kinds = λ q. set_keeps (λ (x : Queue). x.kind) m.queue i q (access_at w m xs who mark).queue (zero_queue Kind.Lifo) k.kind;
        capacities =
            λ q. set_keeps (λ (x : Queue). x.capacity) m.queue i q (access_at w m xs who mark).queue (zero_queue Kind.Lifo) k.capacity;
        party_length = length-set m.party who _;
        queue_length = length-set m.queue i _;
      }

  -- where a step leads
  pub taken_goes : Goes (kind_at m) who (context_of m who mark) (place_at m who) (next_at w m xs who mark)
  taken_goes = goes (kind_at m) who w (context_of m who mark) (place_at m who) (access_at w m xs who mark).seen

  module _ (lent : ℕ) (s : Sound w most m lent) (here : who < m.parties) where
    pub site_below : site_at w m who mark < m.parties
    site_below = at (row_at w m who mark).whose
      where
        at : (x : Whose) → site x who (source_at m who) < m.parties
        at Whose.Own = here
        at Whose.Source = (s.placed who here).source

    -- the queue's stretch lies within the lent items
    pub site_fits : base_of (site_at w m who mark) m.queue + (queue_at m (site_at w m who mark)).capacity ≤ lent
    site_fits = omega (arith, base_within m.queue site_below, s.fits)

    pub taken_sound : Sound w most (taken w m xs who mark).machine lent
    unfolding taken
    taken_sound =
        sound_alike w most lent s taken_alike
        (placed_set s who (record { place = (next_at w m xs who mark).place; drain = (next_at w m xs who mark).drain })
        (placed_next (kind_at m) m.parties who here (s.placed who here) taken_goes refl refl))

    pub taken_length : lent ≡ length xs → length (taken w m xs who mark).items ≡ length xs
    unfolding taken
    taken_length e =
        let i = site_at w m who mark in
        let slots = stretch (base_of i m.queue) (queue_at m i).capacity xs in
        let fits : base_of i m.queue + (queue_at m i).capacity ≤ length xs = omega (arith, site_fits) in
        restretched_length (base_of i m.queue) (queue_at m i).capacity xs (access_at w m xs who mark).slots fits
        ((perform_keeps (queue_at m i) slots (row_at w m who mark).access (is_weak mark)).length_is
        ∙ stretch_length (base_of i m.queue) (queue_at m i).capacity xs fits)

-- ---- a call begun

module _ (w most : ℕ) (m : Machine) (who : ℕ) (c : Call) where
  pub begun_alike : Alike m (begun m who c)
  begun_alike =
      record { parties = refl; kinds = λ q. refl; capacities = λ q. refl; party_length = length-set m.party who _; queue_length = refl }

  pub begun_sound : (lent : ℕ) → Sound w most m lent → who < m.parties → call_source who c < m.parties → Sound w most (begun m who c) lent
  begun_sound lent s here there =
      let b : Starts (kind_at m) who c (start (kind_at m who) c) = starts (kind_at m) who (kind_at m who) refl c in
      sound_alike w most lent s begun_alike
      (placed_set s who (record { place = start (kind_at m who) c; drain = (party_at m who).drain })
      (record { source = rw b.source there; kind = b.kind }))
