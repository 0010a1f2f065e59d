-- What a step leaves: its party's record, its queue and that queue's stretch; the others as they were.
use Prim.Native.Nat.{ℕ, ◌<◌}
use mathlib.Core.Path.{◌≡◌, refl, sym, ap, ap₂, subst, ◌∙◌}
use mathlib.Core.List.{List}
use mathlib.Core.Logic.{⊎_elim}
use lib.ListN.{length, get_or, get_or-eq_default}
use lib.Seq.{get_or-set_same, set_out, get_or-set_other}
use Rattle.tables.specs.declared.access.Context.{Context}
use Rattle.tables.specs.declared.access.Seen.{Seen}
use Rattle.tables.specs.declared.call.Mark.{Mark}
use Rattle.tables.specs.declared.state.Drain.{Drain}
use Rattle.tables.specs.declared.state.Kind.TheVariants as Kind
use Rattle.tables.specs.declared.state.Machine.{Machine}
use Rattle.tables.specs.declared.state.Party.{Party}
use Rattle.tables.specs.declared.state.Queue.{Queue}
use Rattle.tables.specs.declared.place.Place.{Place}
use Rattle.tables.specs.Machine.{idle_party, party_at, zero_queue, queue_at, base_of, stretch}
use Rattle.tables.specs.Tables.{row_of}
use Rattle.tables.specs.Step.{place_at, context_of, row_at, access_at, next_at, taken, site_at, is_weak}
use Rattle.tables.proofs.Bools.{less_or_not}
use Rattle.tables.proofs.Sound.{Sound, taken_alike, bases_alike, site_below, site_fits}
use mathlib.Core.Bool.{true≢false}
use Rattle.words.specs.Word.{pow_below}
use Rattle.words.proofs.Powers.{test_zero}
use Rattle.tables.specs.Lists.{slots_at}
use Rattle.tables.proofs.Performed.{perform_keeps}
use Rattle.tables.proofs.Bases.{stretch_length, stretch_back, stretch_other}

module _ (w : ℕ) (m : Machine) (xs : List ℕ) (who : ℕ) (mark : Mark) where
  idle_next : (s : Context) (x : Seen) (p : Place) → p ≡ Place.Idle
      → (((row_of w s p).after x).place ≡ Place.Idle) × (((row_of w s p).after x).drain ≡ s.drain)
  idle_next s x p e =
      subst (λ (q : Place). (((row_of w s q).after x).place ≡ Place.Idle) × (((row_of w s q).after x).drain ≡ s.drain)) (sym e) (refl, refl)

  -- also where the table of parties has no such entry: that one is idle
  pub party_after : party_at (taken w m xs who mark).machine who
      ≡ record { place = (next_at w m xs who mark).place; drain = (next_at w m xs who mark).drain }
  unfolding taken
  party_after =
      ⊎_elim (λ h. get_or-set_same m.party who _ idle_party h)
      (λ h.
      let d : party_at m who ≡ idle_party = get_or-eq_default m.party idle_party h in
      let n = idle_next (context_of m who mark) (access_at w m xs who mark).seen (place_at m who) (ap (λ (p : Party). p.place) d) in
      ap (λ (l : List Party). get_or l who idle_party) (set_out m.party who _ h)
      ∙ d
      ∙ ap₂ (λ (p : Place) (r : Drain). record { place = p; drain = r }) (sym n.0) (sym (n.1 ∙ ap (λ (p : Party). p.drain) d)))
      (less_or_not who (length m.party))

  pub place_after : place_at (taken w m xs who mark).machine who ≡ (next_at w m xs who mark).place
  place_after = ap (λ (p : Party). p.place) party_after

  pub party_other : (p : ℕ) → (p ≡ who → ⊥) → party_at (taken w m xs who mark).machine p ≡ party_at m p
  unfolding taken
  party_other p n = get_or-set_other m.party who p _ idle_party n

  pub queue_other : (q : ℕ) → (q ≡ site_at w m who mark → ⊥) → queue_at (taken w m xs who mark).machine q ≡ queue_at m q
  unfolding taken
  queue_other q n = get_or-set_other m.queue (site_at w m who mark) q _ (zero_queue Kind.Lifo) n

-- a sound record's own queues are there: a missing one has no capacity
pub queue_there : (w most : ℕ) (m : Machine) (lent : ℕ) → Sound w most m lent → (q : ℕ) → q < m.parties → q < length m.queue
queue_there w most m lent s q h =
    ⊎_elim (λ l. l)
    (λ l.
    let e : queue_at m q ≡ zero_queue Kind.Lifo = get_or-eq_default m.queue (zero_queue Kind.Lifo) l in
    absurd (true≢false (sym (s.power q h) ∙ ap (λ (x : Queue). pow_below w x.capacity) e ∙ test_zero w)))
    (less_or_not q (length m.queue))

module _ (w most : ℕ) (m : Machine) (xs : List ℕ) (who : ℕ) (mark : Mark) (s : Sound w most m (length xs)) (here : who < m.parties) where
  pub queue_after : queue_at (taken w m xs who mark).machine (site_at w m who mark) ≡ (access_at w m xs who mark).queue
  unfolding taken
  queue_after =
      get_or-set_same m.queue (site_at w m who mark) _ (zero_queue Kind.Lifo)
      (queue_there w most m (length xs) s (site_at w m who mark) (site_below w most m xs who mark (length xs) s here))

  abbrev stretch_of : ℕ → List ℕ → List ℕ
  stretch_of q ys = stretch (base_of q m.queue) (queue_at m q).capacity ys

  -- the stretches lie where they lay
  same_stretch : (q : ℕ)
      → slots_at (taken w m xs who mark).machine (taken w m xs who mark).items q ≡ stretch_of q (taken w m xs who mark).items
  same_stretch q =
      let a = taken_alike w most m xs who mark in
      ap₂ (λ (b n : ℕ). stretch b n (taken w m xs who mark).items) (bases_alike a q) (a.capacities q)

  full : length (access_at w m xs who mark).slots ≡ (queue_at m (site_at w m who mark)).capacity
  full =
      (perform_keeps (queue_at m (site_at w m who mark)) (stretch_of (site_at w m who mark) xs) (row_at w m who mark).access
      (is_weak mark)).length_is
      ∙ stretch_length (base_of (site_at w m who mark) m.queue) (queue_at m (site_at w m who mark)).capacity xs
      (site_fits w most m xs who mark (length xs) s here)

  pub slots_after : slots_at (taken w m xs who mark).machine (taken w m xs who mark).items (site_at w m who mark)
      ≡ (access_at w m xs who mark).slots
  slots_after =
      same_stretch (site_at w m who mark)
      ∙ unfold taken in stretch_back (base_of (site_at w m who mark) m.queue) (queue_at m (site_at w m who mark)).capacity xs
      (access_at w m xs who mark).slots (site_fits w most m xs who mark (length xs) s here) full

  pub slots_other : (q : ℕ) → (site_at w m who mark ≡ q → ⊥)
      → slots_at (taken w m xs who mark).machine (taken w m xs who mark).items q ≡ slots_at m xs q
  slots_other q n = same_stretch q ∙ unfold taken in stretch_other m.queue xs (access_at w m xs who mark).slots (site_at w m who mark) q n
      (site_fits w most m xs who mark (length xs) s here) full
