-- The record test party by party is the definition's, and what it finds of the starts is what the table says.
use Prim.Native.Nat.{ℕ, ◌+◌, ◌*◌, ◌^◌, ◌≤◌, ◌<◌}
use mathlib.Core.Path.{◌≡◌, refl, sym, ap, ◌∙◌}
use mathlib.Core.Bool.{Bool, true, false, true≢false}
use mathlib.Core.List.{List}
use mathlib.Core.Logic.{⊎_elim}
use native.Mathlib.Numerals.{add-one}
use native.Mathlib.Omega.{arith}
use borrow.Author.Tests.{lt-ltb, le-leb, lt-leb}
use lib.Dec.{ltb, leb}
use lib.ListN.{length, length-set, get_or, set}
use lib.Seq.{get_or-set_same, get_or-set_other}
use Rattle.words.specs.Edition.{width}
use Rattle.words.specs.Word.{pow_below}
use Rattle.tables.specs.declared.state.Machine.{Machine}
use Rattle.tables.specs.Machine.{most, queue_at, base_of}
use Rattle.tables.specs.Step.{source_at, sound_at, sound_to, sound}
use Rattle.tables.proofs.Bases.{base_more}
use Rattle.tables.proofs.Bools.{and_both, equal_or_not}
use Rattle.tables.proofs.Sound.{Sound, sound_facts}
use Rattle.machine.specs.Look.{Fit}

-- ---- what fails the test

module _ (w most : ℕ) (m : Machine) (lent : ℕ) where
  refuted : (sound w most m lent ≡ true → ⊥) → false ≡ sound w most m lent
  refuted n = at (sound w most m lent) n
    where
      at : (b : Bool) → (b ≡ true → ⊥) → false ≡ b
      at true n = absurd (n refl)
      at false n = refl

  pub none_unsound : m.parties ≡ 0 → false ≡ sound w most m lent
  none_unsound e = refuted (λ s. let f : Sound w most m lent = sound_facts w most m lent s in omega (arith, f.some))

  pub many_unsound : most < m.parties → false ≡ sound w most m lent
  many_unsound h = refuted (λ s. let f : Sound w most m lent = sound_facts w most m lent s in omega (arith, f.few))

  pub entry_unsound : (i : ℕ) → i < m.parties → false ≡ sound_at w m i → false ≡ sound w most m lent
  entry_unsound i h e = refuted (λ s. true≢false (sym (here (sound_facts w most m lent s)) ∙ sym e))
    where
      here : Sound w most m lent → sound_at w m i ≡ true
      here f =
          and_both (pow_below w (queue_at m i).capacity) _ (f.power i h)
          (and_both (ltb (source_at m i) m.parties) _ (lt-ltb _ _ (f.placed i h).source) (f.placed i h).kind)

-- ---- what the first i entries have shown

pub record Started (m : Machine) (i : ℕ) (at : List ℕ) (total : ℕ) : Type 0 where
  pub sound_is : sound_to width m i ≡ true
  pub total_is : total ≡ base_of i m.queue
  pub small : total ≤ i * 2 ^ width
  pub many : length at ≡ most
  pub starts : (j : ℕ) → j < i → get_or at j 0 ≡ base_of j m.queue
  pub parties_many : 0 < i → length m.party ≡ most
  pub queues_many : 0 < i → length m.queue ≡ most

pub started_none : (m : Machine) (at : List ℕ) → length at ≡ most → Started m 0 at 0
unfolding sound_to base_of
started_none m at l = record {
  sound_is = refl;
  total_is = refl;
  small = omega arith;
  many = l;
  starts = λ j h. absurd (omega arith);
  parties_many = λ h. absurd (omega arith);
  queues_many = λ h. absurd (omega arith);
}

pub started_more : (m : Machine) {i : ℕ} {at : List ℕ} {total capacity : ℕ} → i < most → Started m i at total → true ≡ sound_at width m i
    → capacity ≡ (queue_at m i).capacity → capacity < 2 ^ width → length m.party ≡ most → length m.queue ≡ most
    → Started m (i + 1) (set at i total) (total + capacity)
unfolding sound_to
started_more m {i} {at} {total} {capacity} h t good ec small pn qn = record {
  sound_is = rw add-one (and_both (sound_to width m i) (sound_at width m i) t.sound_is (sym good));
  total_is = rw (base_more, ec) (ap (λ (n : ℕ). n + (queue_at m i).capacity) t.total_is);
  small = omega (arith, t.small);
  many = length-set at i total ∙ t.many;
  starts = λ j l. ⊎_elim (λ q. here j q) (λ n. get_or-set_other at i j total 0 n ∙ t.starts j (omega (arith, n))) (equal_or_not j i);
  parties_many = λ _. pn;
  queues_many = λ _. qn;
}
  where
    here : (j : ℕ) → j ≡ i → get_or (set at i total) j 0 ≡ base_of j m.queue
    here j q = rw q (get_or-set_same at i total 0 (rw t.many h) ∙ t.total_is)

-- the last one shown: n is the number of parties, in range, and the loop goes to it
module _ (m : Machine) (lent : ℕ) {n i : ℕ} {at : List ℕ} {total : ℕ} (n-is : n ≡ m.parties) (some : n ≡ 0 → ⊥) (few : n ≤ most)
    (within : i ≤ n) (ends : n ≤ i) (t : Started m i at total) where
  all : i ≡ m.parties
  all = omega (arith, n-is)

  shown : sound width most m lent ≡ leb total lent
  unfolding sound
  shown =
      simp (
        lt-ltb 0 m.parties (omega (arith, n-is, some)),
        le-leb m.parties most (omega (arith, n-is)),
        rw all at t.sound_is,
        rw all at t.total_is,
      )

  pub fits_sound : total ≤ lent → true ≡ sound width most m lent
  fits_sound h = sym (shown ∙ le-leb total lent h)

  pub less_unsound : lent < total → false ≡ sound width most m lent
  less_unsound h = sym (shown ∙ lt-leb total lent h)

  pub fit_of : total ≤ lent → Fit m at lent
  fit_of h = record {
    passes = sym (fits_sound h);
    at = rw all at t.starts;
    parties_many = t.parties_many (omega (arith, some));
    queues_many = t.queues_many (omega (arith, some));
  }
