-- The machine that a block is read as, after a part of the block was put anew: a party, a queue, or the last answer.
use Prim.Native.Nat.{ℕ, ◌+◌, ◌≤◌, ◌<◌}
use mathlib.Core.Path.{◌≡◌, sym, ap, ◌∙◌}
use mathlib.Core.List.{List}
use mathlib.Core.Logic.{◌⊎◌, inl, inr, ⊎_elim}
use native.Mathlib.Omega.{arith}
use lib.Dec.{leb, eqb}
use lib.ListN.{length, get_or, set, drop}
use Rattle.words.specs.Word.{pick}
use Rattle.tables.specs.declared.state.Party.{Party}
use Rattle.tables.specs.declared.state.Queue.{Queue}
use Rattle.tables.specs.Machine.{stretch, restretched}
use Rattle.tables.specs.Step.{andb}
use Rattle.tables.proofs.Bases.{restretched_length, stretch_back, stretch_before, stretch_after}
use Rattle.tables.proofs.Bools.{less_or_not}
use Rattle.block.specs.Block.{seal, layout, reply_base, reply_size, party_size, queue_size, party_base, queue_base, size, party_from, queue_from, party_in, queue_in, table, is_block, machine_of}
use Rattle.block.proofs.Words.{first_in_stretch, after_kept}
use Rattle.block.proofs.Tables.{table_same, one_changed}

-- The block ys is xs with n words from `base` on replaced, none of them among the first three.
pub record Filed (xs ys ws : List ℕ) (base n : ℕ) : Type 0 where
  pub is : ys ≡ restretched base n ws xs
  pub full : length ws ≡ n
  pub fits : base + n ≤ length xs
  pub past : 3 ≤ base

module _ {xs ys ws : List ℕ} {base n : ℕ} (f : Filed xs ys ws base n) where
  pub long_kept : length ys ≡ length xs
  long_kept = ap length f.is ∙ restretched_length base n xs ws f.fits f.full

  pub here : stretch base n ys ≡ ws
  here = ap (stretch base n) f.is ∙ stretch_back base n xs ws f.fits f.full

  pub elsewhere : (at k : ℕ) → (at + k ≤ base) ⊎ (base + n ≤ at) → stretch at k ys ≡ stretch at k xs
  elsewhere at k h =
      ap (stretch at k) f.is
      ∙ ⊎_elim (λ b. stretch_before base n xs ws f.fits f.full at k b) (λ a. stretch_after base n xs ws f.fits f.full at k a) h

  pub first_words_kept : stretch 0 reply_base ys ≡ stretch 0 reply_base xs
  first_words_kept = elsewhere 0 reply_base (inl f.past)

  pub beyond_kept : (k : ℕ) → base + n ≤ k → drop k ys ≡ drop k xs
  beyond_kept k h = ap (drop k) f.is ∙ after_kept base n xs ws f.fits f.full k h

  pub head_kept : (j : ℕ) → j < 3 → get_or ys j 0 ≡ get_or xs j 0
  head_kept j h =
      first_in_stretch ys j 1 (omega arith) ∙ ap (λ (l : List ℕ). get_or l 0 0) (elsewhere j 1 (inl (omega (arith, f.past))))
      ∙ sym (first_in_stretch xs j 1 (omega arith))

  pub block_kept : (most : ℕ) → is_block most ys ≡ is_block most xs
  unfolding is_block
  block_kept most = λ i. andb (leb (size most) (long_kept i)) (andb (eqb (head_kept 0 (omega arith) i) seal) (andb (eqb (head_kept 1 (omega arith) i) layout) (leb (head_kept 2 (omega arith) i) most)))

  module _ (w most : ℕ) where
    -- the tables that the new words are read as give the machine
    changed : {ps : List Party} {qs : List Queue} → table (party_in w ys) 0 most ≡ ps → table (queue_in w most ys) 0 most ≡ qs
        → machine_of w most ys ≡ record { parties = (machine_of w most xs).parties; party = ps; queue = qs }
    unfolding machine_of
    changed ep eq = λ i. record {
      parties = pick (block_kept most i) (head_kept 2 (omega arith) i) 0;
      party = ep i;
      queue = eq i;
    }

    -- the parties, where none was filed
    parties_kept : ((i : ℕ) → i < most → (party_base i + party_size ≤ base) ⊎ (base + n ≤ party_base i)) → table (party_in w ys) 0 most ≡ (machine_of w most xs).party
    unfolding machine_of
    parties_kept apart = table_same (party_in w xs) (party_in w ys) 0 most (λ i a b. ap (party_from w) (elsewhere (party_base i) party_size (apart i (omega arith))))

    queues_kept : ((i : ℕ) → i < most → (queue_base most i + queue_size ≤ base) ⊎ (base + n ≤ queue_base most i)) → table (queue_in w most ys) 0 most ≡ (machine_of w most xs).queue
    unfolding machine_of
    queues_kept apart = table_same (queue_in w most xs) (queue_in w most ys) 0 most (λ i a b. ap (queue_from w) (elsewhere (queue_base most i) queue_size (apart i (omega arith))))

-- two parties, two queues, a party and a queue stand apart
pub seats_apart : (i j : ℕ) → (j ≡ i → ⊥) → (party_base j + party_size ≤ party_base i) ⊎ (party_base i + party_size ≤ party_base j)
seats_apart i j ne = ⊎_elim (λ h. inl (omega arith)) (λ h. inr (omega (arith, ne))) (less_or_not j i)

pub queues_apart : (most i j : ℕ) → (j ≡ i → ⊥) → (queue_base most j + queue_size ≤ queue_base most i) ⊎ (queue_base most i + queue_size ≤ queue_base most j)
queues_apart most i j ne = ⊎_elim (λ h. inl (omega arith)) (λ h. inr (omega (arith, ne))) (less_or_not j i)

module _ (w most : ℕ) (xs : List ℕ) where
  pub party_filed : {ys ws : List ℕ} (i : ℕ) → i < most → Filed xs ys ws (party_base i) party_size → (p : Party) → party_from w ws ≡ p
      → machine_of w most ys ≡ record {
        parties = (machine_of w most xs).parties;
        party = set (machine_of w most xs).party i p;
        queue = (machine_of w most xs).queue;
      }
  unfolding machine_of
  party_filed {ys} {ws} i h f p e =
      changed f w most
      (one_changed (party_in w xs) (party_in w ys) p most i h (ap (party_from w) (here f) ∙ e)
      (λ j ne. ap (party_from w) (elsewhere f (party_base j) party_size (seats_apart i j ne))))
      (queues_kept f w most (λ j a. inr (omega arith)))

  pub queue_filed : {ys ws : List ℕ} (i : ℕ) → i < most → Filed xs ys ws (queue_base most i) queue_size → (q : Queue) → queue_from w ws ≡ q
      → machine_of w most ys ≡ record {
        parties = (machine_of w most xs).parties;
        party = (machine_of w most xs).party;
        queue = set (machine_of w most xs).queue i q;
      }
  unfolding machine_of
  queue_filed {ys} {ws} i h f q e =
      changed f w most (parties_kept f w most (λ j a. inl (omega arith)))
      (one_changed (queue_in w most xs) (queue_in w most ys) q most i h (ap (queue_from w) (here f) ∙ e)
      (λ j ne. ap (queue_from w) (elsewhere f (queue_base most j) queue_size (queues_apart most i j ne))))

  pub reply_filed : {ys ws : List ℕ} → Filed xs ys ws reply_base reply_size → machine_of w most ys ≡ machine_of w most xs
  reply_filed f = changed f w most (parties_kept f w most (λ j a. inr (omega arith))) (queues_kept f w most (λ j a. inr (omega arith)))
