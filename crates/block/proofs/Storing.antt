-- A whole machine written into a block, entry by entry: the block is then read as that machine.
use Prim.Native.Nat.{ℕ, zero, suc, ◌+◌, ◌≤◌, ◌<◌}
use mathlib.Core.Path.{◌≡◌, refl, sym, ap, subst, ◌∙◌}
use mathlib.Core.Bool.{true}
use mathlib.Core.List.{List}
use mathlib.Core.Logic.{inl, inr, ⊎_elim}
use native.Mathlib.Omega.{arith}
use borrow.Author.Tests.{le-leb}
use lib.ListN.{length, get_or, drop}
use lib.Seq.{ext_get_or}
use Rattle.words.specs.Edition.{width}
use Rattle.tables.specs.declared.state.Kind.TheVariants as Kind
use Rattle.tables.specs.declared.state.Machine.{Machine}
use Rattle.tables.specs.Machine.{most, party_at, queue_at, idle_party, zero_queue, stretch, restretched}
use Rattle.tables.proofs.Bases.{stretch_length, stretch_back}
use Rattle.tables.proofs.Bools.{pick_yes, equal_or_not}
use Rattle.block.specs.Block.{reply_base, reply_size, party_size, queue_size, size, party_base, queue_base, party_from, queue_from}
use Rattle.block.specs.Block.{party_in, queue_in, table, no_reply, seal_words, head_words, is_block, machine_of}
use Rattle.block.specs.Contents.{contents_in}
use Rattle.block.specs.Opening.{fresh}
use Rattle.block.proofs.Machines.{Filed, long_kept, beyond_kept, here, elsewhere, seats_apart, queues_apart}
use Rattle.block.proofs.Tables.{table_length, entry}
use Rattle.block.proofs.Words.{in_stretch, after_kept}

module _ (m : Machine) where
  abbrev head : List ℕ
  head = head_words m.parties

  -- the words before the parties
  abbrev front : ℕ
  front = party_base 0

  -- the head, and the first i parties and queues
  pub record Stored (xs : List ℕ) (i : ℕ) (ys : List ℕ) : Type 0 where
    pub long : length ys ≡ length xs
    pub beyond : drop (size most) ys ≡ drop (size most) xs
    pub head_is : stretch 0 front ys ≡ head
    pub parties : (j : ℕ) → j < i → party_in width ys j ≡ party_at m j
    pub queues : (j : ℕ) → j < i → queue_in width most ys j ≡ queue_at m j

  pub beyond_head : (xs ys : List ℕ) → size most ≤ length xs → ys ≡ restretched 0 front head xs → drop (size most) ys ≡ drop (size most) xs
  beyond_head xs ys h e = ap (drop (size most)) e ∙ after_kept 0 front xs head (omega arith) refl (size most) (omega arith)

  pub stored_none : (xs ys : List ℕ) → size most ≤ length xs → ys ≡ restretched 0 front head xs → Stored ys 0 ys
  stored_none xs ys h e = record {
    long = refl;
    beyond = refl;
    head_is = ap (stretch 0 front) e ∙ stretch_back 0 front xs head (omega arith) refl;
    parties = λ j below. absurd (omega arith);
    queues = λ j below. absurd (omega arith);
  }

  module _ {i : ℕ} {xs ys a b wp wq : List ℕ} (s : Stored xs i ys) (i-in : i < most) (fp : Filed ys a wp (party_base i) party_size) (fq : Filed a b wq (queue_base most i) queue_size)
      (p_is : party_from width wp ≡ party_at m i) (q_is : queue_from width wq ≡ queue_at m i) where
    party_more : (j : ℕ) → j < i + 1 → party_in width b j ≡ party_at m j
    party_more j h =
        ap (party_from width) (elsewhere fq (party_base j) party_size (inl (omega arith)))
        ∙ ⊎_elim {C = party_in width a j ≡ party_at m j}
        (λ e. subst (λ (x : ℕ). party_in width a x ≡ party_at m x) (sym e) (ap (party_from width) (here fp) ∙ p_is))
        (λ ne. ap (party_from width) (elsewhere fp (party_base j) party_size (seats_apart i j ne)) ∙ s.parties j (omega (arith, ne))) (equal_or_not j i)

    queue_more : (j : ℕ) → j < i + 1 → queue_in width most b j ≡ queue_at m j
    queue_more j h =
        ⊎_elim {C = queue_in width most b j ≡ queue_at m j}
        (λ e. subst (λ (x : ℕ). queue_in width most b x ≡ queue_at m x) (sym e) (ap (queue_from width) (here fq) ∙ q_is))
        (λ ne. ap (queue_from width) (elsewhere fq (queue_base most j) queue_size (queues_apart most i j ne) ∙ elsewhere fp (queue_base most j) queue_size (inr (omega arith))) ∙ s.queues j
        (omega (arith, ne)))
        (equal_or_not j i)

    pub stored_more : Stored xs (i + 1) b
    stored_more = record {
      long = long_kept fq ∙ long_kept fp ∙ s.long;
      beyond = beyond_kept fq (size most) (omega (arith, i-in)) ∙ beyond_kept fp (size most) (omega (arith, i-in)) ∙ s.beyond;
      head_is = elsewhere fq 0 front (inl (omega arith)) ∙ elsewhere fp 0 front (inl (omega arith)) ∙ s.head_is;
      parties = party_more;
      queues = queue_more;
    }

  module _ {xs ys : List ℕ} (s : Stored xs most ys) (enough : size most ≤ length xs) (few : m.parties ≤ most) (pn : length m.party ≡ most) (qn : length m.queue ≡ most) where
    at_head : (j : ℕ) → j < front → get_or ys j 0 ≡ get_or head j 0
    at_head j h = let e : j ≡ 0 + j = omega arith in ap (λ (i : ℕ). get_or ys i 0) e ∙ in_stretch ys 0 front j h ∙ ap (λ (l : List ℕ). get_or l j 0) s.head_is

    is_block_lem : is_block most ys ≡ true
    unfolding is_block
    is_block_lem =
        simp (le-leb (size most) (length ys) (omega (arith, s.long)), at_head 0 (omega arith), at_head 1 (omega arith), at_head 2 (omega arith), le-leb m.parties most few) refl

    party_table : table (party_in width ys) 0 most ≡ m.party
    party_table =
        ext_get_or idle_party _ _ (table_length (party_in width ys) 0 most ∙ sym pn)
        (λ i h. let below : i < most = subst (λ (x : ℕ). i < x) (table_length (party_in width ys) 0 most) h in
        entry (party_in width ys) most i idle_party below ∙ s.parties i below)

    queue_table : table (queue_in width most ys) 0 most ≡ m.queue
    queue_table =
        ext_get_or (zero_queue Kind.Lifo) _ _ (table_length (queue_in width most ys) 0 most ∙ sym qn)
        (λ i h. let below : i < most = subst (λ (x : ℕ). i < x) (table_length (queue_in width most ys) 0 most) h in
        entry (queue_in width most ys) most i (zero_queue Kind.Lifo) below ∙ s.queues i below)

    reply_is : stretch reply_base reply_size ys ≡ no_reply
    reply_is =
        ext_get_or 0 (stretch reply_base reply_size ys) no_reply (stretch_length reply_base reply_size ys (omega (arith, s.long)))
        (λ i h. each i (subst (λ (x : ℕ). i < x) (stretch_length reply_base reply_size ys (omega (arith, s.long))) h))
      where
        each : (i : ℕ) → i < reply_size → get_or (stretch reply_base reply_size ys) i 0 ≡ get_or no_reply i 0
        each i h =
            let e : 3 + i ≡ suc (suc (suc i)) = omega arith in
            sym (in_stretch ys reply_base reply_size i h) ∙ at_head (3 + i) (omega arith) ∙ ap (λ (j : ℕ). get_or head j 0) e

    first_is : stretch 0 reply_base ys ≡ seal_words m.parties
    first_is =
        ext_get_or 0 (stretch 0 reply_base ys) (seal_words m.parties) (stretch_length 0 reply_base ys (omega (arith, s.long)))
        (λ i h. each i (subst (λ (x : ℕ). i < x) (stretch_length 0 reply_base ys (omega (arith, s.long))) h))
      where
        each : (i : ℕ) → i < reply_base → get_or (stretch 0 reply_base ys) i 0 ≡ get_or (seal_words m.parties) i 0
        each zero h = sym (in_stretch ys 0 reply_base 0 h) ∙ at_head 0 (omega arith)
        each (suc zero) h = sym (in_stretch ys 0 reply_base 1 h) ∙ at_head 1 (omega arith)
        each (suc (suc zero)) h = sym (in_stretch ys 0 reply_base 2 h) ∙ at_head 2 (omega arith)
        each (suc (suc (suc i))) h = absurd (omega arith)

    pub stored_all : contents_in width most ys ≡ fresh (drop (size most) xs) m
    unfolding machine_of
    stored_all = λ i. record {
      machine = record {
        parties = (pick_yes (is_block most ys) (get_or ys 2 0) 0 is_block_lem ∙ at_head 2 (omega arith)) i;
        party = party_table i;
        queue = queue_table i;
      };
      reply = reply_is i;
      head = first_is i;
      beyond = s.beyond i;
    }
