-- What is read off a block is the machine's: its parties, a queue, where a queue's stretch starts, what rests there.
use Prim.Native.Nat.{ℕ, ◌+◌, ◌≤◌, ◌<◌}
use mathlib.Core.Path.{◌≡◌, refl, sym, ◌∙◌}
use mathlib.Core.Bool.{Bool, true, false}
use mathlib.Core.List.{List, []}
use Rattle.std.specs.Prelude.{Some, None}
use native.Mathlib.Omega.{arith}
use borrow.Author.Tests.{lt-ltb, le-ltb}
use lib.Dec.{ltb}
use lib.ListN.{length, get_or, get_or-eq_default}
use Rattle.words.specs.Word.{pick}
use Rattle.tables.specs.declared.state.Kind.TheVariants as Kind
use Rattle.tables.specs.declared.state.Machine.{Machine}
use Rattle.tables.specs.Machine.{idle_party, zero_queue, party_at, queue_at, stretch}
use Rattle.tables.specs.Lists.{resting_at}
use Rattle.tables.proofs.Bools.{pick_yes, pick_no}
use Rattle.tables.proofs.Tokens.{tokens_many}
use Rattle.machine.specs.declared.rest.Resting.{Resting}
use Rattle.machine.specs.Rest.{resting_of, tokens_of}
use Rattle.block.specs.Block.{reply_base, reply_size, party_in, queue_in, is_block, machine_of}
use Rattle.block.specs.Look.{reply_in, rest_in}
use Rattle.block.specs.PlaceWords.{where_known}
use Rattle.block.proofs.Words.{in_stretch}
use Rattle.block.proofs.Tables.{table_length, entry}

module _ (w most : ℕ) (xs : List ℕ) where
  abbrev mm : Machine
  mm = machine_of w most xs

  pub parties_yes : is_block most xs ≡ true → mm.parties ≡ get_or xs 2 0
  unfolding machine_of
  parties_yes b = pick_yes (is_block most xs) (get_or xs 2 0) 0 b

  pub parties_no : is_block most xs ≡ false → mm.parties ≡ 0
  unfolding machine_of
  parties_no b = pick_no (is_block most xs) (get_or xs 2 0) 0 b

  -- what is read of queue q: there is some where it is a block's
  module _ {A : Type 0} (q : ℕ) (y : A) where
    pub known_there : is_block most xs ≡ true → q < get_or xs 2 0 → where_known (ltb q mm.parties) y ≡ Some y
    known_there b h = pick_yes (ltb q mm.parties) (Some y) None (lt-ltb q mm.parties (omega (arith, parties_yes b)))

    pub known_past : is_block most xs ≡ true → get_or xs 2 0 ≤ q → where_known (ltb q mm.parties) y ≡ None
    known_past b h = pick_no (ltb q mm.parties) (Some y) None (le-ltb q mm.parties (omega (arith, parties_yes b)))

    pub known_none : is_block most xs ≡ false → where_known (ltb q mm.parties) y ≡ None
    known_none b = pick_no (ltb q mm.parties) (Some y) None (le-ltb q mm.parties (omega (arith, parties_no b)))

  -- what rests there: the words alone say how many
  module _ (items : List ℕ) (q : ℕ) where
    pub many_here : length (rest_in w most xs items q) ≡ pick (ltb q mm.parties) (resting_of w mm q).count 0
    unfolding rest_in resting_at
    many_here = go (ltb q mm.parties)
      where
        go : (b : Bool) → length (pick b (resting_at w mm items q) []) ≡ pick b (resting_of w mm q).count 0
        go true = tokens_many w _ _ _ _
        go false = refl

    pub token_here : (i : ℕ)
        → get_or (rest_in w most xs items q) i 0 ≡ pick (ltb q mm.parties) (get_or (tokens_of w (resting_of w mm q) items) i 0) 0
    unfolding rest_in resting_at
    token_here i = go (ltb q mm.parties)
      where
        go : (b : Bool) → get_or (pick b (resting_at w mm items q) []) i 0 ≡ pick b (get_or (tokens_of w (resting_of w mm q) items) i 0) 0
        go true = refl
        go false = refl

  -- a party and a queue read where they stand
  pub party_here : (i : ℕ) → i < most → party_at mm i ≡ party_in w xs i
  unfolding machine_of
  party_here i h = entry (party_in w xs) most i idle_party h

  pub queue_here : (i : ℕ) → i < most → queue_at mm i ≡ queue_in w most xs i
  unfolding machine_of
  queue_here i h = entry (queue_in w most xs) most i (zero_queue Kind.Lifo) h

  pub parties_many : length mm.party ≡ most
  unfolding machine_of
  parties_many = table_length (party_in w xs) 0 most

  pub queues_many : length mm.queue ≡ most
  unfolding machine_of
  queues_many = table_length (queue_in w most xs) 0 most

-- past the count there is no token, and 0 is read
pub token_past : (w : ℕ) (s : Resting) (items : List ℕ) (i : ℕ) → s.count ≤ i → get_or (tokens_of w s items) i 0 ≡ 0
token_past w s items i p =
    get_or-eq_default (tokens_of w s items) 0 (omega (arith, tokens_many w s.capacity (stretch s.base s.capacity items) s.head s.count))

-- the last answer
pub reply_here : (most : ℕ) (xs : List ℕ) (i : ℕ) → is_block most xs ≡ true → i < reply_size
    → reply_in most xs i ≡ get_or xs (reply_base + i) 0
unfolding reply_in
reply_here most xs i b h =
    pick_yes (is_block most xs) (get_or (stretch reply_base reply_size xs) i 0) 0 b
    ∙ sym (in_stretch xs reply_base reply_size i h)

pub ruleset known = (parties_yes, known_there, known_past, known_none)
