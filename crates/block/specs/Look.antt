-- What a host reads off a block. Words that are no block have no parties, so that no queue of theirs has anything to read.
use Rattle.std.specs.Prelude.{ℕ, List, [], ◌∷◌, ltb, get_or}
use Rattle.words.specs.Word.{pick}
use Rattle.tables.specs.declared.state.Queue.{Queue}
use Rattle.tables.specs.Machine.{queue_at, stretch}
use Rattle.tables.specs.Lists.{resting_at}
use Rattle.block.specs.Block.{reply_base, reply_size, is_block, machine_of}

abbrev pub queue_words_of : Queue → List ℕ
queue_words_of q = q.capacity ∷ q.pushes ∷ q.packed ∷ q.completed ∷ []

-- word i of queue q
unfoldable pub word_in : (w most : ℕ) → List ℕ → (q i : ℕ) → ℕ
word_in w most xs q i =
    pick (ltb q (machine_of w most xs).parties) (get_or (queue_words_of (queue_at (machine_of w most xs) q)) i 0) 0

-- word i of the last answer
unfoldable pub reply_in : (most : ℕ) → List ℕ → (i : ℕ) → ℕ
reply_in most xs i = pick (is_block most xs) (get_or (stretch reply_base reply_size xs) i 0) 0

-- what rests in queue q, head first
unfoldable pub rest_in : (w most : ℕ) → (xs items : List ℕ) → (q : ℕ) → List ℕ
rest_in w most xs items q = pick (ltb q (machine_of w most xs).parties) (resting_at w (machine_of w most xs) items q) []
