-- What rests in a queue, as the code hands it on: the queue's stretch of the items, and which positions rest.
use Rattle.std.specs.Prelude.{ℕ, List}
use Rattle.words.specs.Word.{minus}
use Rattle.tables.specs.declared.state.Machine.{Machine}
use Rattle.tables.specs.Machine.{queue_at, base_of, stretch}
use Rattle.tables.specs.Lists.{tokens, head_of, tail_of}
use Rattle.machine.specs.declared.rest.Resting.{Resting}

abbrev pub resting_of : ℕ → Machine → ℕ → Resting
resting_of w m q = record {
  base = base_of q m.queue;
  capacity = (queue_at m q).capacity;
  head = head_of w (queue_at m q).kind (queue_at m q);
  count = minus w (tail_of w (queue_at m q).kind (queue_at m q)) (head_of w (queue_at m q).kind (queue_at m q));
}

-- of a queue past the table
abbrev pub nothing_rests : Resting
nothing_rests = record { base = 0; capacity = 0; head = 0; count = 0 }

abbrev pub tokens_of : ℕ → Resting → (items : List ℕ) → List ℕ
tokens_of w s xs = tokens w s.capacity (stretch s.base s.capacity xs) s.head s.count
