-- Where the words of a machine stand in a lent slice, and the machine that any words are read as.
-- w is the width, `most` the party limit.
use Rattle.std.specs.Prelude.{ℕ, zero, suc, ◌+◌, ◌*◌, Bool, List, [], ◌∷◌, ◌++◌, leb, eqb, length, get_or, replicate}
use Rattle.words.specs.Word.{pick, packed, high, low}
use Rattle.tables.specs.declared.state.Drain.{Drain}
use Rattle.tables.specs.declared.state.Kind.{Kind}
use Rattle.tables.specs.declared.state.Machine.{Machine}
use Rattle.tables.specs.declared.state.Party.{Party}
use Rattle.tables.specs.declared.state.Queue.{Queue}
use Rattle.tables.specs.Machine.{stretch}
use Rattle.tables.specs.Step.{andb}
use Rattle.block.specs.declared.PlaceWords.{PlaceWords}
use Rattle.block.specs.PlaceWords.{call_words, place_words, place_read}

-- The first word of every block, by which it is told from other words: "ragnuloi" in ASCII.
abbrev pub seal : ℕ
seal = 8241982517178822505

-- The second word: the number of this layout. One that differs is another's.
abbrev pub layout : ℕ
layout = 2

-- Words 0 to 2: the seal, the layout's number, the parties. Then the last answer, then each party, then each queue.
abbrev pub reply_base : ℕ
reply_base = 3

abbrev pub reply_size : ℕ
reply_size = 17

abbrev pub party_size : ℕ
party_size = 11

abbrev pub queue_size : ℕ
queue_size = 3

abbrev pub party_base : ℕ → ℕ
party_base i = reply_base + reply_size + party_size * i

abbrev pub queue_base : (most i : ℕ) → ℕ
queue_base most i = party_base most + queue_size * i

abbrev pub size : (most : ℕ) → ℕ
size most = queue_base most most

abbrev pub kind_of : ℕ → Kind
kind_of n = pick (eqb n 0) Kind.Lifo Kind.Fifo

abbrev pub kind_number : Kind → ℕ
kind_number Kind.Lifo = 0
kind_number Kind.Fifo = 1

abbrev pub party_words : ℕ → PlaceWords → Drain → List ℕ
party_words w c d =
    c.role ∷ c.row ∷ c.call.tag ∷ c.call.rule ∷ c.call.source ∷ c.call.number ∷ c.packed ∷ packed w c.first c.second
    ∷ packed w c.third c.fourth ∷ c.fifth ∷ packed w d.at d.end ∷ []

abbrev pub words_from : ℕ → List ℕ → PlaceWords
words_from w l =
    place_words (get_or l 0 0) (get_or l 1 0) (call_words (get_or l 2 0) (get_or l 3 0) (get_or l 4 0) (get_or l 5 0)) (get_or l 6 0) (high w (get_or l 7 0))
    (low w (get_or l 7 0)) (high w (get_or l 8 0)) (low w (get_or l 8 0)) (low w (get_or l 9 0))

abbrev pub drain_from : ℕ → List ℕ → Drain
drain_from w l = record { at = high w (get_or l 10 0); end = low w (get_or l 10 0) }

abbrev pub queue_words : ℕ → Queue → List ℕ
queue_words w q = packed w q.capacity q.pushes ∷ q.packed ∷ packed w (kind_number q.kind) q.completed ∷ []

unfoldable pub party_from : ℕ → List ℕ → Party
party_from w l = record { place = place_read (words_from w l); drain = drain_from w l }

unfoldable pub queue_from : ℕ → List ℕ → Queue
queue_from w l = record {
  kind = kind_of (high w (get_or l 2 0));
  capacity = high w (get_or l 0 0);
  pushes = low w (get_or l 0 0);
  packed = get_or l 1 0;
  completed = low w (get_or l 2 0);
}

abbrev pub party_in : ℕ → List ℕ → ℕ → Party
party_in w xs i = party_from w (stretch (party_base i) party_size xs)

abbrev pub queue_in : (w most : ℕ) → List ℕ → ℕ → Queue
queue_in w most xs i = queue_from w (stretch (queue_base most i) queue_size xs)

-- n entries from entry i on
unfoldable pub table : {A : Type 0} → (ℕ → A) → (i n : ℕ) → List A
table f i zero = []
table f i (suc n) = f i ∷ table f (suc i) n

-- no answer yet: as many zeros as a reply has words
abbrev pub no_reply : List ℕ
no_reply = replicate reply_size 0

-- the first words of a block for n parties
abbrev pub seal_words : (parties : ℕ) → List ℕ
seal_words n = seal ∷ layout ∷ n ∷ []

-- the words before the parties, of a block that was just opened
abbrev pub head_words : (parties : ℕ) → List ℕ
head_words n = seal_words n ++ no_reply

unfoldable pub is_block : (most : ℕ) → List ℕ → Bool
is_block most xs =
    andb (leb (size most) (length xs)) (andb (eqb (get_or xs 0 0) seal) (andb (eqb (get_or xs 1 0) layout) (leb (get_or xs 2 0) most)))

-- Words that are no block are read as a machine without parties, which refusal 1 is for.
unfoldable pub machine_of : (w most : ℕ) → List ℕ → Machine
machine_of w most xs = record {
  parties = pick (is_block most xs) (get_or xs 2 0) 0;
  party = table (party_in w xs) 0 most;
  queue = table (queue_in w most xs) 0 most;
}
