-- What the program prints.
use Rattle.std.specs.Prelude.{◌≡◌, ℕ, ◌+◌, ◌-◌, ◌≤◌, List, [], ◌∷◌, ◌++◌, length}
use Rattle.std.proofs.lemmas.List.Edits.{sets}
use Rattle.tables.specs.declared.answer.Answer.{Answer}
use Rattle.tables.specs.declared.answer.Values.{Values}
use Rattle.tables.specs.Answer.{answer_row, tokens_of, counts_of}
use Rattle.text.specs.Ascii.{ascii}
use Rattle.text.specs.Number.{decimal_of}
use Rattle.text.specs.declared.write.Out.{Out}

-- xs stands in l from `at` on, all else is as it was, and r is the place after xs
pub record Wrote (l : List ℕ) (at : ℕ) (xs : List ℕ) (l' : List ℕ) (r : ℕ) : Type 0 where
  pub bytes : l' ≡ sets l at xs
  pub after : r ≡ at + length xs

-- how many bytes more have room
abbrev pub room_of : Out → ℕ
room_of o = length o.bytes.now - o.put

abbrev pub HasRoom : Out → ℕ → Type 0
HasRoom o n = o.put + n ≤ length o.bytes.now

-- xs is written into the same buffer, after what was put
pub record Puts (o : Out) (xs : List ℕ) (o' : Out) : Type 0 where
  pub same : o'.bytes.ghost_name ≡ o.bytes.ghost_name
  pub wrote : Wrote o.bytes.now o.put xs o'.bytes.now o'.put
  pub long : length o'.bytes.now ≡ length o.bytes.now

-- a number as a field, after its tab
abbrev pub field_for : ℕ → List ℕ
field_for n = ascii "\t" ++ decimal_of n

unfoldable pub fields_for : List ℕ → List ℕ
fields_for [] = []
fields_for (n ∷ ns) = field_for n ++ fields_for ns

-- the values that an answer names, a token before a count
abbrev pub numbers_of : Values → List ℕ
numbers_of v = tokens_of v ++ counts_of v

unfoldable pub answer_of : (party : ℕ) → Answer → List ℕ
answer_of party a =
    ascii "answer" ++ (field_for party ++ (ascii "\t" ++ (ascii (answer_row a).word ++ (fields_for (numbers_of (answer_row a).values) ++ ascii "\n"))))

unfoldable pub refused_of : (line code : ℕ) → List ℕ
refused_of line code = ascii "refused" ++ (field_for line ++ (field_for code ++ ascii "\n"))

abbrev pub rest_head : (queue : ℕ) → List ℕ
rest_head queue = ascii "rest" ++ field_for queue

-- the tokens that rest in a queue, head first
unfoldable pub rest_of : (queue : ℕ) → (tokens : List ℕ) → List ℕ
rest_of queue tokens = rest_head queue ++ (fields_for tokens ++ ascii "\n")
