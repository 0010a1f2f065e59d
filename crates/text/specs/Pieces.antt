-- A run in turns: input in pieces of any length, output in buffers of any size. proofs/Pieces.antt shows that what is written, put
-- together, is the output of the whole input.
use Rattle.std.specs.Prelude.{ℕ, List, [], ◌∷◌, ◌++◌, take, drop}
use Rattle.text.specs.Output.{fresh}
use Rattle.text.specs.declared.run.Cursor.{Cursor}
use Rattle.text.specs.Feeding.{Flow, flow, cursor, Fed, fed_in, Rested, rests_in}

-- a piece of input, so many of the bytes that are still to come, and the room in the buffer that is lent with it
pub record Piece : Type 0 where
  pub length : ℕ
  pub room : ℕ

-- how far a run has come: the input that is still to be used, and all that was written
pub record Sofar : Type 0 where
  pub flow : Flow
  pub at : Cursor
  pub input : List ℕ
  pub written : List ℕ

abbrev pub beginning : ℕ → (items input : List ℕ) → Sofar
beginning most xs input = record { flow = flow (fresh most xs) []; at = cursor 0 0; input = input; written = [] }

abbrev pub fed_on : Sofar → Fed → Sofar
fed_on r x = record { flow = x.flow; at = r.at; input = drop x.used r.input; written = r.written ++ x.text }

-- `feed`, piece after piece
unfoldable pub in_pieces : ℕ → ℕ → Sofar → List Piece → Sofar
in_pieces w most r [] = r
in_pieces w most r (p ∷ ps) = in_pieces w most (fed_on r (fed_in w most p.room r.flow (take p.length r.input))) ps

abbrev pub rested_on : Sofar → Rested → Sofar
rested_on r x = record { flow = x.flow; at = x.at; input = r.input; written = r.written ++ x.text }

-- then `rests`, buffer after buffer
unfoldable pub in_buffers : ℕ → ℕ → Sofar → List ℕ → Sofar
in_buffers w most r [] = r
in_buffers w most r (n ∷ ns) = in_buffers w most (rested_on r (rests_in w most n r.flow r.at)) ns
