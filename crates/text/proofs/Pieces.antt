-- Nothing of the pieces is seen in the bytes written: what was written and what is still to be written, put together, stay the same from
-- piece to piece and from buffer to buffer, the output at first, and at last nothing is left.
use Rattle.std.proofs.Common.{◌≡◌, ℕ, true, List, [], ◌∷◌, ◌++◌, take, sym, refl, ap, ◌∙◌, append_assoc, append-nil}
use Rattle.text.specs.Output.{lines_of, fresh, whole, lines_taken, output_of}
use Rattle.text.specs.declared.run.Cursor.{Cursor}
use Rattle.text.specs.Feeding.{fed_in, rests_in, is_written}
use Rattle.text.specs.Pieces.{Piece, Sofar, beginning, fed_on, in_pieces, rested_on, in_buffers}
use Rattle.text.proofs.Leftover.{left_feeding, fed_left, first_left}
use Rattle.text.proofs.Ending.{left_resting, last_left, rests_left, none_left}

module _ (w most : ℕ) where
  -- what was written, and what is still to be written
  abbrev fed_sum : Sofar → List ℕ
  fed_sum r = r.written ++ left_feeding w most r.flow r.input

  abbrev rest_sum : Sofar → List ℕ
  rest_sum r = r.written ++ left_resting w most r.flow r.at

  pieces_sum : (r : Sofar) (ps : List Piece) → fed_sum r ≡ fed_sum (in_pieces w most r ps)
  unfolding in_pieces
  pieces_sum r [] = refl
  pieces_sum r (p ∷ ps) =
      let x = fed_in w most p.room r.flow (take p.length r.input) in
      ap (λ (s : List ℕ). r.written ++ s) (fed_left w most p.room r.flow p.length r.input)
      ∙ sym (append_assoc r.written x.text _) ∙ pieces_sum (fed_on r x) ps

  pieces_at : (r : Sofar) (ps : List Piece) → (in_pieces w most r ps).at ≡ r.at
  unfolding in_pieces
  pieces_at r [] = refl
  pieces_at r (p ∷ ps) = pieces_at (fed_on r (fed_in w most p.room r.flow (take p.length r.input))) ps

  buffers_sum : (r : Sofar) (ns : List ℕ) → rest_sum r ≡ rest_sum (in_buffers w most r ns)
  unfolding in_buffers
  buffers_sum r [] = refl
  buffers_sum r (n ∷ ns) =
      let x = rests_in w most n r.flow r.at in
      ap (λ (s : List ℕ). r.written ++ s) (rests_left w most n r.flow r.at)
      ∙ sym (append_assoc r.written x.text _) ∙ buffers_sum (rested_on r x) ns

-- all input used and nothing left to be written: the bytes written are the output, whatever the pieces and the buffers were
pub written_whole : (w most : ℕ) (xs input : List ℕ) (pieces : List Piece) (buffers : List ℕ)
    → (in_pieces w most (beginning most xs input) pieces).input ≡ []
    → is_written (in_buffers w most (in_pieces w most (beginning most xs input) pieces) buffers).flow
    (in_buffers w most (in_pieces w most (beginning most xs input) pieces) buffers).at ≡ true
    → (in_buffers w most (in_pieces w most (beginning most xs input) pieces) buffers).written ≡ output_of w most xs input
unfolding output_of
written_whole w most xs input pieces buffers used done =
    let r = in_pieces w most (beginning most xs input) pieces in
    let q = in_buffers w most r buffers in
    sym
    (sym (first_left w most (fresh most xs) input)
    ∙ pieces_sum w most (beginning most xs input) pieces
    ∙ ap (λ (s : List ℕ). r.written ++ left_feeding w most r.flow s) used
    ∙ ap (λ (s : List ℕ). r.written ++ s) (last_left w most r.flow)
    ∙ ap (λ (c : Cursor). r.written ++ left_resting w most r.flow c) (sym (pieces_at w most (beginning most xs input) pieces))
    ∙ buffers_sum w most r buffers
    ∙ ap (λ (s : List ℕ). q.written ++ s) (none_left w most q.flow q.at done)
    ∙ append-nil q.written)

-- the output of a schedule is a function of its lines
pub output_of_lines : (w most : ℕ) (xs a b : List ℕ) → lines_of a ≡ lines_of b → output_of w most xs a ≡ output_of w most xs b
unfolding output_of
output_of_lines w most xs a b e = ap (λ (ls : List (List ℕ)). whole w most (lines_taken w most (fresh most xs) ls)) e
