-- The end of the word, the party, a tab and the call.
use Rattle.std.proofs.Common.{[], ◌∷◌, refl, arith}
use Rattle.text.specs.Ascii.{ascii}
use Rattle.text.proofs.Standing.{then_two, call_said, begin_line_lem}
use Rattle.text.proofs.quick.begin.Goals as goal

pub returns : goal.returns
returns c =
    let count = c.in_ok-party.ensures in
    begin_line_lem _ _ _ 59 _ _
    (then_two _ _ _ (ascii "begi") (110 ∷ 9 ∷ []) (omega arith) c.requires.stands c.two.ensures refl refl c.if-two-ne-N_TAB.false) (omega arith)
    (call_said _ _ _ _ count (omega (arith, count.near)) _ _ c.if-s-end-ne9.false c.in_ok-call.ensures)
