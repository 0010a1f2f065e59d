-- The first bytes say which mark it is, and those after them that it ends there.
use Rattle.std.proofs.Common.{[], ◌∷◌, ◌++◌, refl, ap, arith}
use Rattle.std.specs.Prelude.{option_map}
use Rattle.tables.specs.declared.call.Mark.TheVariants as Mark
use Rattle.text.specs.Ascii.{ascii, same}
use Rattle.text.specs.Line.{mark_of}
use Rattle.text.proofs.Standing.{says_end, says_tab, word_four, word_byte, word_two}
use Rattle.text.proofs.quick.mark.Goals as goal

pub returns-in-174354021 : goal.returns-in-174354021
unfolding same
returns-in-174354021 c =
    says_end _ _ _ (ascii "end") refl mark_of Mark.End 47
    (word_four _ _ _ (omega arith) c.four.ensures (ascii "end" ++ 10 ∷ []) refl refl c.in-174354021.is)
    refl (omega arith) refl

pub returns-in-1801545079 : goal.returns-in-1801545079
unfolding same
returns-in-1801545079 c =
    says_end _ _ _ (ascii "weak") refl mark_of Mark.Weak 47
    (word_byte _ _ _ (omega arith) c.four.ensures (ascii "weak") refl refl c.in-1801545079.is 10 c.if-s-at-eq10.true)
    refl (omega arith) refl

pub returns-in_ok-given-in-1702259047 : goal.returns-in_ok-given-in-1702259047
unfolding same
returns-in_ok-given-in-1702259047 c =
    let more = c.in_ok-given-in-1702259047.ensures in
    says_tab _ _ _ (ascii "given") refl mark_of _ 47 41 _ _ _
    (word_two _ _ _ (omega arith) c.four.ensures (ascii "give") refl refl c.in-1702259047.is _ (110 ∷ 9 ∷ []) c.two.ensures refl refl
    c.if-two-eq-N_TAB.true)
    refl (omega arith) more (ap (option_map Mark.Carry) more.got)
