-- The first bytes say which rule it is, and those after them that it ends there.
use Rattle.std.proofs.Common.{[], ◌∷◌, ◌++◌, refl, ap, arith, rules}
use Rattle.std.specs.Prelude.{option_map}
use Rattle.tables.specs.declared.call.Rule.TheVariants as Rule
use Rattle.text.specs.Ascii.{ascii, same}
use Rattle.text.specs.Line.{rule_of}
use Rattle.text.proofs.Standing.{says_end, says_tab, word_four, word_byte, word_two}
use Rattle.text.proofs.quick.rule.Goals as goal

pub returns-in-1718378856 : goal.returns-in-1718378856
unfolding same
returns-in-1718378856 c =
    says_end _ _ _ (ascii "half") refl rule_of Rule.Half 47
    (word_byte _ _ _ (omega arith) c.four.ensures (ascii "half") refl refl c.in-1718378856.is 10 c.if-s-at-eq10.true)
    refl (omega arith) refl

pub returns-in-174877793 : goal.returns-in-174877793
unfolding same
returns-in-174877793 c =
    says_end _ _ _ (ascii "all") refl rule_of Rule.All 47
    (word_four _ _ _ (omega arith) c.four.ensures (ascii "all" ++ 10 ∷ []) refl refl c.in-174877793.is)
    refl (omega arith) refl

pub returns-in-1702259047 : goal.returns-in-1702259047
unfolding same
returns-in-1702259047 c =
    says_end _ _ _ (ascii "given") refl rule_of Rule.Given 47
    (word_two _ _ _ (omega arith) c.four.ensures (ascii "give") refl refl c.in-1702259047.is _ (110 ∷ 10 ∷ []) c.two.ensures refl refl
    c.if-two-eq-N_END.true)
    refl (omega arith) refl

pub returns-in_ok-k-in-1702390118 : goal.returns-in_ok-k-in-1702390118
unfolding same
returns-in_ok-k-in-1702390118 c =
    let more = c.in_ok-k-in-1702390118.ensures in
    says_tab _ _ _ (ascii "fixed") refl rule_of _ 47 41 _ _ _
    (word_two _ _ _ (omega arith) c.four.ensures (ascii "fixe") refl refl c.in-1702390118.is _ (100 ∷ 9 ∷ []) (search rules) refl refl
    c.if-two-eq-D_TAB.true)
    refl (omega arith) more (ap (option_map Rule.Fixed) more.got)
