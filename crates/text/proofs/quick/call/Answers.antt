-- The first bytes say which call it is, and those after them what ends it or follows it.
use Rattle.std.proofs.Common.{[], ◌∷◌, ◌++◌, refl, ap, arith, rules}
use Rattle.std.specs.Prelude.{option_map}
use Rattle.tables.specs.declared.call.Call.TheVariants as Call
use Rattle.text.specs.Ascii.{ascii, same}
use Rattle.text.specs.Line.{call_of}
use Rattle.text.proofs.Standing.{then_byte, says_end, says_tab, word_four, word_byte, word_two}
use Rattle.text.proofs.quick.call.Goals as goal

pub returns-in_ok-token-in-1752397168 : goal.returns-in_ok-token-in-1752397168
unfolding same
returns-in_ok-token-in-1752397168 c =
    let more = c.in_ok-token-in-1752397168.ensures in
    says_tab _ _ _ (ascii "push") refl call_of _ 56 41 _ _ _
    (word_byte _ _ _ (omega arith) c.four.ensures (ascii "push") refl refl c.in-1752397168.is 9 c.if-s-at-eq9.true)
    refl (omega arith) more (ap (option_map Call.Push) more.got)

pub returns-in-175140720 : goal.returns-in-175140720
unfolding same
returns-in-175140720 c =
    says_end _ _ _ (ascii "pop") refl call_of Call.Pop 56
    (word_four _ _ _ (omega arith) c.four.ensures (ascii "pop" ++ 10 ∷ []) refl refl c.in-175140720.is)
    refl (omega arith) refl

pub returns-in_ok-source-in-1634038899 : goal.returns-in_ok-source-in-1634038899
unfolding same
returns-in_ok-source-in-1634038899 c =
    let more = c.in_ok-source-in-1634038899.ensures in
    says_tab _ _ _ (ascii "steal") refl call_of _ 56 50 _ _ _
    (word_two _ _ _ (omega arith) c.four.ensures (ascii "stea") refl refl c.in-1634038899.is _ (108 ∷ 9 ∷ []) c.two.ensures refl refl
    c.if-two-eq-L_TAB.true)
    refl (omega arith) more (ap (option_map (λ aim. Call.Steal aim.source aim.rule)) more.got)

pub returns-in-1954047342 : goal.returns-in-1954047342
unfolding same
returns-in-1954047342 c =
    says_end _ _ _ (ascii "next") refl call_of Call.Next 56
    (word_byte _ _ _ (omega arith) c.four.ensures (ascii "next") refl refl c.in-1954047342.is 10 c.if-s-at-eq10.true)
    refl (omega arith) refl

pub returns-in_ok-source-in-1701536116 : goal.returns-in_ok-source-in-1701536116
unfolding same
returns-in_ok-source-in-1701536116 c =
    let more = c.in_ok-source-in-1701536116.ensures in
    says_tab _ _ _ (ascii "take") refl call_of _ 56 50 _ _ _
    (word_byte _ _ _ (omega arith) c.four.ensures (ascii "take") refl refl c.in-1701536116.is 9 c.if-s-at-eq9-2.true)
    refl (omega arith) more (ap (option_map (λ aim. Call.Take aim.source aim.rule)) more.got)

pub returns-in-1702131813 : goal.returns-in-1702131813
unfolding same
returns-in-1702131813 c =
    says_end _ _ _ (ascii "extend") refl call_of Call.Extend 56
    (then_byte c.args.s.now c.args.at 6 10 (ascii "extend")
    (word_two _ _ _ (omega arith) c.four.ensures (ascii "exte") refl refl c.in-1702131813.is _ (110 ∷ 100 ∷ []) (search rules) refl refl
    c.if-two-eq-ND.true)
    c.if-s-at-eq10-2.true (omega arith))
    refl (omega arith) refl

pub returns-in_ok-rule-in-1767993956 : goal.returns-in_ok-rule-in-1767993956
unfolding same
returns-in_ok-rule-in-1767993956 c =
    let more = c.in_ok-rule-in-1767993956.ensures in
    says_tab _ _ _ (ascii "drain") refl call_of _ 56 47 _ _ _
    (word_two _ _ _ (omega arith) c.four.ensures (ascii "drai") refl refl c.in-1767993956.is _ (110 ∷ 9 ∷ []) (search rules) refl refl
    c.if-two-eq-N_TAB.true)
    refl (omega arith) more (ap (option_map Call.Drain) more.got)

pub returns-in-1886351972 : goal.returns-in-1886351972
unfolding same
returns-in-1886351972 c =
    says_end _ _ _ (ascii "drop") refl call_of Call.Drop 56
    (word_byte _ _ _ (omega arith) c.four.ensures (ascii "drop") refl refl c.in-1886351972.is 10 c.if-s-at-eq10-3.true)
    refl (omega arith) refl

pub returns-in-1953525093 : goal.returns-in-1953525093
unfolding same
returns-in-1953525093 c =
    says_end _ _ _ (ascii "empty") refl call_of Call.Empty 56
    (word_two _ _ _ (omega arith) c.four.ensures (ascii "empt") refl refl c.in-1953525093.is _ (121 ∷ 10 ∷ []) (search rules) refl refl
    c.if-two-eq-Y_END.true)
    refl (omega arith) refl

pub returns-in-1918988403 : goal.returns-in-1918988403
unfolding same
returns-in-1918988403 c =
    says_end _ _ _ (ascii "spare") refl call_of Call.Spare 56
    (word_two _ _ _ (omega arith) c.four.ensures (ascii "spar") refl refl c.in-1918988403.is _ (101 ∷ 10 ∷ []) (search rules) refl refl
    c.if-two-eq-E_END.true)
    refl (omega arith) refl
