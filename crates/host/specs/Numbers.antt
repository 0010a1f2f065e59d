-- Calls and marks as a host in another language names them, and what begin and step then leave.
use Rattle.std.specs.Prelude.{ℕ, Bool, List, ltb, eqb}
use Rattle.words.specs.Word.{pick}
use Rattle.tables.specs.declared.call.Act.TheVariants as Act
use Rattle.tables.specs.declared.call.Call.{Call}
use Rattle.tables.specs.declared.call.Mark.{Mark}
use Rattle.tables.specs.declared.call.Rule.{Rule}
use Rattle.block.specs.PlaceWords.{between, rule_of}
use Rattle.block.specs.Contents.{Contents, Left, left}

-- Calls: 0 push, 1 extend, 2 spare, 3 steal, 4 take, 5 drain, 6 next, 7 drop, 8 pop, 9 empty. Rules: 0 all, 1 half, 2 fixed, 3 given.
-- `number` is a push's token or a fixed rule's number; what a call does not use is not looked at.
abbrev pub has_rule : (call : ℕ) → Bool
has_rule c = between 3 6 c

abbrev pub ruled_call : (call source : ℕ) → Rule → Call
ruled_call c s r = pick (eqb c 3) (Call.Steal s r) (pick (eqb c 4) (Call.Take s r) (Call.Drain r))

abbrev pub plain_call : (call number : ℕ) → Call
plain_call c n =
    pick (eqb c 0) (Call.Push n)
    (pick (eqb c 1) Call.Extend (pick (eqb c 2) Call.Spare (pick (eqb c 6) Call.Next (pick (eqb c 7) Call.Drop (pick (eqb c 8) Call.Pop Call.Empty)))))

abbrev pub call_of : (call source rule number : ℕ) → Call
call_of c s r n = pick (has_rule c) (ruled_call c s (rule_of r n)) (plain_call c n)

abbrev pub call_known : (call rule : ℕ) → Bool
call_known c r = pick (has_rule c) (ltb r 4) (ltb c 10)

-- Marks: 0 none, 1 weak, 2 given (a number or a token), 3 end.
abbrev pub mark_of : (mark number : ℕ) → Mark
mark_of m n = pick (eqb m 0) Mark.Plain (pick (eqb m 1) Mark.Weak (pick (eqb m 2) (Mark.Carry n) Mark.End))

abbrev pub mark_known : (mark : ℕ) → Bool
mark_known m = ltb m 4

-- Numbers that name nothing are told by 100, before any refusal is looked for: it is none of document 01's.
abbrev pub malformed : Contents → List ℕ → Left
malformed h xs = record { held = h; items = xs; refusal = 100 }

unfoldable pub begun : (w most : ℕ) → Contents → List ℕ → (party call source rule number : ℕ) → Left
begun w most h xs party c s r n = pick (call_known c r) (left w most h xs party (Act.Begin (call_of c s r n))) (malformed h xs)

unfoldable pub stepped : (w most : ℕ) → Contents → List ℕ → (party mark number : ℕ) → Left
stepped w most h xs party m n = pick (mark_known m) (left w most h xs party (Act.Step (mark_of m n))) (malformed h xs)
