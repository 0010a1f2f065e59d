-- A line of a schedule, from its bytes: document 01, "The schedule program".
use Prim.Native.String.{String}
use Rattle.std.specs.Prelude.{ℕ, ◌^◌, Bool, true, false, List, [], ◌∷◌, length, ◌==◌, nat_le, nat_lt, Option, Some, None, option_map, option_and_then, unwrap_or}
use Rattle.words.specs.Word.{pick}
use Rattle.tables.specs.declared.call.Call.{Call}
use Rattle.tables.specs.declared.call.Mark.{Mark}
use Rattle.tables.specs.declared.call.Rule.{Rule}
use Rattle.tables.specs.declared.state.Kind.{Kind}
use Rattle.text.specs.declared.Aim.{Aim}
use Rattle.text.specs.declared.Line.{Line}
use Rattle.text.specs.Ascii.{ascii, same}
use Rattle.text.specs.Number.{number_of}

-- ---- fields: each is its bytes

-- a byte before the first of some parts
unfoldable pub onto : ℕ → List (List ℕ) → List (List ℕ)
onto b [] = []
onto b (f ∷ fs) = (b ∷ f) ∷ fs

-- bytes parted at each tab
unfoldable pub parted : List ℕ → List (List ℕ)
parted [] = [] ∷ []
parted (b ∷ s) = pick (b == 9) ([] ∷ parted s) (onto b (parted s))

-- a field is this word
abbrev pub is : String → List ℕ → Bool
is word f = same f (ascii word)

-- ---- what the fields say, each kind of line by the fields after its word

abbrev pub ended : List (List ℕ) → Bool
ended [] = true
ended (f ∷ fs) = false

-- what was read, where no field is left
abbrev pub at_end : {A : Type 0} → List (List ℕ) → A → Option A
at_end fs a = pick (ended fs) (Some a) None

-- a number, and nothing after it
abbrev pub last_number : List (List ℕ) → Option ℕ
last_number [] = None
last_number (n ∷ fs) = option_and_then (at_end fs) (number_of n)

abbrev pub rule_of : List (List ℕ) → Option Rule
rule_of [] = None
rule_of (r ∷ fs) =
    pick (is "all" r) (at_end fs Rule.All)
    (pick (is "half" r) (at_end fs Rule.Half)
    (pick (is "fixed" r) (option_map Rule.Fixed (last_number fs)) (pick (is "given" r) (at_end fs Rule.Given) None)))

-- a source, then a rule
abbrev pub aim_of : List (List ℕ) → Option Aim
aim_of [] = None
aim_of (s ∷ fs) =
    option_and_then (λ source. option_map (λ rule. record { source = source; rule = rule }) (rule_of fs)) (number_of s)

abbrev pub call_of : List (List ℕ) → Option Call
call_of [] = None
call_of (c ∷ fs) =
    pick (is "push" c) (option_map Call.Push (last_number fs))
    (pick (is "pop" c) (at_end fs Call.Pop)
    (pick (is "extend" c) (at_end fs Call.Extend)
    (pick (is "drain" c) (option_map Call.Drain (rule_of fs))
    (pick (is "next" c) (at_end fs Call.Next)
    (pick (is "drop" c) (at_end fs Call.Drop)
    (pick (is "steal" c) (option_map (λ aim. Call.Steal aim.source aim.rule) (aim_of fs))
    (pick (is "take" c) (option_map (λ aim. Call.Take aim.source aim.rule) (aim_of fs))
    (pick (is "spare" c) (at_end fs Call.Spare) (pick (is "empty" c) (at_end fs Call.Empty) None)))))))))

abbrev pub mark_of : List (List ℕ) → Option Mark
mark_of [] = Some Mark.Plain
mark_of (m ∷ fs) =
    pick (is "weak" m) (at_end fs Mark.Weak)
    (pick (is "given" m) (option_map Mark.Carry (last_number fs)) (pick (is "end" m) (at_end fs Mark.End) None))

abbrev pub kind_of : List ℕ → Option Kind
kind_of k = pick (is "lifo" k) (Some Kind.Lifo) (pick (is "fifo" k) (Some Kind.Fifo) None)

abbrev pub machine_line : List (List ℕ) → Option Line
machine_line [] = None
machine_line (k ∷ fs) = option_and_then (λ kind. option_map (Line.Machine kind) (last_number fs)) (kind_of k)

-- a position has w bits
abbrev pub position_of : ℕ → ℕ → Option ℕ
position_of w p = pick (nat_lt p (2 ^ w)) (Some p) None

abbrev pub queue_line : ℕ → List (List ℕ) → Option Line
queue_line w [] = None
queue_line w (r ∷ fs) =
    option_and_then (λ request. option_map (Line.Queue request) (option_and_then (position_of w) (last_number fs))) (number_of r)

abbrev pub begin_line : List (List ℕ) → Option Line
begin_line [] = None
begin_line (p ∷ fs) = option_and_then (λ party. option_map (Line.Begin party) (call_of fs)) (number_of p)

abbrev pub step_line : List (List ℕ) → Option Line
step_line [] = None
step_line (p ∷ fs) = option_and_then (λ party. option_map (Line.Step party) (mark_of fs)) (number_of p)

abbrev pub line_of : ℕ → List (List ℕ) → Option Line
line_of w [] = None
line_of w (l ∷ fs) =
    pick (is "step" l) (step_line fs)
    (pick (is "begin" l) (begin_line fs) (pick (is "queue" l) (queue_line w fs) (pick (is "machine" l) (machine_line fs) None)))

-- a line, its newline apart
unfoldable pub read_of : ℕ → List ℕ → Line
read_of w s = pick (nat_le (length s) 120) (unwrap_or (line_of w (parted s)) Line.Malformed) Line.Malformed
