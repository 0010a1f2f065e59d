-- Lines read where they stand in a block: what each reader says of the rest of the line.
use Rattle.std.specs.Prelude.{◌≡◌, ℕ, suc, ◌+◌, ◌*◌, ◌<◌, ◌≤◌, Bool, true, false, List, [], ◌∷◌, ◌++◌, length, take, drop, nat_le, slice_index, slice_range, Option, Some, IfSome}
use Rattle.words.specs.Word.{pick}
use Rattle.text.specs.Bytes.{index_of}
use Rattle.tables.specs.declared.call.Call.{Call}
use Rattle.tables.specs.declared.call.Mark.{Mark}
use Rattle.tables.specs.declared.call.Rule.{Rule}
use Rattle.text.specs.declared.Aim.{Aim}
use Rattle.text.specs.Line.{parted, last_number, rule_of, aim_of, call_of, mark_of}
use Rattle.text.specs.Number.{number_of}

-- bytes as one number, the first lowest
abbrev pub little : List ℕ → ℕ
little [] = 0
little (b ∷ s) = b + 256 * little s

-- r is the k bytes from a position on
pub record Loaded (k : ℕ) (s : List ℕ) (at r : ℕ) : Type 0 where
  pub value : r ≡ little (take k (drop at s))
  pub bytes : (i : ℕ) → i < length s → slice_index s i < 256

abbrev pub Stands : List ℕ → ℕ → List ℕ → Type 0
Stands s at xs = drop at s ≡ xs ++ drop (at + length xs) s

-- neither a tab nor a newline, nor any byte below them
abbrev pub clean : List ℕ → Bool
clean [] = true
clean (b ∷ s) = pick (nat_le 11 b) (clean s) false

-- the fields from a position on, up to the newline
unfoldable pub fields_at : List ℕ → ℕ → List (List ℕ)
fields_at s at = parted (take (index_of 10 (drop at s)) (drop at s))

-- the line at a position ends at a newline, and the next line starts at `next`
pub record Ends (s : List ℕ) (at next : ℕ) : Type 0 where
  pub there : index_of 10 (drop at s) < length (drop at s)
  pub after : next ≡ at + suc (index_of 10 (drop at s))

-- the bytes from a position up to `next` are a number, of at most two digits
pub record Counted (s : List ℕ) (at value next : ℕ) : Type 0 where
  pub number : number_of (slice_range s at next) ≡ Some value
  pub digits : clean (slice_range s at next) ≡ true
  pub more : at < next
  pub near : next ≤ at + 2

-- the rest of the line is read as `a`, and not long
pub record Says {A : Type 0} (s : List ℕ) (at most next : ℕ) (read : Option A) (a : A) : Type 0 where
  pub got : read ≡ Some a
  pub ends : Ends s at next
  pub near : next ≤ at + most

-- ---- each reader: what it read, if it did, and where it stopped

abbrev pub Few : List ℕ → ℕ → Option (ℕ × ℕ) → Type 0
Few s at r = IfSome r (λ (v, next). Counted s at v next)

abbrev pub Last : List ℕ → ℕ → Option (ℕ × ℕ) → Type 0
Last s at r = IfSome r (λ (v, next). Says s at 41 next (last_number (fields_at s at)) v)

abbrev pub RuleAt : List ℕ → ℕ → Option (Rule × ℕ) → Type 0
RuleAt s at r = IfSome r (λ (k, next). Says s at 47 next (rule_of (fields_at s at)) k)

abbrev pub AimAt : List ℕ → ℕ → Option (Aim × ℕ) → Type 0
AimAt s at r = IfSome r (λ (a, next). Says s at 50 next (aim_of (fields_at s at)) a)

abbrev pub CallAt : List ℕ → ℕ → Option (Call × ℕ) → Type 0
CallAt s at r = IfSome r (λ (c, next). Says s at 56 next (call_of (fields_at s at)) c)

abbrev pub MarkAt : List ℕ → ℕ → Option (Mark × ℕ) → Type 0
MarkAt s at r = IfSome r (λ (m, next). Says s at 47 next (mark_of (fields_at s at)) m)
