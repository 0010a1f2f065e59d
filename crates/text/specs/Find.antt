-- The next line of a block of input.
use Rattle.std.specs.Prelude.{◌≡◌, ℕ, suc, ◌+◌, List, length, take, drop, nat_lt, Option, Some, None, OnSome}
use Rattle.words.specs.Word.{pick}
use Rattle.text.specs.Bytes.{index_of}
use Rattle.text.specs.declared.Found.{Found}
use Rattle.text.specs.Line.{read_of}

-- the line that ends at the first newline from a position on, and where the next starts, if there is a newline
unfoldable pub next_line : (w : ℕ) → List ℕ → (from : ℕ) → Option Found
next_line w s from =
    pick (nat_lt (index_of 10 (drop from s)) (length (drop from s)))
    (Some (record { line = read_of w (take (index_of 10 (drop from s)) (drop from s)); next = from + suc (index_of 10 (drop from s)) }))
    None

-- an answer that may say nothing
abbrev pub Quick : (w : ℕ) → List ℕ → (from : ℕ) → Option Found → Type 0
Quick w s from r = OnSome r (r ≡ next_line w s from)
