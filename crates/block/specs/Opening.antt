-- Opening in a block: the machine that document 01's opening gives, whether refused or not, is what the block then holds.
use Rattle.std.specs.Prelude.{ℕ, ◌<◌, List, ◌⊎◌, ltb, length, get_or, drop}
use Rattle.words.specs.Word.{pick}
use Rattle.tables.specs.declared.state.Machine.{Machine}
use Rattle.tables.specs.Step.{Opening, opening, every_kind}
use Rattle.block.specs.Block.{size, table, kind_of, seal_words, no_reply}
use Rattle.block.specs.Contents.{Contents, contents_in}

-- the first `most` of what is given, `none` where there are fewer
abbrev pub first_of : {A : Type 0} → (most : ℕ) → List A → (none : A) → List A
first_of most l none = table (λ i. get_or l i none) 0 most

-- as many parties as were asked, none where too few requests or positions are given
abbrev pub asked : (parties requests positions : ℕ) → ℕ
asked n r p = pick (ltb r n) 0 (pick (ltb p n) 0 n)

pub record LeftAt : Type 0 where
  pub held : Contents
  pub refusal : ℕ

abbrev pub left_at : ℕ → Contents → LeftAt
left_at k h = record { held = h; refusal = k }

-- a block that was just opened
abbrev pub fresh : (beyond : List ℕ) → Machine → Contents
fresh rest m = record { head = seal_words m.parties; machine = m; reply = no_reply; beyond = rest }

abbrev pub opened_as : (beyond : List ℕ) → Opening → LeftAt
opened_as rest o = left_at o.refusal (fresh rest o.machine)

-- Words too few for a block, and a kind that is none, are refused with 1 and left as they came.
abbrev pub IsUntouched : (most : ℕ) → List ℕ → (kind : ℕ) → Type 0
IsUntouched most xs k = (length xs < size most) ⊎ (1 < k)

unfoldable pub opened : (w most : ℕ) → List ℕ → (kind parties : ℕ) → (requests positions : List ℕ) → (lent : ℕ) → LeftAt
opened w most xs k n rs ps lent =
    pick (ltb (length xs) (size most)) (left_at 1 (contents_in w most xs))
    (pick (ltb 1 k) (left_at 1 (contents_in w most xs))
    (opened_as (drop (size most) xs)
    (opening w most (every_kind most (kind_of k)) (asked n (length rs) (length ps)) (first_of most rs 0) (first_of most ps 0) lent)))
