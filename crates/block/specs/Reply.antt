-- What an act says, in numbers, as it stands in a block after an act that nothing refused.
use Rattle.std.specs.Prelude.{ℕ, List, [], ◌∷◌, ◌++◌, get_or, Option, Some, None}
use Rattle.tables.specs.declared.answer.Answer.{Answer}
use Rattle.tables.specs.declared.answer.Effect.{Effect}
use Rattle.tables.specs.declared.answer.Reply.{Reply}
use Rattle.tables.specs.declared.answer.Values.{Values}
use Rattle.tables.specs.Answer.{answer_row, tokens_of, counts_of}
use Rattle.tables.specs.Effect.{change_row}

-- a token or a count, 0 where there is none
abbrev pub token_of : Values → ℕ
token_of v = get_or (tokens_of v) 0 0

abbrev pub count_of : Values → ℕ
count_of v = get_or (counts_of v) 0 0

-- an effect has one of the two
abbrev pub value_of : Values → ℕ
value_of v = get_or (tokens_of v ++ counts_of v) 0 0

-- an answer's number, token and count: 0 while the call is under way
abbrev pub answer_words : Option Answer → List ℕ
answer_words None = 0 ∷ 0 ∷ 0 ∷ []
answer_words (Some a) = (answer_row a).number ∷ token_of (answer_row a).values ∷ count_of (answer_row a).values ∷ []

-- no effect: 0
abbrev pub effect_words : Option Effect → List ℕ
effect_words None = 0 ∷ 0 ∷ 0 ∷ 0 ∷ []
effect_words (Some e) = e.party ∷ e.queue ∷ (change_row e.change).number ∷ value_of (change_row e.change).values ∷ []

-- The answer, its token, its count; the steps of a run alone; how many effects; four words for each of three.
unfoldable pub reply_words : Reply → List ℕ
reply_words r =
    answer_words r.answer ++ (r.steps ∷ r.effects.count
    ∷ effect_words (get_or r.effects.list 0 None) ++ (effect_words (get_or r.effects.list 1 None) ++ effect_words (get_or r.effects.list 2 None)))
