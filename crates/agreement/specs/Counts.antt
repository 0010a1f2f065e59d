-- How often a token stands in a list, in the lists and hands of the first n queues and parties, and among the recorded offers.
use Rattle.std.specs.Prelude.{ℕ, zero, suc, ◌+◌, List, [], ◌∷◌, eqb}
use Rattle.words.specs.Word.{pick}
use Rattle.tables.specs.declared.answer.Change.{Change}
use Rattle.tables.specs.Effect.{change_row}
use Rattle.tables.specs.Lists.{Lists, Plain, Entry, did, said}

abbrev pub one : ℕ → ℕ → ℕ
one t x = pick (eqb t x) 1 0

unfoldable pub count : ℕ → List ℕ → ℕ
count t [] = 0
count t (x ∷ xs) = one t x + count t xs

abbrev pub in_lists : ℕ → Lists → ℕ
in_lists t l = count t l.waiting + (count t l.resting + count t l.booked)

unfoldable pub standing : ℕ → Plain → ℕ → ℕ
standing t a zero = 0
standing t a (suc n) = standing t a n + (in_lists t (a.queue n) + count t (a.hand n))

abbrev pub offers : ℕ → Change → ℕ
offers t c = count t (change_row c).offers

unfoldable pub offered : ℕ → List Entry → ℕ
offered t [] = 0
offered t (did e ∷ l) = offers t e.change + offered t l
offered t (said p r ∷ l) = offered t l
