-- Numbers as decimal digits, read and written.
use Rattle.std.specs.Prelude.{ℕ, zero, suc, ◌+◌, ◌-◌, ◌*◌, ◌/◌, ◌%◌, ◌^◌, List, [], ◌∷◌, ◌==◌, nat_le, nat_lt, Option, Some, None}
use Rattle.words.specs.Word.{pick}

-- digits after those that make n: each is `0` to `9`, and the number stays below 2 ^ 64
unfoldable pub digits_of : ℕ → List ℕ → Option ℕ
digits_of n [] = Some n
digits_of n (b ∷ s) =
    pick (nat_le 48 b)
    (pick (nat_le b 57) (pick (nat_lt (n * 10 + (b - 48)) (2 ^ 64)) (digits_of (n * 10 + (b - 48)) s) None) None) None

-- a number: at least one digit
unfoldable pub number_of : List ℕ → Option ℕ
number_of [] = None
number_of (b ∷ s) = digits_of 0 (b ∷ s)

-- the last digits of n, at most f of them, before `after`
unfoldable pub digits_to : ℕ → ℕ → List ℕ → List ℕ
digits_to zero n after = after
digits_to (suc f) n after = pick (n / 10 == 0) ((48 + n % 10) ∷ after) (digits_to f (n / 10) ((48 + n % 10) ∷ after))

-- a number of 64 bits has at most 20
unfoldable pub decimal_of : ℕ → List ℕ
decimal_of n = digits_to 20 n []
