-- A part of bytes, and where a byte first stands in them.
use Rattle.std.specs.Prelude.{ℕ, suc, Bool, true, false, List, [], ◌∷◌, take, drop, ◌==◌}

-- the bytes from one position up to another
unfoldable pub slice : (from to : ℕ) → List ℕ → List ℕ
slice from to s = drop from (take to s)

-- one further, but where it is found here
unfoldable pub index_after : Bool → ℕ → ℕ
index_after true k = 0
index_after false k = suc k

-- how many bytes stand before the first that is b; all of them where none is
unfoldable pub index_of : (b : ℕ) → List ℕ → ℕ
index_of b [] = 0
index_of b (x ∷ s) = index_after (x == b) (index_of b s)
