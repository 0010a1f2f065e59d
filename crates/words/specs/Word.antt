-- Plain arithmetic of words of w bits, of two of them in one, and of capacities.
use Rattle.std.specs.Prelude.{◌≡◌, ℕ, zero, suc, ◌+◌, ◌-◌, ◌*◌, ◌/◌, ◌%◌, ◌^◌, min, Bool, true, false, ◌==◌, nat_le}
use Rattle.words.specs.declared.Position.{Position}

-- a + b, turned over at 2 ^ w
abbrev pub plus : ℕ → ℕ → ℕ → ℕ
plus w a b = (a + b) % 2 ^ w

-- a - b, turned over at 2 ^ w
abbrev pub minus : ℕ → ℕ → ℕ → ℕ
minus w a b = (a + (2 ^ w - b)) % 2 ^ w

-- two words of w bits in one of w + w, the high half first
abbrev pub packed : ℕ → ℕ → ℕ → ℕ
packed w a b = a * 2 ^ w + b

abbrev pub high : ℕ → ℕ → ℕ
high w x = x / 2 ^ w

abbrev pub low : ℕ → ℕ → ℕ
low w x = x % 2 ^ w

-- h and l are the halves of x
pub record Unpacked (w x h l : ℕ) : Type 0 where
  pub high_is : h ≡ high w x
  pub low_is : l ≡ low w x

-- a number as a position: slots are looked up by these alone
abbrev pub position : ℕ → Position
position p = record { 0 = p }

-- the slot of position p among cap slots
abbrev pub slot_of : ℕ → ℕ → ℕ
slot_of cap p = p % cap

-- c is a power of two
abbrev pub Pow : ℕ → Type 0
Pow c = (k : ℕ) × (c ≡ 2 ^ k)

abbrev pub orb : Bool → Bool → Bool
orb true b = true
orb false b = b

abbrev pub pick : {A : Type 0} → Bool → A → A → A
pick true a b = a
pick false a b = b

-- c is 2 ^ k for some k below n
unfoldable pub pow_below : ℕ → ℕ → Bool
pow_below zero c = false
pow_below (suc n) c = orb (pow_below n c) (c == 2 ^ n)

-- p, doubled until it is not below r, at most k times
unfoldable pub doubled : ℕ → ℕ → ℕ → ℕ
doubled zero p r = p
doubled (suc k) p r = pick (nat_le r p) p (doubled k (p + p) r)

-- the smallest power of two not below the request r, for r up to 2 ^ (w - 1)
abbrev pub capacity_of : ℕ → ℕ → ℕ
capacity_of w r = doubled (w - 1) 1 r

-- the least of what the rule says, of the limit, and of what is there
abbrev pub least_of : ℕ → ℕ → ℕ → ℕ
least_of rule limit n = min rule (min limit n)
