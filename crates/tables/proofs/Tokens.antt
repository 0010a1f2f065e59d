-- The tokens read off a queue's slots, one by one: they turn over with the positions, and a position's word has the position's slot.
use Prim.Native.Nat.{ℕ, zero, suc, ◌+◌, ◌%◌, ◌^◌, ◌<◌}
use mathlib.Core.Path.{◌≡◌, refl, sym, ap, ◌∙◌}
use mathlib.Core.Bool.{true, false}
use mathlib.Core.List.{List}
use native.Mathlib.Nat.{mod-add-mod, mod-mod_of_dvd, add-zero}
use native.Mathlib.Omega.{arith}
use lib.ListN.{length, get_or}
use Rattle.words.specs.Word.{plus, pow_below}
use Rattle.words.proofs.Powers.{power_divides}
use Rattle.tables.specs.Lists.{tokens}
use Rattle.tables.proofs.Bools.{pick_yes, pick_no}

pub tokens_many : (w cap : ℕ) (slots : List ℕ) (at n : ℕ) → length (tokens w cap slots at n) ≡ n
unfolding tokens
tokens_many w cap slots at zero = refl
tokens_many w cap slots at (suc n) = ap suc (tokens_many w cap slots (plus w at 1) n)

-- the slot of a position turned over is the slot of the position
slot_turned : (w cap : ℕ) → pow_below w cap ≡ true → (at i : ℕ) → (plus w at 1 + i) % cap ≡ (at + suc i) % cap
slot_turned w cap ok at i =
    sym (mod-add-mod ((at + 1) % 2 ^ w) cap i) ∙ ap (λ (x : ℕ). (x + i) % cap) (mod-mod_of_dvd cap (at + 1) (power_divides w cap ok))
    ∙ mod-add-mod (at + 1) cap i ∙ ap (λ (x : ℕ). x % cap) (omega arith)

pub tokens_at_lem : (w cap : ℕ) → pow_below w cap ≡ true → (slots : List ℕ) (at n i : ℕ) → i < n
    → get_or (tokens w cap slots at n) i 0 ≡ get_or slots ((at + i) % cap) 0
unfolding tokens
tokens_at_lem w cap ok slots at zero i h = absurd (omega arith)
tokens_at_lem w cap ok slots at (suc n) zero h = pick_yes (pow_below w cap) _ 0 ok ∙ rw add-zero
tokens_at_lem w cap ok slots at (suc n) (suc i) h =
    tokens_at_lem w cap ok slots (plus w at 1) n i (omega arith) ∙ ap (λ (x : ℕ). get_or slots x 0) (slot_turned w cap ok at i)

pub tokens_none : (w cap : ℕ) → pow_below w cap ≡ false → (slots : List ℕ) (at n i : ℕ) → get_or (tokens w cap slots at n) i 0 ≡ 0
unfolding tokens
tokens_none w cap e slots at zero i = refl
tokens_none w cap e slots at (suc n) zero = pick_no (pow_below w cap) _ 0 e
tokens_none w cap e slots at (suc n) (suc i) = tokens_none w cap e slots (plus w at 1) n i
