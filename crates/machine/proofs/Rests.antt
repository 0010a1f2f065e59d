-- The tokens of a stretch, one by one: each stands in the slot of its position, where the items reach so far.
use Prim.Native.Nat.{ℕ, ◌+◌, ◌<◌, ◌≤◌}
use mathlib.Core.Path.{◌≡◌, sym, ap, ◌∙◌}
use mathlib.Core.Bool.{true, false}
use mathlib.Core.List.{List}
use native.Mathlib.Nat.{mod-lt, mod-mod_of_dvd}
use lib.ListN.{length, get_or, drop, get_or-eq_default}
use lib.Seq.{get_or-take, get_or-drop}
use Rattle.words.specs.Word.{plus, slot_of, pow_below}
use Rattle.words.proofs.Powers.{power_of, pow_positive, power_divides}
use Rattle.tables.specs.declared.state.Kind.TheVariants as Kind
use Rattle.tables.specs.declared.state.Queue.{Queue}
use Rattle.tables.specs.Machine.{stretch, base_of, zero_queue}
use Rattle.tables.specs.Lists.{tokens}
use Rattle.tables.proofs.Bases.{base_more}
use Rattle.tables.proofs.Tokens.{tokens_many, tokens_at_lem, tokens_none}

module _ (w base cap : ℕ) (xs : List ℕ) (at n i : ℕ) where
  abbrev resting : List ℕ
  resting = tokens w cap (stretch base cap xs) at n

  -- past the count there is no token
  pub token_beyond : n ≤ i → 0 ≡ get_or resting i 0
  token_beyond h = sym (get_or-eq_default resting 0 (rw (tokens_many w cap (stretch base cap xs) at n) h))

  -- nor where the capacity is none
  pub token_none : pow_below w cap ≡ false → 0 ≡ get_or resting i 0
  token_none e = sym (tokens_none w cap e (stretch base cap xs) at n i)

  module _ (h : i < n) (ok : pow_below w cap ≡ true) (slot : ℕ) (slot_is : slot ≡ slot_of cap (plus w at i)) where
    below : slot < cap
    below = rw slot_is (mod-lt (plus w at i) (pow_positive (power_of w cap ok)))

    at_slot : get_or xs (base + slot) 0 ≡ get_or resting i 0
    at_slot =
        sym (tokens_at_lem w cap ok (stretch base cap xs) at n i h
        ∙ ap (λ (s : ℕ). get_or (stretch base cap xs) s 0) (sym (slot_is ∙ mod-mod_of_dvd cap (at + i) (power_divides w cap ok)))
        ∙ get_or-take cap (drop base xs) slot 0 below ∙ get_or-drop base xs slot 0)

    pub token_is : get_or xs (base + slot) 0 ≡ get_or resting i 0
    token_is = at_slot

    pub token_past : length xs ≤ base + slot → 0 ≡ get_or resting i 0
    token_past l = sym (get_or-eq_default xs 0 l) ∙ at_slot

pub bases : (l : List Queue) (i base : ℕ) → base ≡ base_of i l → base + (get_or l i (zero_queue Kind.Lifo)).capacity ≡ base_of (i + 1) l
bases l i base e = sym (base_more i l ∙ rw (← e))
