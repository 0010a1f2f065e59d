-- Words read where they stand in a block, and words that stay as they were.
use Prim.Native.Nat.{ℕ, ◌+◌, ◌≤◌, ◌<◌}
use mathlib.Core.Path.{◌≡◌, sym, ap, ◌∙◌}
use mathlib.Core.List.{List}
use native.Mathlib.Omega.{arith}
use lib.ListN.{length, get_or, drop, length-drop}
use lib.Seq.{get_or-take, get_or-drop, take_all}
use Rattle.tables.specs.Machine.{stretch, restretched}
use Rattle.tables.proofs.Bases.{restretched_length, stretch_after}

-- a word of a stretch is the block's own
pub in_stretch : (xs : List ℕ) (at n j : ℕ) → j < n → get_or xs (at + j) 0 ≡ get_or (stretch at n xs) j 0
in_stretch xs at n j h = sym (get_or-take n (drop at xs) j 0 h ∙ get_or-drop at xs j 0)

pub first_in_stretch : (xs : List ℕ) (at n : ℕ) → 0 < n → get_or xs at 0 ≡ get_or (stretch at n xs) 0 0
first_in_stretch xs at n h = let e : at ≡ at + 0 = omega arith in ap (λ (k : ℕ). get_or xs k 0) e ∙ in_stretch xs at n 0 h

-- what stands after a part stays as it was
pub after_kept : (base n : ℕ) (xs ws : List ℕ) → base + n ≤ length xs → length ws ≡ n → (k : ℕ) → base + n ≤ k → drop k (restretched base n ws xs) ≡ drop k xs
after_kept base n xs ws fits full k h =
    let ys : List ℕ = restretched base n ws xs in
    let long : length ys ≡ length xs = restretched_length base n xs ws fits full in
    sym (take_all (length xs) (drop k ys) (rw length-drop (omega (arith, long)))) ∙ stretch_after base n xs ws fits full k (length xs) h
    ∙ take_all (length xs) (drop k xs) (rw length-drop (omega arith))
