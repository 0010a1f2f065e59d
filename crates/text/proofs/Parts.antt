-- The fields of a line, found one after the other.
use Rattle.std.proofs.Common.{◌≡◌, ℕ, suc, ◌+◌, ◌-◌, ◌<◌, ◌≤◌, Bool, true, false, eqb, ltb, List, [], ◌∷◌, length, take, drop, refl, ◌∙◌, add-one, arith, le-ltb, lt-ltb}
use Rattle.std.proofs.lemmas.List.{take_rest}
use lib.Seq.{take-length}
use lib.Dec.{leb-suc-suc}
use Rattle.words.specs.Word.{pick}
use Rattle.text.specs.Bytes.{slice, index_of, index_after}
use Rattle.text.specs.Line.{onto, parted, ended}

-- the first part ends at the first tab, and the others follow it
parted_first : (s : List ℕ)
    → parted s ≡ take (index_of 9 s) s ∷ pick (ltb (index_of 9 s) (length s)) (parted (drop (suc (index_of 9 s)) s)) []
unfolding parted index_of index_after onto
parted_first [] = refl
parted_first (b ∷ s) = by (parted_first s) (eqb b 9)
  where
    by : (parted s ≡ take (index_of 9 s) s ∷ pick (ltb (index_of 9 s) (length s)) (parted (drop (suc (index_of 9 s)) s)) []) → (t : Bool)
        → pick t ([] ∷ parted s) (onto b (parted s))
        ≡ take (index_after t (index_of 9 s)) (b ∷ s)
        ∷ pick (ltb (index_after t (index_of 9 s)) (suc (length s))) (parted (drop (suc (index_after t (index_of 9 s))) (b ∷ s))) []
    by ih true = rw (lt-ltb 0 (suc (length s)) (omega arith))
    by ih false = rw (leb-suc-suc (suc (index_of 9 s)) (length s), ih)

module _ (s : List ℕ) (end : ℕ) (found : end ≡ 0 + index_of 9 (slice 0 (length s) s)) where
  first : parted s ≡ take end s ∷ pick (ltb end (length s)) (parted (drop (end + 1) s)) []
  unfolding slice
  first =
      let e : end ≡ index_of 9 s = found ∙ rw (take-length s) (omega arith) in
      rw (e, add-one) (parted_first s)

  pub part_more : end < length s → parted s ≡ take end s ∷ parted (take (length s - (end + 1)) (drop (end + 1) s))
  part_more h = first ∙ rw (lt-ltb end (length s) h, take_rest s (end + 1)) refl

  pub part_last : length s ≤ end → parted s ≡ take end s ∷ []
  part_last h = first ∙ rw (le-ltb end (length s) h) refl

pub part_there : (s : List ℕ) → ended (parted s) ≡ false
part_there s = rw (parted_first s) refl
