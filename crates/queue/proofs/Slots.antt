-- A slot lies within its queue's stretch.
use Prim.Native.Nat.{ℕ, ◌<◌}
use mathlib.Core.Path.{◌≡◌}
use native.Mathlib.Nat.{mod-lt}
use Rattle.words.specs.Word.{Pow, slot_of}
use Rattle.words.proofs.Powers.{pow_positive}

pub slot_below : {cap slot : ℕ} (at : ℕ) {n : ℕ} → Pow cap → slot ≡ slot_of cap at → n ≡ cap → slot < n
slot_below at pow is len = rw (is, len) (mod-lt at (pow_positive pow))
