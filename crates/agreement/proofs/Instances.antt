-- DEMAND 3 at the base machine, and at 16 bits; and that opening gives the fresh machine that it speaks of.
use Prim.Native.Nat.{ℕ, ◌^◌, ◌<◌}
use mathlib.Core.Path.{◌≡◌, refl}
use mathlib.Core.List.{List}
use lib.ListN.{length, get_or}
use Rattle.words.specs.Edition.{width}
use Rattle.tables.specs.declared.state.Kind.{Kind}
use Rattle.tables.specs.Machine.{most}
use Rattle.tables.specs.Step.{opening}
use Rattle.agreement.specs.Statement.{Fresh, Demand3}
use Rattle.agreement.proofs.Demand3.{demand3}
use Rattle.agreement.proofs.Tests.{opened}

-- words of 32 bits, 16 parties at most
pub base : Demand3 width most
base = demand3 width most

pub narrow : Demand3 16 most
narrow = demand3 16 most

-- an opening that is not refused, at positions of w bits, gives a fresh machine
pub opened_fresh : (w most : ℕ) (ks : List Kind) (n : ℕ) (rs ps xs : List ℕ) → 1 < w → ((q : ℕ) → get_or ps q 0 < 2 ^ w)
    → (opening w most ks n rs ps (length xs)).refusal ≡ 0 → Fresh w most (opened w most ks n rs ps xs)
opened_fresh w most ks n rs ps xs wide within e = record {
  kinds = ks;
  parties = n;
  requests = rs;
  positions = ps;
  wide = wide;
  within = within;
  taken = e;
  machine_is = refl;
  record_is = refl;
  notes_are = refl;
}
