-- DEMAND 3, at any width above 1 and any party limit: the claims of Core, the sum, running alone.
use mathlib.Core.List.{List}
use Prim.Native.Nat.{ℕ}
use Rattle.agreement.specs.Statement.{Line, Run, run_of, Fresh, Keeps, Agrees, Demand3}
use Rattle.agreement.proofs.Core.{core}
use Rattle.agreement.proofs.Kept.{run_sum}
use Rattle.agreement.proofs.Merged.{alone_agrees}

pub agrees : (w most : ℕ) (r : Run) (s : List Line) → Fresh w most r → Keeps w most r s → Agrees w most (run_of w most r s)
agrees w most r s f k =
    let c = core w most r s f k in
    record {
      plain = c.plain;
      possible = c.possible;
      shown = c.shown;
      sum = run_sum w most r s f c.plain c.possible;
      caused = c.caused;
      alone_agrees = alone_agrees w most (run_of w most r s);
      in_hand = c.in_hand;
      fits = c.fits;
    }

pub demand3 : (w most : ℕ) → Demand3 w most
unfolding Demand3
demand3 w most = agrees w most
