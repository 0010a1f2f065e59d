-- A quick answer is right; else the first newline ends the line.
use Rattle.std.proofs.Common.{arith}
use Rattle.text.proofs.Finding.{found_none, found_line}
use Rattle.text.proofs.find.next_line.Goals as goal

pub returns-then-end-s : goal.returns-then-end-s
returns-then-end-s c = found_none _ _ _ c.find-end.result (omega arith) c.find-end.ensures.index c.if-end-s.true

pub returns : goal.returns
returns c =
    let found = c.find-end in
    rw c.read_line.ensures (found_line _ _ _ found.result (omega arith) found.ensures.index found.ensures.bound c.if-end-s.false)
