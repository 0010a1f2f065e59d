-- The newline that is found is the first, so that the bytes before it end the line at hand; without one they are all kept.
use Rattle.std.proofs.Common.{refl, ap}
use Rattle.text.specs.Feeding.{flow}
use Rattle.text.proofs.Feedings.{gets_as, line_part, line_whole}
use Rattle.text.proofs.run.Run.one_line.Goals as goal

pub returns-then-end-piece-clause-gets : goal.returns-then-end-piece-clause-gets
returns-then-end-piece-clause-gets c =
    let u = c.find-end in
    line_part _ _ _ _ u.result _ c.requires.within c.requires.room u.ensures.index u.ensures.bound c.keep.ensures c.if-end-piece.true

pub returns-clause-gets : goal.returns-clause-gets
returns-clause-gets c =
    let u = c.find-end in let t = c.take.ensures in
    gets_as refl (ap (flow _) c.none-self.ensures)
    (line_whole _ _ _ _ u.result _ c.requires.within c.requires.room u.ensures.index u.ensures.bound
    c.keep.ensures c.if-end-piece.false _ c.line.ensures _ _ t.state_is t.puts)
