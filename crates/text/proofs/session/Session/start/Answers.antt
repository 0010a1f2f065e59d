use Rattle.std.proofs.Common.{refl}
use Rattle.text.specs.Session.{started, zeros}
use Rattle.text.proofs.session.Session.start.Goals as goal

pub returns : goal.returns
unfolding started zeros
returns c = refl
