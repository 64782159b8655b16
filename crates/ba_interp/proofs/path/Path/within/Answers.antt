use Rattle.std.proofs.Common.{refl}
use Rattle.ba_interp.proofs.Paths.{steps_of-Within}
use Rattle.ba_interp.proofs.path.Path.within.Goals as goal

pub returns : goal.returns
returns c = steps_of-Within _ c.args.step c.args.outer refl
