use Rattle.std.proofs.Common.{refl}
use Rattle.ba_interp.proofs.Paths.{steps_of-Main}
use Rattle.ba_interp.proofs.path.Path.main.Goals as goal

pub returns : goal.returns
returns c = steps_of-Main _ refl
