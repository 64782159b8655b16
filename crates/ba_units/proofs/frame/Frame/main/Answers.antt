use Rattle.std.proofs.Common.{refl}
use Rattle.ba_units.proofs.ArrayLengths.{lengths-Main}
use Rattle.ba_units.proofs.frame.Frame.main.Goals as goal

pub returns : goal.returns
returns c = λ p. lengths-Main p _ refl
