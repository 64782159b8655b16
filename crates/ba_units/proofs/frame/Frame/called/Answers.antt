use Rattle.std.proofs.Common.{refl}
use Rattle.ba_units.proofs.ArrayLengths.{lengths-Called}
use Rattle.ba_units.proofs.frame.Frame.called.Goals as goal

pub returns : goal.returns
returns c = λ p. lengths-Called p _ c.args.params c.args.args c.args.caller refl
