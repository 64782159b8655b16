use Rattle.ba_repair.proofs.SameUnits.{same-units}
use Rattle.ba_repair.proofs.laws.edits_change_no_units.Goals as goal

pub returns : goal.returns
returns c p edited edit bounds own is = same-units p edited edit bounds own is
