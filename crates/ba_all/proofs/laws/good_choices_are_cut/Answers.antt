use Rattle.ba_all.proofs.Cutting.{cut_from, good_by}
use Rattle.ba_all.proofs.laws.good_choices_are_cut.Goals as goal

pub returns : goal.returns
returns c = λ tests choices. (cut_from tests choices, λ cut. good_by tests choices cut.0 cut.1)
