use Rattle.ba_learn.proofs.NewLaws.{contains_none}
use Rattle.ba_learn.proofs.laws.new_law.Goals as goal

pub returns : goal.returns
returns c = contains_none
