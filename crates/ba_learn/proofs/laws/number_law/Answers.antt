use Rattle.ba_learn.proofs.NewLaws.{live_by_number}
use Rattle.ba_learn.proofs.laws.number_law.Goals as goal

pub returns : goal.returns
returns c = live_by_number
