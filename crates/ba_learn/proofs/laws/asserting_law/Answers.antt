use Rattle.ba_learn.proofs.BackLaws.{back_asserting}
use Rattle.ba_learn.proofs.laws.asserting_law.Goals as goal

pub returns : goal.returns
returns c = back_asserting
