use Rattle.ba_learn.proofs.BackLaws.{added_reason}
use Rattle.ba_learn.proofs.laws.reason_law.Goals as goal

pub returns : goal.returns
returns c = added_reason
