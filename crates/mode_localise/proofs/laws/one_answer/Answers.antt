use Rattle.mode_localise.proofs.Rows.{one_answer}
use Rattle.mode_localise.proofs.laws.one_answer.Goals as goal

pub returns : goal.returns
returns c = one_answer
