use Rattle.mode_all.proofs.Rows.{one_answer_of_all}
use Rattle.mode_all.proofs.laws.one_answer_of_all.Goals as goal

pub returns : goal.returns
returns c = one_answer_of_all
