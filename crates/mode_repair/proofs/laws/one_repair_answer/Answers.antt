use Rattle.mode_repair.proofs.Rows.{one_repair_answer}
use Rattle.mode_repair.proofs.laws.one_repair_answer.Goals as goal

pub returns : goal.returns
returns c = one_repair_answer
