use Rattle.ba_all.proofs.Judging.{one-input}
use Rattle.ba_all.proofs.laws.one_input_is_judged_alone.Goals as goal

pub returns : goal.returns
returns c = one-input
