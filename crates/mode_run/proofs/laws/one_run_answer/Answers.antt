use Rattle.ba_cases.proofs.OneAnswer.{one_at_once}
use Rattle.mode_run.proofs.Ending.{run_of_meaning}
use Rattle.mode_run.specs.Runs.{run_answer}
use Rattle.mode_run.proofs.laws.one_run_answer.Goals as goal

pub returns : goal.returns
returns c bounds x = one_at_once x.program (run_answer bounds x) (run_of_meaning bounds x)
