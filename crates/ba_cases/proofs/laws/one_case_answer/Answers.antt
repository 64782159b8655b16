use Rattle.ba_cases.proofs.OneAnswer.{case_of_meaning, one_at_once}
use Rattle.ba_cases.specs.AtOnce.{case_answer}
use Rattle.ba_cases.proofs.laws.one_case_answer.Goals as goal

pub returns : goal.returns
returns c bounds x = one_at_once x.program (case_answer bounds x) (case_of_meaning bounds x)
