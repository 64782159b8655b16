use Rattle.ba_cases.proofs.OneAnswer.{all_of_meaning, one_at_once}
use Rattle.ba_cases.specs.AllCases.{all_answer}
use Rattle.ba_cases.proofs.laws.one_answer_of_inputs.Goals as goal

pub returns : goal.returns
returns c bounds x = one_at_once x.program (all_answer bounds x) (all_of_meaning bounds x)
