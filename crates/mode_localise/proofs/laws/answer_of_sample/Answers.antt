use Rattle.mode_localise.proofs.SampleAnswers.{sample_answered}
use Rattle.mode_localise.proofs.laws.answer_of_sample.Goals as goal

pub returns : goal.returns
returns c = sample_answered
