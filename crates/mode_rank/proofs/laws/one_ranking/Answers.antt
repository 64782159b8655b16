use Rattle.mode_rank.proofs.OneRanking.{one_answer}
use Rattle.mode_rank.proofs.laws.one_ranking.Goals as goal

pub returns : goal.returns
returns c = one_answer
