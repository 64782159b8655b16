use Rattle.ba_rank.proofs.Ordering.{one_ranking}
use Rattle.ba_rank.proofs.laws.ranking_is_unique.Goals as goal

pub returns : goal.returns
returns c lists entries others = one_ranking lists entries others
