use Rattle.ba_lits.proofs.HintLaws.{FollowsByHints-holds}
use Rattle.ba_checker.proofs.laws.implied_law.Goals as goal

pub returns : goal.returns
returns c = FollowsByHints-holds
