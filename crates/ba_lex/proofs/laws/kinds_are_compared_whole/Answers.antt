use Rattle.ba_lex.proofs.KindLemmas.{same_kind-Decides}
use Rattle.ba_lex.proofs.laws.kinds_are_compared_whole.Goals as goal

pub returns : goal.returns
returns c = same_kind-Decides
