use Rattle.ba_derivations.proofs.VerdictLaws.{ordered}
use Rattle.ba_derivations.proofs.laws.order_law.Goals as goal

pub returns : goal.returns
returns c = ordered
