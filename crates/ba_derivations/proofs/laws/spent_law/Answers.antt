use Rattle.ba_derivations.proofs.VerdictLaws.{spent}
use Rattle.ba_derivations.proofs.laws.spent_law.Goals as goal

pub returns : goal.returns
returns c = spent
