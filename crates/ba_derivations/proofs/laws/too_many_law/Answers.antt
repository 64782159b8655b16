use Rattle.ba_derivations.proofs.VerdictLaws.{too_many}
use Rattle.ba_derivations.proofs.laws.too_many_law.Goals as goal

pub returns : goal.returns
returns c = too_many
