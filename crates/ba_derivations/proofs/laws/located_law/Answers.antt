use Rattle.ba_derivations.proofs.VerdictLaws.{located}
use Rattle.ba_derivations.proofs.laws.located_law.Goals as goal

pub returns : goal.returns
returns c = located
