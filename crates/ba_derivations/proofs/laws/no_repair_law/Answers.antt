use Rattle.ba_derivations.proofs.VerdictLaws.{no_repair}
use Rattle.ba_derivations.proofs.laws.no_repair_law.Goals as goal

pub returns : goal.returns
returns c = no_repair
