use Rattle.ba_derivations.proofs.VerdictLaws.{good_runs}
use Rattle.ba_derivations.proofs.laws.good_runs_law.Goals as goal

pub returns : goal.returns
returns c = good_runs
