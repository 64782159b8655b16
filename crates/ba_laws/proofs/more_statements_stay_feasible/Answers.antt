use Rattle.ba_laws.proofs.MoreStatements.{still_feasible}
use Rattle.ba_laws.proofs.more_statements_stay_feasible.Goals as goal

pub returns : goal.returns
returns c = still_feasible
