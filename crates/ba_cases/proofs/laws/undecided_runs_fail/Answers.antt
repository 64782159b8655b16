use Rattle.ba_cases.proofs.Failing.{undecided_fails}
use Rattle.ba_cases.proofs.laws.undecided_runs_fail.Goals as goal

pub returns : goal.returns
returns c = undecided_fails
