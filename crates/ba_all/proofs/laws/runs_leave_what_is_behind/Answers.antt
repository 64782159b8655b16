use Rattle.ba_all.proofs.Prefixes.{alone, left-behind, outcome-behind}
use Rattle.ba_all.proofs.laws.runs_leave_what_is_behind.Goals as goal

pub returns-clause-alone : goal.returns-clause-alone
returns-clause-alone c = alone

pub returns-clause-outcome : goal.returns-clause-outcome
returns-clause-outcome c = λ p i b allowed choices others right. outcome-behind p i b allowed choices others
    right

pub returns-clause-left : goal.returns-clause-left
returns-clause-left c = λ p i b allowed choices others right. left-behind p i b allowed choices others right
