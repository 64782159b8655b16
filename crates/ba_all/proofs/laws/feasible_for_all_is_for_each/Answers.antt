use Rattle.ba_all.proofs.Judging.{feasible-for-all, feasible-for-each}
use Rattle.ba_laws.proofs.MoreStatements.{still_feasible}
use Rattle.ba_all.proofs.laws.feasible_for_all_is_for_each.Goals as goal

pub returns-clause-each : goal.returns-clause-each
returns-clause-each c = λ p inputs b set. (feasible-for-each p b set inputs, feasible-for-all p b set inputs)

pub returns-clause-more : goal.returns-clause-more
returns-clause-more c = λ p inputs b set other sub feasible.
    feasible-for-all p b other inputs
    (λ input at. still_feasible p input b set other sub (feasible-for-each p b set inputs feasible input at))
