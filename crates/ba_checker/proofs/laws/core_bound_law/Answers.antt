use Rattle.ba_checker.proofs.BoundLaws.{core_raises, cores_raise}
use Rattle.ba_checker.proofs.laws.core_bound_law.Goals as goal

pub returns-clause-step : goal.returns-clause-step
returns-clause-step c = λ good s lits hints some weighty none. core_raises good s lits hints some weighty none

pub returns-clause-run : goal.returns-clause-run
returns-clause-run c = λ good formula softs conflicts sets start steps formed s is lits hints some none.
    cores_raise good formula softs conflicts sets start steps formed s is lits hints some none
