use Rattle.solver_tests.proofs.Assumptions.{clause_assumed}
use Rattle.solver_tests.proofs.support.models.are_assumptions.Goals as goal

pub returns : goal.returns
returns c = λ yes. clause_assumed c.args.variables c.args.lits.now (c.is_clause.ensures.0 yes)
