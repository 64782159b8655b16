use Rattle.std.proofs.Common.{◌≤◌, ◌-◌, length}
use Rattle.solver_tests.proofs.encode.model_of.Given as goal

abbrev pub invariant-loop-values : goal.invariant-loop-values
invariant-loop-values g l = length l.values ≤ l.variables

abbrev pub decreases-loop-values : goal.decreases-loop-values
decreases-loop-values g l = l.variables - length l.values
