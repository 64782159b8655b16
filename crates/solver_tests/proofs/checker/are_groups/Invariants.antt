use Rattle.std.proofs.Common.{drop}
use Rattle.ba_steps.specs.Steps.{AreAbove}
use Rattle.solver_tests.proofs.checker.are_groups.Given as goal

abbrev pub invariant-loop-group : goal.invariant-loop-group
invariant-loop-group l = AreAbove l.last (drop l.group-index l.groups) → AreAbove 0 l.groups
