use Rattle.std.proofs.Common.{drop}
use Rattle.ba_steps.specs.Steps.{AreAbove}
use Rattle.solver_tests.proofs.checker.are_above.Given as goal

abbrev pub invariant-loop-number : goal.invariant-loop-number
invariant-loop-number l = AreAbove l.last (drop l.number-index l.numbers) → AreAbove 0 l.numbers
