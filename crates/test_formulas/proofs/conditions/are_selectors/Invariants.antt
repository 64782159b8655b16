use Rattle.std.proofs.Common.{drop}
use Rattle.test_formulas.proofs.Selectors.{AscendAbove}
use Rattle.test_formulas.proofs.conditions.are_selectors.Given as goal

abbrev pub invariant-loop-soft : goal.invariant-loop-soft
invariant-loop-soft l = AscendAbove l.variables l.last (drop l.soft-index l.softs) → AscendAbove l.variables 0 l.softs
