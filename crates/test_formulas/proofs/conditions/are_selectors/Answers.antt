use Rattle.std.proofs.Common.{arith}
use Rattle.test_formulas.proofs.Selectors.{above_done}
use Rattle.test_formulas.proofs.conditions.are_selectors.Goals as goal

pub returns : goal.returns
returns c = λ _. above_done c.args.variables c.loop-soft.last c.loop-soft.soft-index c.args.softs.now (omega (arith, c.loop-soft-test.false)) c.loop-soft.invariant
