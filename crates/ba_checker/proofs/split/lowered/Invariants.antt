use Rattle.std.proofs.Common.{◌≡◌, ◌++◌, drop}
use Rattle.ba_checker.specs.Splits.{lowered}
use Rattle.ba_checker.proofs.split.lowered.Given as goal

abbrev pub invariant-loop-soft : goal.invariant-loop-soft
invariant-loop-soft l = l.left.items ++ lowered l.core l.weight (drop l.soft-index l.softs)
    ≡ lowered l.core l.weight l.softs
