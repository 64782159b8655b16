use Rattle.std.proofs.Common.{◌≡◌, ◌+◌, ◌-◌, ◌++◌}
use Rattle.ba_checker.specs.Splits.{late_softs}
use Rattle.ba_checker.proofs.SplitLaws.{from}
use Rattle.ba_checker.proofs.split.add_late_softs.Given as goal

abbrev pub invariant-loop-place : goal.invariant-loop-place
invariant-loop-place l =
    l.softs.items ++ late_softs l.weight (l.e + (l.place - 1)) (from l.place l.lits) ≡ l.fn.softs.items
    ++ late_softs l.weight l.e l.lits
