use Rattle.std.proofs.Common.{◌≡◌, drop}
use Rattle.ba_checker.specs.Splits.{lightest}
use Rattle.ba_checker.proofs.SplitLaws.{sooner}
use Rattle.ba_checker.proofs.split.lightest.Given as goal

abbrev pub invariant-loop-lit : goal.invariant-loop-lit
invariant-loop-lit l = sooner l.least (lightest l.core (drop l.lit-index l.softs)) ≡ lightest l.core l.softs
