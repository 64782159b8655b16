use Rattle.std.proofs.Common.{◌≡◌, ◌++◌, drop}
use Rattle.ba_checker.specs.States.{present}
use Rattle.ba_checker.proofs.checker.present_softs.Given as goal

abbrev pub invariant-loop-soft : goal.invariant-loop-soft
invariant-loop-soft l = l.kept.items ++ present (drop l.soft-index l.softs) ≡ present l.softs
