use Rattle.std.proofs.Common.{◌≡◌, map, take}
use Rattle.ba_lits.specs.Satisfaction.{Soft}
use Rattle.ba_checker.proofs.checker.refill_softs.Given as goal

abbrev pub invariant-loop-soft : goal.invariant-loop-soft
invariant-loop-soft l = l.set ≡ map (λ (s : Soft). s.0) (take l.soft-index l.softs)
