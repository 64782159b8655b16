use Rattle.std.proofs.Common.{◌≡◌, drop}
use Rattle.ba_cores.specs.Rounds.{heavy}
use Rattle.ba_cores.proofs.rounds.are_heavy.Given as goal

abbrev pub invariant-loop-soft : goal.invariant-loop-soft
invariant-loop-soft l = heavy l.weight (drop l.soft-index l.softs) ≡ drop l.soft-index l.softs →
    heavy l.weight l.softs ≡ l.softs
