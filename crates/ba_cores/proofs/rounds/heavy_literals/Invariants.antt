use Rattle.std.proofs.Common.{◌≡◌, ◌++◌, drop}
use Rattle.ba_cores.specs.Rounds.{literals_of, heavy}
use Rattle.ba_cores.proofs.rounds.heavy_literals.Given as goal

abbrev pub invariant-loop-soft : goal.invariant-loop-soft
invariant-loop-soft l = l.lits.items ++ literals_of (heavy l.weight (drop l.soft-index l.softs))
    ≡ literals_of (heavy l.weight l.softs)
