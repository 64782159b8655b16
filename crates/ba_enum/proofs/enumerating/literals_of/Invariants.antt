use Rattle.std.proofs.Common.{◌≡◌, ◌++◌, drop}
use Rattle.ba_cores.specs.Rounds.{literals_of}
use Rattle.ba_enum.proofs.enumerating.literals_of.Given as goal

abbrev pub invariant-loop-soft : goal.invariant-loop-soft
invariant-loop-soft l = l.lits.items ++ literals_of (drop l.soft-index l.softs) ≡ literals_of l.softs
