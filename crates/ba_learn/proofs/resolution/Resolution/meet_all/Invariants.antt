use Rattle.std.proofs.Common.{take}
use Rattle.ba_watch.specs.Propagation.{lits_in}
use Rattle.ba_learn.specs.Resolving.{Meets}
use Rattle.ba_learn.proofs.resolution.Resolution.meet_all.Given as goal

abbrev pub invariant-loop-place : goal.invariant-loop-place
invariant-loop-place l = Meets l.watch l.initial.self l.self (take l.place (lits_in l.watch.clauses l.clause))
