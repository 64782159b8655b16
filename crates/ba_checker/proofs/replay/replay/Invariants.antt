use Rattle.std.proofs.Common.{◌≡◌, drop}
use Rattle.ba_lits.specs.Hints.{replay}
use Rattle.ba_checker.specs.States.{clause_at}
use Rattle.ba_checker.proofs.replay.replay.Given as goal

abbrev pub invariant-loop-place : goal.invariant-loop-place
invariant-loop-place l = replay (clause_at l.clauses) l.falses (drop l.place l.hints)
    ≡ replay (clause_at l.clauses) l.fn.falses l.hints
