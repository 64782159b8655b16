use Rattle.std.proofs.Common.{◌≡◌, ◌+◌, ◌-◌, ◌++◌}
use Rattle.ba_checker.specs.Splits.{or_clauses}
use Rattle.ba_checker.proofs.SplitLaws.{from, split_kept}
use Rattle.ba_checker.proofs.split.add_ors.Given as goal

abbrev pub invariant-loop-place : goal.invariant-loop-place
invariant-loop-place l =
    l.clauses ++ split_kept (or_clauses (l.d + (l.place - 1)) (from l.place l.lits)) ≡ l.fn.clauses
    ++ split_kept (or_clauses l.d l.lits)
