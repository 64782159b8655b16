use Rattle.std.proofs.Common.{◌≡◌, map, take}
use Rattle.ba_checker.specs.States.{kept}
use Rattle.ba_checker.specs.declared.store.Origin.TheVariants as origins
use Rattle.ba_checker.proofs.checker.given_clauses.Given as goal

abbrev pub invariant-loop-place : goal.invariant-loop-place
invariant-loop-place l = l.clauses ≡ map (kept origins.Given) (take l.place l.formula.clauses)
