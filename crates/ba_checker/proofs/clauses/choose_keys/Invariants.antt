use Rattle.std.proofs.Common.{◌≡◌, true}
use Rattle.ba_checker.specs.Listed.{are_keys}
use Rattle.ba_checker.proofs.clauses.choose_keys.Given as goal

abbrev pub invariant-loop-lit : goal.invariant-loop-lit
invariant-loop-lit l = are_keys l.all l.lits ≡ true
