use Rattle.std.proofs.Common.{◌≡◌, true}
use Rattle.ba_lits.specs.Members.{has_index}
use Rattle.ba_checker.proofs.clauses.rarest.Given as goal

abbrev pub invariant-loop-lit : goal.invariant-loop-lit
invariant-loop-lit l = has_index l.best l.lits ≡ true
