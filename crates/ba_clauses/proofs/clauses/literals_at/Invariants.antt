use Rattle.std.proofs.Common.{◌≡◌, take, map}
use Rattle.ba_lits.specs.Literals.{literal_at}
use Rattle.ba_clauses.proofs.clauses.literals_at.Given as goal

abbrev pub invariant-loop-code : goal.invariant-loop-code
invariant-loop-code l = l.lits.items ≡ map literal_at (take l.code-index l.codes)
