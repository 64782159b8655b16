use Rattle.std.proofs.Common.{◌≡◌, ◌++◌, take, map}
use Rattle.ba_lits.specs.Literals.{index_of}
use Rattle.ba_clauses.specs.Clauses.{literal_of}
use Rattle.ba_clauses.proofs.clauses.codes_of.Given as goal

abbrev pub invariant-loop-lit : goal.invariant-loop-lit
invariant-loop-lit l = l.codes.items ≡ map index_of (take l.lit-index l.head)

abbrev pub invariant-loop-bit : goal.invariant-loop-bit
invariant-loop-bit l = l.codes.items ≡ map index_of l.head ++ map (λ bit. index_of (literal_of l.variables bit)) (take l.bit-index l.bits)
