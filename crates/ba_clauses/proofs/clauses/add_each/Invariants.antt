use Rattle.std.proofs.Common.{◌||◌, take}
use Rattle.ba_lits.specs.Satisfaction.{any_true}
use Rattle.ba_clauses.specs.Clauses.{Adds, all_of, literal_value}
use Rattle.ba_clauses.proofs.clauses.add_each.Given as goal

abbrev pub invariant-loop-bit : goal.invariant-loop-bit
invariant-loop-bit l = Adds l.initial.formula l.formula (λ v. any_true v l.head || all_of (literal_value l.variables v) (take l.bit-index l.bits))
