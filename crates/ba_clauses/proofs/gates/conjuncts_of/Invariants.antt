use Rattle.std.proofs.Common.{◌^◌}
use Rattle.std.specs.List.{sum_by}
use Rattle.ba_nodes.specs.declared.Bit.{Bit}
use Rattle.ba_clauses.proofs.Taking.{IsCut}
use Rattle.ba_clauses.proofs.gates.conjuncts_of.Given as goal

abbrev pub invariant-loop-bit : goal.invariant-loop-bit
invariant-loop-bit l = IsCut l.nodes l.uses l.fn.a l.fn.b l.left.items l.conjuncts.items

abbrev pub decreases-loop-bit : goal.decreases-loop-bit
decreases-loop-bit l = sum_by (λ (x : Bit). 2 ^ x.index) l.left.items
