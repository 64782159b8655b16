use Rattle.ba_clauses.specs.Sides.{TellsUpTo}
use Rattle.ba_clauses.proofs.sides.add_nodes.Given as goal

abbrev pub invariant-loop-number : goal.invariant-loop-number
invariant-loop-number l = TellsUpTo l.nodes l.uses l.variables l.number l.fn.formula l.formula
