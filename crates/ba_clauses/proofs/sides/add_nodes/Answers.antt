use Rattle.ba_clauses.proofs.Telling.{TellsAll-more}
use Rattle.ba_clauses.proofs.sides.add_nodes.Goals as goal

pub loop-number-preserved : goal.loop-number-preserved
loop-number-preserved c =
    TellsAll-more c.args.nodes.now c.args.uses.now c.args.variables.now c.loop-number.number
    c.args.formula.now c.loop-number.formula
    c.add_node.new.formula c.loop-number.invariant c.in_ok-add_node.ensures
