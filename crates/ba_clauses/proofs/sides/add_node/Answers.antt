use Rattle.std.proofs.lemmas.Result.{on_ok_weaker}
use Rattle.ba_clauses.proofs.Telling.{Tells-node}
use Rattle.ba_clauses.proofs.sides.add_node.Goals as goal

pub returns : goal.returns
returns c =
    on_ok_weaker c.add_implied.result
    (λ second. Tells-node c.args.nodes.now c.args.uses.now c.args.variables.now c.args.number
    c.args.formula.now c.add_asked.new.formula
    c.add_implied.new.formula c.in_ok-add_asked.ensures second)
    c.add_implied.ensures
