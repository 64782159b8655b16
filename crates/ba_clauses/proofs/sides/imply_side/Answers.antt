use Rattle.std.proofs.lemmas.Result.{on_ok_weaker}
use Rattle.ba_clauses.proofs.Telling.{Tells-side, operands_have_variables}
use Rattle.ba_clauses.proofs.sides.imply_side.Goals as goal

pub imply-requires-clause-operands : goal.imply-requires-clause-operands
imply-requires-clause-operands c =
    operands_have_variables c.args.nodes.now c.args.uses.now c.args.variables.now _ _ _ c.requires.size
    c.requires.numbering c.in_ok-gate.ensures.operands

pub returns : goal.returns
returns c =
    on_ok_weaker c.imply.result
    (λ adds. Tells-side c.args.nodes.now c.args.uses.now c.args.variables.now c.args.head.now c.args.number
    c.args.negated c.side-bit.result _
    c.args.formula.now c.imply.new.formula c.side-bit.ensures c.requires.graph c.requires.size
    c.requires.numbering
    c.in_ok-gate.ensures.value c.in_ok-gate.ensures.operands adds)
    c.imply.ensures
