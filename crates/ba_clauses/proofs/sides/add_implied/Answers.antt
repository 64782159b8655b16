use Rattle.std.proofs.Common.{◌≤◌, ◌∙◌, ap, get_or, refl, arith}
use Rattle.std.proofs.lemmas.Result.{on_ok_weaker}
use Rattle.ba_clauses.specs.Clauses.{literal_of}
use Rattle.ba_clauses.proofs.Telling.{Tells-implied}
use Rattle.ba_clauses.proofs.sides.add_implied.Goals as goal

pub returns : goal.returns
returns c =
    let counted : 1 ≤ get_or c.args.variables.now c.args.number 0 = omega arith in
    on_ok_weaker c.imply_where-2.result
    (λ second. Tells-implied c.args.nodes.now c.args.uses.now c.args.variables.now c.args.number
    c.args.formula.now c.imply_where.new.formula
    c.imply_where-2.new.formula _ _ c.literal-lit.result c.negated.result c.in_ok-imply_where.ensures second
    (c.literal-lit.ensures ∙ ap (literal_of c.args.variables.now) c.side.ensures) c.negated.ensures counted
    refl refl)
    c.imply_where-2.ensures
