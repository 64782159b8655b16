use Rattle.std.proofs.Common.{refl}
use Rattle.std.proofs.lemmas.Result.{on_ok_weaker}
use Rattle.ba_clauses.proofs.Telling.{Tells-asked}
use Rattle.ba_clauses.proofs.sides.add_asked.Goals as goal

pub returns : goal.returns
returns c =
    on_ok_weaker c.imply_where-2.result
    (λ second. Tells-asked c.args.nodes.now c.args.uses.now c.args.variables.now c.args.number
    c.args.formula.now c.imply_where.new.formula
    c.imply_where-2.new.formula _ _ c.in_ok-imply_where.ensures second refl refl)
    c.imply_where-2.ensures
