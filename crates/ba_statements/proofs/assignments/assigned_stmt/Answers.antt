use Rattle.ba_typing.specs.Expressions.{tree_as}
use Rattle.ba_statements.proofs.AssignmentSteps.{assign-as, store-as}
use Rattle.ba_statements.proofs.assignments.assigned_stmt.Goals as goal

pub returns-in-None : goal.returns-in-None
returns-in-None c s e is typed = assign-as c.args.stmt c.args.target.var s.var c.args.value
    (tree_as s.expression.t e) c.args.target.index s.index is.var typed is.index c.in-None.is

pub returns-in-Some : goal.returns-in-Some
returns-in-Some c s e is typed = store-as c.args.stmt c.args.target.var s.var c.args.value
    (tree_as s.expression.t e) c.args.target.index s.index c.in-Some.index is.var typed is.index c.in-Some.is
