use Rattle.std.proofs.Common.{map, ◌∙◌, ap}
use Rattle.std.proofs.lemmas.Result.{on_ok_weaker}
use Rattle.ba_numbers.specs.declared.numbers.CType.{CType}
use Rattle.ba_typing.specs.Expressions.{tree_as}
use Rattle.ba_tree.specs.Trees.{tree_of_stmt}
use Rattle.ba_statements.proofs.AssignmentSteps.{assigns-is}
use Rattle.ba_statements.proofs.assignments.put_assignment.Goals as goal

pub returns : goal.returns
returns c = on_ok_weaker c.put.result (λ pushed s e is infers.
    assigns-is c.args.at s e c.args.whole c.args.work.now c.number.new.self c.add_limit.new.self
    c.kind_of_target-kind.result c.in_ok-stmt.stmt (tree_of_stmt c.assigned_stmt.result)
    (map tree_of_stmt c.args.stmts.now.items) _ infers c.add_limit.ensures c.in_ok-stmt.ensures
    (c.kind_of_target-kind.ensures s is)
    (c.assigned_stmt.ensures s e is
    (c.in_ok-value.ensures e infers ∙ ap (λ (t : CType). tree_as t e) is.t)) pushed) c.put.ensures
