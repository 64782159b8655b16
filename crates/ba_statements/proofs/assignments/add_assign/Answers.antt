use Rattle.std.proofs.Common.{Option, map, ◌∙◌, ap}
use Rattle.std.proofs.lemmas.Result.{on_ok_weaker}
use Rattle.ba_numbers.specs.declared.numbers.BinOp.{BinOp}
use Rattle.ba_statements.specs.Adding.{behind_part, state}
use Rattle.ba_typing.specs.Expressions.{typed_conditional}
use Rattle.ba_typing.specs.Statements.{add_assignment}
use Rattle.ba_tree.specs.Trees.{tree_of_stmt}
use Rattle.ba_statements.proofs.AssignmentSteps.{assignment-is}
use Rattle.ba_statements.proofs.assignments.add_assign.Goals as goal

pub returns : goal.returns
returns c = let w = c.args.work.now in let scope = c.args.scope.now in
    let target = c.args.target.now in let at = target.name.at in
    let typing = typed_conditional c.args.value.now in
    on_ok_weaker c.put_assignment.result (λ puts.
    assignment-is at target c.operator_at-op.result typing scope w c.put_assignment.new.work
    (map tree_of_stmt c.args.stmts.now.items) (map tree_of_stmt c.put_assignment.new.stmts.items)
    c.in_ok-place.place c.in_ok-j.j c.in_ok-whole.whole c.target_of.new.tally c.conditional.new.tally
    c.in_ok-place.ensures c.in_ok-j.ensures c.in_ok-whole.ensures puts
    ∙ ap (λ (op : Option BinOp). behind_part (add_assignment at target op typing) (state scope w
    c.args.stmts.now)) c.operator_at-op.ensures) c.put_assignment.ensures
