use Rattle.std.proofs.Common.{Option, map, ◌∙◌, ap}
use Rattle.std.proofs.lemmas.Result.{on_ok_weaker}
use Rattle.ba_numbers.specs.declared.numbers.BinOp.{BinOp}
use Rattle.ba_statements.specs.Adding.{behind_part, state}
use Rattle.ba_typing.specs.Statements.{add_assignment, one}
use Rattle.ba_tree.specs.Trees.{tree_of_stmt}
use Rattle.ba_statements.proofs.AssignmentSteps.{assignment-is, one-stands}
use Rattle.ba_statements.proofs.assignments.add_step.Goals as goal

pub returns : goal.returns
returns c = let w = c.args.work.now in let scope = c.args.scope.now in
    let target = c.args.target.now in let operator_at = c.args.operator.now.at in
    let mid = c.target_of.new.tally in
    on_ok_weaker c.put_assignment.result (λ puts.
    assignment-is c.args.at target c.operator_at-op.result (one operator_at) scope w c.put_assignment.new.work
    (map tree_of_stmt c.args.stmts.now.items) (map tree_of_stmt c.put_assignment.new.stmts.items)
    c.in_ok-place.place c.in_ok-j.j c.in_ok-whole.whole mid mid
    c.in_ok-place.ensures (one-stands operator_at scope c.in_ok-j.j mid c.in_ok-j.ensures)
    c.in_ok-whole.ensures puts
    ∙ ap (λ (op : Option BinOp). behind_part (add_assignment c.args.at target op (one operator_at))
    (state scope w c.args.stmts.now)) c.operator_at-op.ensures) c.put_assignment.ensures
