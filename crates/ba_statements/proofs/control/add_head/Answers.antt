use Rattle.std.proofs.Common.{map}
use Rattle.ba_statements.specs.Adding.{state_with}
use Rattle.ba_typing.specs.Statements.{add_first, add_step, for_scope}
use Rattle.ba_tree.specs.Trees.{tree_of_stmt}
use Rattle.ba_statements.proofs.ControlSteps.{begun, head-is}
use Rattle.ba_statements.proofs.control.add_head.Goals as goal

pub returns : goal.returns
returns c =
    let head = c.args.head.now in
    let outside = c.args.scope.now in
    let k = c.add_first.new.scope in
    let first = map tree_of_stmt c.add_first.new.stmts.items in
    let step = map tree_of_stmt c.add_step.new.stmts.items in
    head-is head outside k c.args.work.now c.add_first.new.work c.for_test.new.work c.add_step.new.work
    (record { first = c.add_first.new.stmts; test = c.in_ok-test.test; step = c.add_step.new.stmts })
    (begun (add_first head.first) (for_scope head.first outside) c.args.work.now c.new-first.result.items
    (state_with k c.add_first.new.work first) c.new-first.ensures.items c.in_ok-add_first.ensures)
    c.in_ok-test.ensures
    (begun (add_step head.step) k c.for_test.new.work c.new-step.result.items
    (state_with k c.add_step.new.work step) c.new-step.ensures.items c.in_ok-add_step.ensures)
