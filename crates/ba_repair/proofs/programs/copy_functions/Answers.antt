use Rattle.ba_tree.specs.Trees.{tree_of_function}
use Rattle.ba_typing.proofs.Walks.{next_item}
use Rattle.ba_repair.specs.Changes.{changed_function}
use Rattle.ba_repair.proofs.Copying.{copies-end, copies-next}
use Rattle.ba_repair.proofs.programs.copy_functions.Goals as goal

pub loop-function-preserved : goal.loop-function-preserved
loop-function-preserved c = copies-next tree_of_function (changed_function c.args.edit) c.args.functions.now
    c.loop-function.function-index c.loop-function.copies _ c.loop-function.invariant c.function-item.result
    c.in_ok-copy.copy _
    (next_item c.args.functions.now c.loop-function.function-index c.function-item.result
    c.loop-function-test.true c.function-item.is)
    c.in_ok-copy.ensures c.in_ok-push.ensures.ok

pub returns : goal.returns
returns c = copies-end tree_of_function (changed_function c.args.edit) c.args.functions.now
    c.loop-function.function-index c.loop-function.copies _ c.loop-function.invariant
    c.loop-function-test.false
