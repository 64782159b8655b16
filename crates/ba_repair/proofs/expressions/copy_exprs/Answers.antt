use Rattle.ba_typing.proofs.Walks.{next_item}
use Rattle.ba_repair.proofs.Copying.{exprs-end, exprs-next}
use Rattle.ba_repair.proofs.expressions.copy_exprs.Goals as goal

pub loop-expr-preserved : goal.loop-expr-preserved
loop-expr-preserved c = exprs-next c.args.change c.args.exprs.now c.loop-expr.expr-index c.loop-expr.left
    c.loop-expr.copies.items _ c.loop-expr.invariant c.expr-item.result c.in_ok-copy.copy _ _
    (next_item c.args.exprs.now c.loop-expr.expr-index c.expr-item.result c.loop-expr-test.true
    c.expr-item.is)
    c.in_ok-copy.ensures.copy c.in_ok-copy.ensures.left c.in_ok-push.ensures.items

pub returns : goal.returns
returns c = exprs-end c.args.change c.args.exprs.now c.loop-expr.expr-index c.loop-expr.left
    c.loop-expr.copies.items _ c.loop-expr.invariant c.loop-expr-test.false
