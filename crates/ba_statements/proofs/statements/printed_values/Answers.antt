use Rattle.std.proofs.Common.{List, [], map, ◌∙◌, ap}
use Rattle.ba_trees.specs.declared.tree.expressions.NextExpression.{NextExpression}
use Rattle.ba_tree.specs.declared.tree.Expr.{Expr}
use Rattle.ba_statements.specs.Adding.{Kept, keep_each, kept, printing}
use Rattle.ba_typing.specs.Expressions.{typed_next}
use Rattle.ba_typing.specs.Statements.{printed_typings}
use Rattle.ba_tree.specs.Trees.{tree_of_expr}
use Rattle.ba_statements.proofs.KeptValues.{next-value, no-value}
use Rattle.ba_statements.proofs.statements.printed_values.Goals as goal

pub loop-next-init : goal.loop-next-init
loop-next-init c = let scope = c.args.scope.now in let how = printing c.args.at in
    let k : List Expr → Kept = λ xs. record { trees = map tree_of_expr xs; tally = c.args.tally.now } in
    ap (λ (xs : List NextExpression). keep_each how scope (map typed_next xs) (k c.new-values.result.items))
    c.deref-next-items.ensures.value
    ∙ ap (λ (xs : List Expr). keep_each how scope (printed_typings c.args.printed.now) (k xs))
    c.new-values.ensures.items

pub loop-next-preserved : goal.loop-next-preserved
loop-next-preserved c = let scope = c.args.scope.now in let how = printing c.args.at in
    let none : Kept = record { trees = []; tally = c.args.tally.now } in
    next-value how scope c.deref-next-items.result.now c.loop-next.next-index c.next-item.result
    (kept c.loop-next.tally c.loop-next.values)
    (kept c.add_printed.new.tally c.add_printed.new.values)
    (keep_each how scope (printed_typings c.args.printed.now) none)
    c.loop-next-test.true c.next-item.is c.loop-next.invariant c.in_ok-add_printed.ensures

pub returns : goal.returns
returns c = let scope = c.args.scope.now in let how = printing c.args.at in
    let none : Kept = record { trees = []; tally = c.args.tally.now } in
    no-value how scope c.deref-next-items.result.now c.loop-next.next-index
    (kept c.loop-next.tally c.loop-next.values)
    (keep_each how scope (printed_typings c.args.printed.now) none)
    c.loop-next-test.false c.loop-next.invariant
