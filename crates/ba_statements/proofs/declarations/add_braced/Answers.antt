use Rattle.std.proofs.Common.{◌==◌, List, map, ◌∙◌, ap}
use Rattle.ba_trees.specs.declared.tree.expressions.NextExpression.{NextExpression}
use Rattle.ba_statements.specs.Adding.{initialising, keep_each, kept}
use Rattle.ba_typing.specs.Declarations.{braced_values}
use Rattle.ba_typing.specs.Expressions.{typed_next}
use Rattle.ba_statements.proofs.KeptValues.{next-value, no-value}
use Rattle.ba_statements.proofs.declarations.add_braced.Goals as goal

pub loop-next-init : goal.loop-next-init
loop-next-init c = let scope = c.args.scope.now in let how = initialising c.args.d.at c.args.d.t
    (scope.depth == 0) in
    ap (λ (xs : List NextExpression). keep_each how scope (map typed_next xs) (kept c.add_value.new.tally
    c.add_value.new.values))
    c.deref-next-items.ensures.value
    ∙ ap (keep_each how scope (map typed_next c.args.braced.now.rest.items)) c.in_ok-add_value.ensures

pub loop-next-preserved : goal.loop-next-preserved
loop-next-preserved c = let scope = c.args.scope.now in let how = initialising c.args.d.at c.args.d.t
    (scope.depth == 0) in
    next-value how scope c.deref-next-items.result.now c.loop-next.next-index c.next-item.result
    (kept c.loop-next.tally c.loop-next.values) (kept c.add_value-in-loop-next.new.tally
    c.add_value-in-loop-next.new.values)
    (keep_each how scope (braced_values c.args.braced.now) (kept c.args.tally.now c.args.values.now))
    c.loop-next-test.true c.next-item.is c.loop-next.invariant c.in_ok-add_value-2.ensures

pub returns : goal.returns
returns c = let scope = c.args.scope.now in let how = initialising c.args.d.at c.args.d.t (scope.depth ==
    0) in
    no-value how scope c.deref-next-items.result.now c.loop-next.next-index (kept c.loop-next.tally
    c.loop-next.values)
    (keep_each how scope (braced_values c.args.braced.now) (kept c.args.tally.now c.args.values.now))
    c.loop-next-test.false c.loop-next.invariant
