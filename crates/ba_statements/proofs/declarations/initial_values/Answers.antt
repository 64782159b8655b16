use Rattle.std.proofs.Common.{◌==◌, List, [], map, ◌∙◌, ap}
use Rattle.ba_tree.specs.declared.tree.Expr.{Expr}
use Rattle.ba_statements.specs.Adding.{Kept, initialising, keep_each, keep_one, kept}
use Rattle.ba_typing.specs.Declarations.{braced_values}
use Rattle.ba_typing.specs.Expressions.{typed_conditional}
use Rattle.ba_tree.specs.Trees.{tree_of_expr}
use Rattle.ba_statements.proofs.Declaring.{values-braced, values-expression}
use Rattle.ba_statements.proofs.declarations.initial_values.Goals as goal

pub returns-in_ok-add_value-in-Expression : goal.returns-in_ok-add_value-in-Expression
returns-in_ok-add_value-in-Expression c =
    let scope = c.args.scope.now in let how = initialising c.args.d.at c.args.d.t (scope.depth == 0) in
    let k : List Expr → Kept = λ xs. record { trees = map tree_of_expr xs; tally = c.args.tally.now } in
    values-expression how scope c.args.init.now (k []) (kept c.add_value.new.tally c.add_value.new.values)
    c.in-Expression.assign c.in-Expression.value c.in-Expression.is (c.in_ok-add_value-in-Expression.ensures
    ∙ ap (λ (xs : List Expr). keep_one how (typed_conditional c.in-Expression.value scope
    c.args.tally.now.calls) (k xs))
    c.new-values.ensures.items)

pub returns-in_ok-add_braced-in-Braced : goal.returns-in_ok-add_braced-in-Braced
returns-in_ok-add_braced-in-Braced c =
    let scope = c.args.scope.now in let how = initialising c.args.d.at c.args.d.t (scope.depth == 0) in
    let k : List Expr → Kept = λ xs. record { trees = map tree_of_expr xs; tally = c.args.tally.now } in
    values-braced how scope c.args.init.now (k []) (kept c.add_braced.new.tally c.add_braced.new.values)
    c.in-Braced.assign c.in-Braced.braced c.in-Braced.is (c.in_ok-add_braced-in-Braced.ensures
    ∙ ap (λ (xs : List Expr). keep_each how scope (braced_values c.in-Braced.braced) (k xs))
    c.new-values.ensures.items)
