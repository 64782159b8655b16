use Rattle.std.proofs.Common.{◌≡◌, map, subst}
use Rattle.std.proofs.lemmas.Result.{on_ok_weaker}
use Rattle.ba_trees.specs.declared.tree.expressions.Conditional.{Conditional}
use Rattle.ba_typing.specs.Declarations.{whole_faults}
use Rattle.ba_typing.specs.Expressions.{typed_conditional}
use Rattle.ba_expressions.specs.Inferring.{Infers, after}
use Rattle.ba_tree.specs.Trees.{tree_of_stmt}
use Rattle.ba_statements.proofs.StatementSteps.{assert-is}
use Rattle.ba_statements.proofs.statements.add_assert.Goals as goal

pub returns : goal.returns
returns c = let w = c.args.work.now in let scope = c.args.scope.now in
    let expression = λ (e : Conditional). typed_conditional e scope w.tally.calls in
    let inferred = subst (λ e. Infers c.in_ok-j.j (expression e)
    × (c.whole.new.tally ≡ after w.tally (expression e).calls (whole_faults c.args.at (expression e))))
    c.deref.ensures c.in_ok-j.ensures in
    on_ok_weaker c.put.result (λ pushed. assert-is c.args.at (typed_conditional
    c.args.condition.now.test.value) scope w
    c.number.new.self c.in_ok-j.j c.whole.new.tally c.in_ok-stmt.stmt (map tree_of_stmt
    c.args.stmts.now.items) _
    inferred.0 inferred.1 c.in_ok-stmt.ensures pushed) c.put.ensures
