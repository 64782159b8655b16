use Rattle.std.proofs.Common.{subst}
use Rattle.std.specs.Prelude.{IfOk}
use Rattle.ba_trees.specs.declared.tree.expressions.Conditional.{Conditional}
use Rattle.ba_statements.specs.Adding.{GivesTest}
use Rattle.ba_typing.specs.Expressions.{typed_conditional}
use Rattle.ba_statements.proofs.control.add_condition.Goals as goal

pub returns : goal.returns
returns c = let w = c.args.work.now in let scope = c.args.scope.now in
    subst (λ (e : Conditional). IfOk c.add_test.result (λ t. GivesTest (typed_conditional e scope
    w.tally.calls)
    scope w c.add_test.new.work t)) c.deref.ensures c.add_test.ensures
