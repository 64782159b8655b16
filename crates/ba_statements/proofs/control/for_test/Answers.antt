use Rattle.std.proofs.Common.{Option, sym, subst}
use Rattle.std.specs.Prelude.{IfOk}
use Rattle.ba_trees.specs.declared.tree.expressions.Conditional.{Conditional}
use Rattle.ba_statements.specs.Adding.{GivesTest}
use Rattle.ba_typing.specs.Statements.{for_test_or}
use Rattle.ba_expressions.proofs.Inferences.{if-ok}
use Rattle.ba_statements.proofs.control.for_test.Goals as goal

pub returns-in-None : goal.returns-in-None
returns-in-None c =
    let w = c.args.work.now in
    let scope = c.args.scope.now in
    let at = c.args.head.now.second_semicolon.at in
    if-ok c.add_absent_test.result _ _ (λ t given.
    subst (λ (o : Option Conditional). GivesTest (for_test_or at o scope w.tally.calls) scope w
    c.add_absent_test.new.work t) (sym c.in-None.is) (given scope)) c.add_absent_test.ensures

pub returns-in-Some : goal.returns-in-Some
returns-in-Some c =
    let w = c.args.work.now in
    let scope = c.args.scope.now in
    let at = c.args.head.now.second_semicolon.at in
    subst (λ (o : Option Conditional). IfOk c.add_test.result (λ t. GivesTest (for_test_or at o scope
    w.tally.calls) scope w c.add_test.new.work t)) (sym c.in-Some.is) c.add_test.ensures
