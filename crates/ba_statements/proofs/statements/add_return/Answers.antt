use Rattle.std.proofs.Common.{sym, Bool, Option, map, not, ◌∙◌, ap}
use Rattle.std.specs.Option.{is_some}
use Rattle.std.specs.Prelude.{unwrap_or}
use Rattle.std.proofs.lemmas.Result.{on_ok_weaker}
use Rattle.ba_numbers.specs.declared.numbers.CType.{CType}
use Rattle.ba_numbers.specs.declared.numbers.CType.TheVariants.{I32}
use Rattle.ba_typing.specs.Expressions.{typed_conditional, tree_as}
use Rattle.ba_typing.specs.Faults.{fault_if}
use Rattle.ba_expressions.specs.Inferring.{with_faults}
use Rattle.ba_tree.specs.Trees.{tree_of_stmt}
use Rattle.ba_typing.specs.declared.fault.Cause.TheVariants.{WrongKind}
use Rattle.ba_statements.proofs.KeptValues.{un-not}
use Rattle.ba_statements.proofs.StatementSteps.{return-is}
use Rattle.ba_statements.proofs.statements.add_return.Goals as goal

pub returns : goal.returns
returns c = let w = c.args.work.now in let scope = c.args.scope.now in
    let s = typed_conditional c.args.c.now scope w.tally.calls in on_ok_weaker c.put.result (λ pushed.
    return-is c.args.at (typed_conditional c.args.c.now) scope w c.number.new.self c.in_ok-value.value
    c.whole.new.tally
    c.add_if.new.self c.in_ok-stmt.stmt (map tree_of_stmt c.args.stmts.now.items) _ c.in_ok-j.ensures.1
    (c.add_if.ensures ∙ ap (λ (b : Bool). with_faults c.whole.new.tally (fault_if b WrongKind c.args.at))
    (un-not c.is_none.result (is_some c.result-t.result) (sym c.is_none.ensures) ∙ ap (λ (t : Option CType).
    not (is_some t)) c.result-t.ensures))
    (c.in_ok-value.ensures s c.in_ok-j.ensures.0 ∙ ap (λ (t : CType). tree_as t s)
    (c.unwrap_or.ensures ∙ ap (λ (t : Option CType). unwrap_or t I32) c.result-t.ensures))
    c.in_ok-stmt.ensures pushed) c.put.ensures
