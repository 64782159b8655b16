use Rattle.std.proofs.Common.{not, [], ◌∷◌, ◌++◌, map, refl, ◌∙◌, ap}
use Rattle.std.proofs.lemmas.Result.{on_ok_weaker}
use Rattle.ba_typing.specs.Faults.{fault_if}
use Rattle.ba_typing.specs.Statements.{add_break}
use Rattle.ba_expressions.specs.Inferring.{with_faults}
use Rattle.ba_tree.specs.Trees.{tree_of_stmt}
use Rattle.ba_tree.specs.Trees as tree
use Rattle.ba_typing.specs.declared.fault.Cause.TheVariants.{BreakOutside}
use Rattle.ba_typing.specs.declared.names.Exits.{Exits}
use Rattle.ba_statements.proofs.StatementSteps.{jump-is}
use Rattle.ba_typing.proofs.StmtForms.{tree-Break}
use Rattle.ba_statements.proofs.statements.add_break.Goals as goal

pub returns : goal.returns
returns c =
    let w = c.args.work.now in
    let scope = c.args.scope.now in
    let olds = map tree_of_stmt c.args.stmts.now.items in
    on_ok_weaker c.put.result (λ pushed.
    jump-is (add_break c.args.at) c.args.at tree.break_loop scope.exits.breaks scope w _ olds _ refl
    (ap (λ t. record w { tally = t }) (c.add_if.ensures
    ∙ ap (λ (e : Exits). with_faults w.tally (fault_if (not e.breaks) BreakOutside c.args.at))
    c.exits.ensures)) (pushed ∙ ap (λ x. olds ++ x ∷ []) tree-Break)) c.put.ensures
