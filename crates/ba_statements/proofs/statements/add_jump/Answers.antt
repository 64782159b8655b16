use Rattle.std.proofs.Common.{◌∷◌, [], ◌++◌, map, sym, ◌∙◌, ap}
use Rattle.std.proofs.lemmas.Result.{on_ok_weaker}
use Rattle.ba_statements.specs.Adding.{behind_part, state}
use Rattle.ba_typing.specs.Statements.{add_jump}
use Rattle.ba_tree.specs.Trees.{StmtTree, tree_of_stmt}
use Rattle.ba_typing.specs.declared.names.Jump.{Jump}
use Rattle.ba_statements.proofs.StatementSteps.{return-none-is}
use Rattle.ba_typing.proofs.StmtForms.{tree-ReturnNone}
use Rattle.ba_statements.proofs.statements.add_jump.Goals as goal

pub returns-in-Break : goal.returns-in-Break
returns-in-Break c = on_ok_weaker c.add_break.result (λ added. added
    ∙ ap (λ (j : Jump). behind_part (add_jump c.args.keyword.now.at j)
    (state c.args.scope.now c.args.work.now c.args.stmts.now)) (sym c.in-Break.is ∙ c.jump_of.ensures))
    c.add_break.ensures

pub returns-in-Continue : goal.returns-in-Continue
returns-in-Continue c = on_ok_weaker c.add_continue.result (λ added. added
    ∙ ap (λ (j : Jump). behind_part (add_jump c.args.keyword.now.at j)
    (state c.args.scope.now c.args.work.now c.args.stmts.now)) (sym c.in-Continue.is ∙ c.jump_of.ensures))
    c.add_continue.ensures

pub returns-in-Return : goal.returns-in-Return
returns-in-Return c = let w = c.args.work.now in let scope = c.args.scope.now in
    let olds = map tree_of_stmt c.args.stmts.now.items in on_ok_weaker c.put.result (λ pushed.
    return-none-is scope w olds _ (pushed ∙ ap (λ (x : StmtTree). olds ++ x ∷ []) tree-ReturnNone)
    ∙ ap (λ (j : Jump). behind_part (add_jump c.args.keyword.now.at j) (state scope w c.args.stmts.now))
    (sym c.in-Return.is ∙ c.jump_of.ensures)) c.put.ensures
