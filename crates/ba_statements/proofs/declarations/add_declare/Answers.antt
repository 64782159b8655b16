use Rattle.std.proofs.Common.{Bool, [], ◌∷◌, ◌++◌, cond, map, sym, ◌∙◌, ap, append-nil, eq-eqb}
use Rattle.std.proofs.lemmas.Result.{on_ok_weaker}
use Rattle.ba_tree.specs.Trees.{StmtTree, tree_of_stmt}
use Rattle.ba_tree.specs.Trees as tree
use Rattle.ba_statements.proofs.Declaring.{declare-is, not-zero}
use Rattle.ba_typing.proofs.StmtForms.{tree-Declare}
use Rattle.ba_statements.proofs.declarations.add_declare.Goals as goal

pub returns-then-depth-eq0 : goal.returns-then-depth-eq0
returns-then-depth-eq0 c work = let olds = map tree_of_stmt c.args.stmts.now.items in
    declare-is c.args.var c.args.scope.now work olds olds
    (sym (append-nil olds) ∙ ap (λ (b : Bool). olds ++ cond b [] (tree.declare c.args.var ∷ []))
    (sym (eq-eqb c.args.scope.now.depth 0 (sym c.depth.ensures ∙ c.if-depth-eq0.true))))

pub returns : goal.returns
returns c = let olds = map tree_of_stmt c.args.stmts.now.items in
    on_ok_weaker c.put.result (λ pushed work. declare-is c.args.var c.args.scope.now work olds _
    (pushed ∙ ap (λ (x : StmtTree). olds ++ x ∷ []) (tree-Declare c.args.var)
    ∙ ap (λ (b : Bool). olds ++ cond b [] (tree.declare c.args.var ∷ []))
    (sym (not-zero c.args.scope.now.depth (λ zero. c.if-depth-eq0.false (c.depth.ensures ∙ zero))))))
    c.put.ensures
