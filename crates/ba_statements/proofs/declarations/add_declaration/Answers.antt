use Rattle.std.proofs.Common.{map}
use Rattle.std.proofs.lemmas.Result.{on_ok_weaker}
use Rattle.ba_statements.specs.Adding.{state_with, state}
use Rattle.ba_tree.specs.Trees.{tree_of_stmt}
use Rattle.ba_statements.proofs.Declaring.{declaration-adds}
use Rattle.ba_statements.proofs.declarations.add_declaration.Goals as goal

pub returns : goal.returns
returns c =
    let d = c.args.declaration.now in
    let stmts = map tree_of_stmt c.args.stmts.now.items in
    on_ok_weaker c.add_optional_declarators.result (λ adds.
    declaration-adds d.specifiers d.declarators c.new-functions.result c.type_specified-t.result
    (state_with c.args.scope.now c.args.work.now stmts)
    (state_with c.add_specifiers.new.scope c.add_specifiers.new.work stmts)
    (state c.add_optional_declarators.new.scope c.add_optional_declarators.new.work
    c.add_optional_declarators.new.stmts) c.new-functions.ensures c.type_specified-t.ensures
    (c.in_ok-add_specifiers.ensures stmts) adds) c.add_optional_declarators.ensures
