use Rattle.std.proofs.Common.{map}
use Rattle.std.specs.Borrow.{Bor}
use Rattle.std.specs.Prelude.{option_map}
use Rattle.std.proofs.lemmas.Result.{on_ok_weaker}
use Rattle.ba_tokens.specs.declared.token.Token.{Token}
use Rattle.ba_trees.specs.declared.tree.statements.ForFirst.TheVariants as for_first
use Rattle.ba_statements.specs.Adding.{state}
use Rattle.ba_tree.specs.Trees.{tree_of_stmt}
use Rattle.ba_statements.proofs.Adding.{behind-nothing}
use Rattle.ba_statements.proofs.ControlSteps.{first-as, first-declares}
use Rattle.ba_statements.proofs.control.add_first.Goals as goal

pub returns-in_ok-enter-in-Declaration : goal.returns-in_ok-enter-in-Declaration
returns-in_ok-enter-in-Declaration c = on_ok_weaker c.add_declarators.result
    (first-declares c.args.first.now c.args.scope.now c.args.work.now
    (map tree_of_stmt c.args.stmts.now.items)
    (state c.add_declarators.new.scope c.add_declarators.new.work c.add_declarators.new.stmts)
    c.in-Declaration.name c.in-Declaration.declarators c.new-functions.result c.type_named-t.result
    (option_map (λ (t : Bor Token). t.now) c.tag_of_type.result) c.enter.new.self c.add_tag_faults.new.tally
    c.in-Declaration.is c.new-functions.ensures c.type_named-t.ensures c.tag_of_type.ensures
    c.in_ok-enter-in-Declaration.ensures.ok c.add_tag_faults.ensures) c.add_declarators.ensures

pub returns-in-Simples : goal.returns-in-Simples
returns-in-Simples c = let scope = c.args.scope.now in on_ok_weaker c.add_simples.result
    (first-as c.args.first.now scope c.args.work.now (map tree_of_stmt c.args.stmts.now.items)
    (state scope c.add_simples.new.work c.add_simples.new.stmts) (for_first.Simples c.in-Simples.s)
    c.in-Simples.is) c.add_simples.ensures

pub returns-in-Nothing : goal.returns-in-Nothing
returns-in-Nothing c = let old = state c.args.scope.now c.args.work.now c.args.stmts.now in
    first-as c.args.first.now c.args.scope.now c.args.work.now (map tree_of_stmt c.args.stmts.now.items) old
    for_first.Nothing c.in-Nothing.is (behind-nothing old)
