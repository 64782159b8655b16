use Rattle.std.proofs.Common.{List, map, ap}
use Rattle.ba_trees.specs.declared.tree.declarations.ListedDeclarator.{ListedDeclarator}
use Rattle.ba_statements.specs.Adding.{behind_part, state}
use Rattle.ba_typing.specs.Declarations.{Part, add_declarator, add_declarators, in_order}
use Rattle.ba_statements.proofs.Adding.{next-part, no-part}
use Rattle.ba_statements.proofs.declarations.add_declarators.Goals as goal

pub loop-listed-init : goal.loop-listed-init
loop-listed-init c = let part : ListedDeclarator → Part = λ x. add_declarator c.args.functions.now c.args.t
    x.declarator in
    ap (λ (xs : List ListedDeclarator). behind_part (in_order (map part xs))
    (state c.args.scope.now c.args.work.now c.args.stmts.now)) c.deref-listed-items.ensures.value

pub loop-listed-preserved : goal.loop-listed-preserved
loop-listed-preserved c =
    let part : ListedDeclarator → Part = λ x. add_declarator c.args.functions.now c.args.t x.declarator in
    next-part part c.deref-listed-items.result.now c.loop-listed.listed-index c.listed-item.result
    (state c.loop-listed.scope c.loop-listed.work c.loop-listed.stmts)
    (state c.add_declarator.new.scope c.add_declarator.new.work c.add_declarator.new.stmts)
    (behind_part (add_declarators c.args.functions.now c.args.t c.args.declarators.now)
    (state c.args.scope.now c.args.work.now c.args.stmts.now))
    c.loop-listed-test.true c.listed-item.is c.loop-listed.invariant c.in_ok-add_declarator.ensures

pub returns : goal.returns
returns c = let part : ListedDeclarator → Part = λ x. add_declarator c.args.functions.now c.args.t
    x.declarator in
    no-part part c.deref-listed-items.result.now c.loop-listed.listed-index
    (state c.loop-listed.scope c.loop-listed.work c.loop-listed.stmts)
    (behind_part (add_declarators c.args.functions.now c.args.t c.args.declarators.now)
    (state c.args.scope.now c.args.work.now c.args.stmts.now))
    c.loop-listed-test.false c.loop-listed.invariant
