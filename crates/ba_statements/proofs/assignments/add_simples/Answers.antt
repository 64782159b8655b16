use Rattle.std.proofs.Common.{List, map, ap}
use Rattle.ba_trees.specs.declared.tree.statements.ListedSimple.{ListedSimple}
use Rattle.ba_statements.specs.Adding.{behind_part, state}
use Rattle.ba_typing.specs.Declarations.{Part, in_order}
use Rattle.ba_typing.specs.Statements.{add_simple, add_simples}
use Rattle.ba_statements.proofs.Adding.{next-part, no-part}
use Rattle.ba_statements.proofs.assignments.add_simples.Goals as goal

pub loop-listed-init : goal.loop-listed-init
loop-listed-init c = ap (λ (xs : List ListedSimple). behind_part (in_order (map (λ (x : ListedSimple).
    add_simple x.simple) xs))
    (state c.args.scope.now c.args.work.now c.args.stmts.now)) c.deref-listed-items.ensures.value

pub loop-listed-preserved : goal.loop-listed-preserved
loop-listed-preserved c = let part : ListedSimple → Part = λ x. add_simple x.simple in
    next-part part c.deref-listed-items.result.now c.loop-listed.listed-index c.listed-item.result
    (state c.args.scope.now c.loop-listed.work c.loop-listed.stmts)
    (state c.args.scope.now c.add_simple.new.work c.add_simple.new.stmts)
    (behind_part (add_simples c.args.simples.now) (state c.args.scope.now c.args.work.now c.args.stmts.now))
    c.loop-listed-test.true c.listed-item.is c.loop-listed.invariant c.in_ok-add_simple.ensures

pub returns : goal.returns
returns c = let part : ListedSimple → Part = λ x. add_simple x.simple in
    no-part part c.deref-listed-items.result.now c.loop-listed.listed-index
    (state c.args.scope.now c.loop-listed.work c.loop-listed.stmts)
    (behind_part (add_simples c.args.simples.now) (state c.args.scope.now c.args.work.now c.args.stmts.now))
    c.loop-listed-test.false c.loop-listed.invariant
