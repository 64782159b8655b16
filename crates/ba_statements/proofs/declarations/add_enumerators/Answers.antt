use Rattle.std.proofs.Common.{ℤ, None, Some, List, SFits, w64, to_z, to_z-of_z, rules, ◌+◌, map, drop, ◌∙◌, ap}
use Rattle.ba_trees.specs.declared.tree.declarations.NextEnumerator.{NextEnumerator}
use Rattle.ba_statements.specs.Adding.{state_with, behind_part}
use Rattle.ba_typing.specs.Declarations.{add_enumerator_list, enumerators_in}
use Rattle.ba_statements.proofs.Enumerating.{all-listed, first-listed, next-listed}
use Rattle.ba_statements.proofs.declarations.add_enumerators.Goals as goal

pub loop-next-init : goal.loop-next-init
loop-next-init c stmts =
    let functions = c.args.functions.now in
    let list = c.args.list.now in
    let k = c.add_enumerator.new.scope in
    let u = c.add_enumerator.new.work in
    let z = c.in_ok-last.last in
    let fits : SFits w64 z = search rules in
    let others = λ (xs : List NextEnumerator). map (λ (n : NextEnumerator). n.enumerator) xs in
    ap (λ (z : ℤ). behind_part (add_enumerator_list functions (Some z) (others c.deref-next-items.result.now))
    (state_with k u stmts)) (to_z-of_z fits)
    ∙ ap (λ (xs : List NextEnumerator). behind_part (add_enumerator_list functions (Some z) (others xs))
    (state_with k u stmts)) c.deref-next-items.ensures.value
    ∙ first-listed functions None c.args.scope.now k c.args.work.now u z stmts list.first
    (others list.rest.items)
    c.in_ok-last.ensures

pub loop-next-preserved : goal.loop-next-preserved
loop-next-preserved c stmts =
    let functions = c.args.functions.now in
    let list = c.args.list.now in
    let k = c.add_enumerator-in-loop-next.new.scope in
    let u = c.add_enumerator-in-loop-next.new.work in
    let z = c.in_ok-last-2.last in
    let last = to_z w64 c.loop-next.last-bits in
    let scope = c.loop-next.scope in
    let w = c.loop-next.work in
    let x = c.next-item.result in
    let fits : SFits w64 z = search rules in
    let xs = c.deref-next-items.result.now in
    ap (λ (z : ℤ). behind_part (add_enumerator_list functions (Some z)
    (map (λ (n : NextEnumerator). n.enumerator) (drop (c.loop-next.next-index + 1) xs))) (state_with k u
    stmts))
    (to_z-of_z fits)
    ∙ next-listed functions (Some last) scope k w u z stmts xs c.loop-next.next-index x
    (behind_part (add_enumerator_list functions None (enumerators_in list))
    (state_with c.args.scope.now c.args.work.now stmts)) c.loop-next-test.true c.next-item.is
    c.in_ok-last-2.ensures (c.loop-next.invariant stmts)

pub returns : goal.returns
returns c stmts =
    let functions = c.args.functions.now in
    all-listed functions (Some (to_z w64 c.loop-next.last-bits)) c.deref-next-items.result.now
    c.loop-next.next-index
    (state_with c.loop-next.scope c.loop-next.work stmts)
    (behind_part (add_enumerator_list functions None (enumerators_in c.args.list.now))
    (state_with c.args.scope.now c.args.work.now stmts)) c.loop-next-test.false (c.loop-next.invariant stmts)
