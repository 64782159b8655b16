use Rattle.std.proofs.Common.{arith, length, refl, ◌-◌}
use Rattle.ba_checker.specs.Listed.{firsts, any_listed}
use Rattle.ba_checker.proofs.ListedLaws.{AreListed-length, walk_start, walk_step}
use Rattle.ba_checker.proofs.clauses.lists_part.Goals as goal

pub loop-next-init : goal.loop-next-init
loop-next-init c = walk_start c.args.store.now (firsts c.args.index.now) c.args.key c.args.set.now
    c.latest-next.result (length c.args.index.now) c.latest-next.ensures

pub is_listed_part-requires-clause-within : goal.is_listed_part-requires-clause-within
is_listed_part-requires-clause-within c =
    let long = AreListed-length c.args.index.now c.args.store.now c.requires in
    omega (arith, long, c.loop-next-test.true, c.loop-next.invariant.0)

pub loop-next-smaller : goal.loop-next-smaller
loop-next-smaller c =
    let step = walk_step c.args.store.now (firsts c.args.index.now) c.args.key c.args.set.now
    c.loop-next.next (c.loop-next.next - 1) c.before-next.result
    (any_listed c.args.store.now (firsts c.args.index.now) c.args.key c.args.set.now
    (length c.args.index.now)) c.is_listed_part.result c.loop-next-test.true refl
    c.loop-next.invariant.1 c.before-next.ensures c.loop-next.invariant.2 c.is_listed_part.ensures
    c.if-is_listed_part.false in
    omega (arith, step.0, c.loop-next-test.true)

pub loop-next-preserved : goal.loop-next-preserved
loop-next-preserved c =
    let step = walk_step c.args.store.now (firsts c.args.index.now) c.args.key c.args.set.now
    c.loop-next.next (c.loop-next.next - 1) c.before-next.result
    (any_listed c.args.store.now (firsts c.args.index.now) c.args.key c.args.set.now
    (length c.args.index.now)) c.is_listed_part.result c.loop-next-test.true refl
    c.loop-next.invariant.1 c.before-next.ensures c.loop-next.invariant.2 c.is_listed_part.ensures
    c.if-is_listed_part.false in
    (omega (arith, step.0, c.loop-next.invariant.0), step.1, step.2)
