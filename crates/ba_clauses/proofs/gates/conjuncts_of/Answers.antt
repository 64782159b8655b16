use Rattle.ba_clauses.specs.Sides.{IsOfNode}
use Rattle.ba_clauses.proofs.Taking.{IsCut-step, all_split, left_falls}
use Rattle.ba_clauses.proofs.gates.conjuncts_of.Goals as goal

pub loop-bit-smaller : goal.loop-bit-smaller
loop-bit-smaller c =
    left_falls c.args.nodes.now c.args.uses.now c.in-Some.bit c.loop-bit.left.items c.pop.new.self.items
    c.loop-bit.conjuncts.items
    c.expand.new.left.items c.expand.new.conjuncts.items c.requires.graph.ordered
    (all_split (IsOfNode c.args.nodes.now) c.loop-bit.left.items c.pop.new.self.items c.in-Some.bit
    c.in-Some.ensures.items c.loop-bit.invariant.bits).1.node
    c.in-Some.ensures.items c.in_ok-expand.ensures

pub loop-bit-preserved : goal.loop-bit-preserved
loop-bit-preserved c =
    IsCut-step c.args.nodes.now c.args.uses.now c.args.a c.args.b c.in-Some.bit c.loop-bit.left.items
    c.pop.new.self.items c.loop-bit.conjuncts.items
    c.expand.new.left.items c.expand.new.conjuncts.items c.requires.graph c.loop-bit.invariant
    c.in-Some.ensures.items c.in_ok-expand.ensures
