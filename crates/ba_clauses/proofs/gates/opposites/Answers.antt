use Rattle.ba_nodes.specs.Gates.{opposite}
use Rattle.ba_clauses.proofs.Mapped.{mapped_more, mapped_all}
use Rattle.ba_clauses.proofs.gates.opposites.Goals as goal

pub loop-bit-preserved : goal.loop-bit-preserved
loop-bit-preserved c =
    mapped_more opposite c.loop-bit.others.items c.push.new.self.items c.args.bits.now c.loop-bit.bit-index _
    c.not.result c.loop-bit.invariant c.loop-bit-test.true c.not.ensures.bit c.in_ok-push.ensures.items

pub returns : goal.returns
returns c =
    mapped_all opposite c.loop-bit.others.items c.args.bits.now c.loop-bit.bit-index c.loop-bit.invariant
    c.loop-bit-test.false
