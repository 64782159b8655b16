use Rattle.ba_nodes.proofs.Adding.{gate_in_order, gate_turned}
use Rattle.ba_nodes.proofs.Folding.{indices_differ}
use Rattle.ba_nodes.proofs.Nodes.gate.Goals as goal

pub returns-then-a-b-clause-again : goal.returns-then-a-b-clause-again
returns-then-a-b-clause-again c number gate =
    c.add.ensures.again number
    (gate_in_order c.args.self.now c.add.new.self number c.args.a c.args.b c.add.ensures.makes.grows.extends c.add.ensures.ordered c.if-a-b.true gate)

pub returns-else-a-b-clause-again : goal.returns-else-a-b-clause-again
returns-else-a-b-clause-again c number gate =
    c.add-else-a-b.ensures.again number
    (gate_in_order c.args.self.now c.add-else-a-b.new.self number c.args.b c.args.a c.add-else-a-b.ensures.makes.grows.extends c.add-else-a-b.ensures.ordered
    (indices_differ c.args.a c.args.b c.requires.needed c.if-a-b.false) (gate_turned c.args.self.now number c.args.a c.args.b gate))
