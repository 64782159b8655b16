use Rattle.std.proofs.Common.{arith}
use Rattle.ba_nodes.specs.Gates.{truth}
use Rattle.ba_nodes.proofs.Folding.{truth-opposed, makes_same, choice_opposed}
use Rattle.ba_nodes.proofs.Nodes.choice_of_one.Goals as goal

pub returns-clause-makes : goal.returns-clause-makes
returns-clause-makes c =
    makes_same c.args.self.now c.xor.new.self c.xor.result 3 3 _ _ c.xor.ensures.makes (omega arith)
    (λ free.
    choice_opposed (truth free c.args.self.now c.args.which) (truth free c.args.self.now c.args.yes) (truth free c.args.self.now c.args.no)
    (truth-opposed free c.args.self.now c.args.yes c.args.no c.requires.same c.if-yes-no.false))
