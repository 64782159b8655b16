use Rattle.std.proofs.Common.{sym, ap, ◌∙◌, if◌then◌else◌}
use Rattle.ba_nodes.specs.Gates.{truth}
use Rattle.ba_nodes.proofs.Folding.{truth-zero, makes_old}
use Rattle.ba_nodes.proofs.Nodes.mux.Goals as goal

pub returns-then-which-clause-makes : goal.returns-then-which-clause-makes
returns-then-which-clause-makes c =
    makes_old c.args.self.now c.args.yes 3 _ c.requires.first
    (λ free. sym (ap (λ w. if w then truth free c.args.self.now c.args.yes else truth free c.args.self.now c.args.no)
    (truth-zero free c.args.self.now c.args.which c.if-which-eq0.true ∙ c.if-which.true)))

pub returns-else-which-clause-makes : goal.returns-else-which-clause-makes
returns-else-which-clause-makes c =
    makes_old c.args.self.now c.args.no 3 _ c.requires.second
    (λ free. sym (ap (λ w. if w then truth free c.args.self.now c.args.yes else truth free c.args.self.now c.args.no)
    (truth-zero free c.args.self.now c.args.which c.if-which-eq0.true ∙ c.if-which.false)))
