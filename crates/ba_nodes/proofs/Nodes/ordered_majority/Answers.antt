use Rattle.std.proofs.Common.{sym, ap, arith, ◌∙◌}
use Rattle.ba_nodes.specs.Gates.{bool_majority, truth}
use Rattle.ba_nodes.proofs.Folding.{truth-zero, truth-opposed, makes_old, makes_same, majority_opposed, majority_last_opposed}
use Rattle.ba_nodes.proofs.Nodes.ordered_majority.Goals as goal

pub returns-then-a-eq0-clause-makes : goal.returns-then-a-eq0-clause-makes
returns-then-a-eq0-clause-makes c =
    makes_same c.args.self.now c.settled.new.self c.settled.result 1 3 _ _ c.settled.ensures.makes (omega arith)
    (λ free. ap (λ x. bool_majority x (truth free c.args.self.now c.args.b) (truth free c.args.self.now c.args.c)) (sym (truth-zero free c.args.self.now c.args.a c.if-a-eq0.true)))

pub returns-else-a-b-2-clause-makes : goal.returns-else-a-b-2-clause-makes
returns-else-a-b-2-clause-makes c =
    makes_old c.args.self.now c.args.c 3 _ c.requires.third
    (λ free.
    majority_opposed (truth free c.args.self.now c.args.a) (truth free c.args.self.now c.args.c)
    ∙ ap (λ y. bool_majority (truth free c.args.self.now c.args.a) y (truth free c.args.self.now c.args.c))
    (sym (truth-opposed free c.args.self.now c.args.a c.args.b c.if-a-b.true c.if-a-b-2.false)))

pub returns-else-b-c-2-clause-makes : goal.returns-else-b-c-2-clause-makes
returns-else-b-c-2-clause-makes c =
    makes_old c.args.self.now c.args.a 3 _ c.requires.first
    (λ free.
    majority_last_opposed (truth free c.args.self.now c.args.a) (truth free c.args.self.now c.args.b)
    ∙ ap (λ z. bool_majority (truth free c.args.self.now c.args.a) (truth free c.args.self.now c.args.b) z)
    (sym (truth-opposed free c.args.self.now c.args.b c.args.c c.if-b-c.true c.if-b-c-2.false)))
