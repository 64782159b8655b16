use Rattle.std.proofs.Common.{sym, ap, arith, ◌∙◌, if◌then◌else◌}
use Rattle.ba_nodes.specs.Gates.{truth}
use Rattle.ba_nodes.proofs.Folding.{truth-zero, makes_same, choice_turned}
use Rattle.ba_nodes.proofs.Nodes.choice.Goals as goal

pub returns-then-yes-eq0-clause-makes : goal.returns-then-yes-eq0-clause-makes
returns-then-yes-eq0-clause-makes c =
    makes_same c.args.self.now c.unless.new.self c.unless.result 1 3 _ _ c.unless.ensures.makes (omega arith)
    (λ free. ap (λ y. if truth free c.args.self.now c.args.which then y else truth free c.args.self.now c.args.no) (sym (truth-zero free c.args.self.now c.args.yes c.if-yes-eq0.true)))

pub returns-then-no-eq0-clause-makes : goal.returns-then-no-eq0-clause-makes
returns-then-no-eq0-clause-makes c =
    makes_same c.args.self.now c.unless-then-no-eq0.new.self c.unless-then-no-eq0.result 1 3 _ _ c.unless-then-no-eq0.ensures.makes (omega arith)
    (λ free.
    ap (λ w. if w then c.args.no.negated else truth free c.args.self.now c.args.yes) (c.not.ensures.value c.args.self.now free)
    ∙ choice_turned (truth free c.args.self.now c.args.which) c.args.no.negated (truth free c.args.self.now c.args.yes)
    ∙ ap (λ n. if truth free c.args.self.now c.args.which then truth free c.args.self.now c.args.yes else n) (sym (truth-zero free c.args.self.now c.args.no c.if-no-eq0.true)))
