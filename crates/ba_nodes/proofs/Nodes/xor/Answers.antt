use Rattle.std.proofs.Common.{sym, ap, ◌∙◌, arith}
use Rattle.ba_nodes.specs.Gates.{bool_xor, truth}
use Rattle.ba_nodes.proofs.Folding.{truth-zero, truth-same, makes_old, xor_turned, xor_same}
use Rattle.ba_nodes.proofs.Nodes.xor.Goals as goal

pub returns-then-a-eq0-clause-makes : goal.returns-then-a-eq0-clause-makes
returns-then-a-eq0-clause-makes c =
    makes_old c.args.self.now c.negated_if.result 3 _ (omega (arith, c.negated_if.ensures.index, c.requires.second))
    (λ free.
    c.negated_if.ensures.value c.args.self.now free
    ∙ ap (λ x. bool_xor x (truth free c.args.self.now c.args.b)) (sym (truth-zero free c.args.self.now c.args.a c.if-a-eq0.true)))

pub returns-then-b-eq0-clause-makes : goal.returns-then-b-eq0-clause-makes
returns-then-b-eq0-clause-makes c =
    makes_old c.args.self.now c.negated_if-then-b-eq0.result 3 _ (omega (arith, c.negated_if-then-b-eq0.ensures.index, c.requires.first))
    (λ free.
    c.negated_if-then-b-eq0.ensures.value c.args.self.now free
    ∙ xor_turned c.args.b.negated (truth free c.args.self.now c.args.a)
    ∙ ap (bool_xor (truth free c.args.self.now c.args.a)) (sym (truth-zero free c.args.self.now c.args.b c.if-b-eq0.true)))

pub returns-then-a-b-clause-makes : goal.returns-then-a-b-clause-makes
returns-then-a-b-clause-makes c =
    makes_old c.args.self.now c.negated_if-then-a-b.result 3 _ (omega (arith, c.negated_if-then-a-b.ensures.index, (c.constant.ensures.value c.args.self.now).is_bit))
    (λ free.
    c.negated_if-then-a-b.ensures.value c.args.self.now free
    ∙ ap (bool_xor c.args.b.negated) ((c.constant.ensures.value c.args.self.now).holds free)
    ∙ xor_same c.args.a.negated c.args.b.negated (truth free c.args.self.now c.args.a)
    ∙ ap (bool_xor (truth free c.args.self.now c.args.a)) (sym (truth-same free c.args.self.now c.args.a c.args.b c.if-a-b.true)))
