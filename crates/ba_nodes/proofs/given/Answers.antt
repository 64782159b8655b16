use Rattle.std.proofs.Common.{sym, ◌∙◌}
use Rattle.ba_nodes.specs.Gates.{truth}
use Rattle.ba_nodes.proofs.Folding.{truth-same, given_true}
use Rattle.ba_nodes.proofs.given.Goals as goal

pub returns-then-bit-which-clause-value : goal.returns-then-bit-which-clause-value
returns-then-bit-which-clause-value c nodes free holds =
    (c.constant.ensures.value nodes).holds free
    ∙ given_true c.args.which.negated c.args.bit.negated (truth free nodes c.args.which) holds
    ∙ sym (truth-same free nodes c.args.which c.args.bit (sym c.if-bit-which.true))
