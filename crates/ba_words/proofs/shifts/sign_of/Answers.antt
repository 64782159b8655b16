use Rattle.std.proofs.Common.{◌&&◌, sym, ap, ◌∙◌}
use Rattle.ba_nodes.specs.Gates.{truth}
use Rattle.ba_words.specs.Words.{bit_at}
use Rattle.ba_words.proofs.shifts.sign_of.Goals as goal

pub returns-else-signed-clause-value : goal.returns-else-signed-clause-value
returns-else-signed-clause-value c nodes free =
    (c.constant.ensures.value nodes).holds free ∙ sym (ap (λ s. s && truth free nodes (bit_at c.args.a.now 31)) c.if-signed.false)
