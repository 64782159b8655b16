use Rattle.std.proofs.Common.{sym}
use Rattle.ba_bits.proofs.Low.{nonzero-pos}
use Rattle.ba_words.specs.Words.{number_of}
use Rattle.ba_words.proofs.Circuits.{HasValue-same}
use Rattle.ba_words.proofs.Outcomes.{on_ok}
use Rattle.ba_bits.proofs.operators.is_set.Goals as goal

pub returns-clause-value : goal.returns-clause-value
returns-clause-value c =
    on_ok c.nonzero.result _ _
    (λ bit has. HasValue-same c.nonzero.new.nodes bit _ _ has
    (λ free. sym (nonzero-pos (number_of free c.args.nodes.now c.args.a.now))))
    c.nonzero.ensures.makes.value
