use Rattle.ba_bits.proofs.Computing.{truth-word}
use Rattle.ba_bits.proofs.leaves.truth_word.Goals as goal

pub returns : goal.returns
returns c nodes named = truth-word nodes c.constant_word-word.result c.args.bit named
    (c.constant_word-word.ensures nodes)
