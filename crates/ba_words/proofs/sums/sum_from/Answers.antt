use Rattle.std.proofs.Common.{arith, rules}
use Rattle.ba_words.proofs.Carries.{highest_sum}
use Rattle.ba_words.proofs.Outcomes.{makes_word}
use Rattle.ba_words.proofs.sums.sum_from.Goals as goal

pub returns : goal.returns
returns c = makes_word (search rules)
    (highest_sum c.args.nodes.now c.low_sums.new.nodes c.sum_bit.new.nodes c.args.a.now c.args.b.now c.args.carry c.args.from c.in_ok-sums.sums c.in_ok-sums.carried c.in_ok-sums-2.field-0
    (omega arith) c.told-a c.told-b c.requires.words.first c.requires.words.second c.low_sums.ensures.grows.extends c.sum_bit.ensures.grows.extends c.in_ok-sums.ensures.sums c.in_ok-sums-2.ensures.value)
