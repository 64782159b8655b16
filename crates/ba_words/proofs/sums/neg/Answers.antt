use Rattle.ba_words.proofs.Outcomes.{on_ok}
use Rattle.ba_words.proofs.Carries.{negated, are_bits-replicate}
use Rattle.ba_words.proofs.sums.neg.Goals as goal

pub sum-requires-clause-words : goal.sum-requires-clause-words
sum-requires-clause-words c = record {
  first = are_bits-replicate c.args.nodes.now 32 c.constant-zero.result (c.constant-zero.ensures.value c.args.nodes.now).is_bit;
  second = c.flip-complement.ensures.bits c.args.nodes.now c.requires;
}

pub returns-clause-value : goal.returns-clause-value
returns-clause-value c =
    on_ok c.sum.result _ _
    (λ word has. negated c.args.nodes.now c.sum.new.nodes c.args.a.now c.args.a.now word c.constant.result c.flip-complement.result c.constant-zero.result c.told-a
    (c.flip-complement.ensures.number c.args.nodes.now) (c.constant-zero.ensures.value c.args.nodes.now) (c.constant.ensures.value c.args.nodes.now) has)
    c.sum.ensures.number
