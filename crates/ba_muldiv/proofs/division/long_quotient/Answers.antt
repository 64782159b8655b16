use Rattle.std.proofs.Common.{◌∙◌, rules}
use Rattle.ba_words.proofs.Outcomes.{makes_word, on_ok}
use Rattle.ba_words.proofs.Places.{number_of-extends}
use Rattle.ba_muldiv.specs.Division.{long_quotient}
use Rattle.ba_muldiv.proofs.division.long_quotient.Goals as goal

pub returns : goal.returns
returns c = makes_word (search rules)
    (on_ok c.quotient_by_steps.result _ _ (λ word has. record {
      long = has.long;
      are_bits = has.are_bits;
      holds = λ free.
          let first = number_of-extends free c.args.nodes.now c.ones_from.new.nodes c.args.dividend.now
          c.ones_from.ensures.grows.extends c.requires.first in
          let second = number_of-extends free c.args.nodes.now c.ones_from.new.nodes c.args.divisor.now
          c.ones_from.ensures.grows.extends c.requires.second in
          has.holds free ∙ (λ i. long_quotient 32 (first i) (second i));
    })
    c.quotient_by_steps.ensures.number)
