use Rattle.ba_bits.proofs.Computing.{chosen-number, number-same}
use Rattle.ba_nodes.specs.Gates.{truth}
use Rattle.ba_wordlist.specs.Meaning.{is_nonzero}
use Rattle.ba_bits.specs.Bits.{value_in}
use Rattle.ba_words.specs.Words.{number_of}
use Rattle.ba_words.proofs.Circuits.{number_small}
use Rattle.ba_words.proofs.Outcomes.{on_ok}
use Rattle.ba_words.proofs.Places.{number_of-extends}
use Rattle.ba_bits.proofs.operators.choose.Goals as goal

pub returns-clause-value : goal.returns-clause-value
returns-clause-value c =
    on_ok c.select.result _ _
    (λ word has. number-same c.select.new.nodes word _ _ has
    (λ free. chosen-number (truth free c.is_set.new.nodes c.in_ok-bit.bit)
    (is_nonzero (value_in free c.args.nodes.now c.args.which.now))
    (number_of free c.is_set.new.nodes c.args.yes.now) (number_of free c.is_set.new.nodes c.args.no.now)
    (number_of free c.args.nodes.now c.args.yes.now) (number_of free c.args.nodes.now c.args.no.now)
    (c.in_ok-bit.ensures.value.holds free)
    (number_of-extends free c.args.nodes.now c.is_set.new.nodes c.args.yes.now c.is_set.ensures.extends
    c.requires.first)
    (number_of-extends free c.args.nodes.now c.is_set.new.nodes c.args.no.now c.is_set.ensures.extends
    c.requires.second)
    (number_small free c.args.nodes.now c.args.yes.now c.told-yes)
    (number_small free c.args.nodes.now c.args.no.now c.told-no)))
    c.select.ensures.number
