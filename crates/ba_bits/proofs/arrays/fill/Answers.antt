use Rattle.std.proofs.Common.{ap, ◌∙◌}
use Rattle.ba_bits.proofs.Elements.{chosen-extends}
use Rattle.ba_bits.specs.Bits.{numbers_in, value_in}
use Rattle.ba_nodes.specs.Gates.{truth}
use Rattle.ba_wordlist.specs.Meaning.{is_nonzero}
use Rattle.ba_bits.proofs.arrays.fill.Goals as goal

pub returns-clause-numbers : goal.returns-clause-numbers
returns-clause-numbers c free =
    ap (numbers_in free c.select_all.new.nodes) c.from_vec.ensures
    ∙ c.in_ok-filled.ensures.numbers free
    ∙ chosen-extends c.args.nodes.now c.is_set.new.nodes c.args.entries.now c.args.values.now
    c.args.array.now free
    (truth free c.is_set.new.nodes c.in_ok-bit.bit)
    (is_nonzero (value_in free c.args.nodes.now c.args.when.now))
    c.is_set.ensures.extends c.requires.entries c.requires.cells (c.in_ok-bit.ensures.value.holds free)
