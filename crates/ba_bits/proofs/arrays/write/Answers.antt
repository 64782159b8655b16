use Rattle.std.proofs.Common.{ap, ◌∙◌}
use Rattle.ba_bits.proofs.Elements.{written-numbers}
use Rattle.ba_bits.specs.Bits.{numbers_in, value_in}
use Rattle.ba_wordlist.specs.Meaning.{is_nonzero}
use Rattle.ba_bits.proofs.arrays.write.Goals as goal

pub returns-clause-numbers : goal.returns-clause-numbers
returns-clause-numbers c free =
    ap (numbers_in free c.write_cell.new.nodes) c.from_vec.ensures
    ∙ written-numbers c.args.nodes.now c.is_set.new.nodes c.write_cell.new.nodes c.args.array.now
    c.in_ok-written.written.items
    c.args.index.now c.args.value.now c.in_ok-bit.bit c.is_set.ensures.extends c.requires.cells
    c.requires.index c.requires.value
    c.told-array c.told-index c.told-value c.in_ok-written.ensures.cells.0 c.in_ok-written.ensures.value
    free (is_nonzero (value_in free c.args.nodes.now c.args.when.now)) (c.in_ok-bit.ensures.value.holds free)
