use Rattle.ba_bits.proofs.operators.convert.Goals as goal

pub returns : goal.returns
returns c = record {
  long = c.convert_word.ensures.long;
  are_bits = c.convert_word.ensures.bits c.args.nodes.now c.requires;
  holds = λ free. c.convert_word.ensures.number c.args.nodes.now free;
}
