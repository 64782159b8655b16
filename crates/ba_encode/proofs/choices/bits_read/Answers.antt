use Rattle.std.proofs.Common.{ap, arith, map, sym}
use Rattle.std.proofs.lemmas.List.{drop_all}
use Rattle.ba_clauses.specs.Encodings.{value_read}
use Rattle.ba_lits.specs.Satisfaction.{assignment_of}
use Rattle.ba_words.specs.Words.{spelled}
use Rattle.ba_encode.proofs.choices.bits_read.Goals as goal

pub loop-i-init : goal.loop-i-init
loop-i-init c = record {
  number = ap (λ bits. spelled (map (value_read (assignment_of c.args.model.now.values)) bits))
      (sym (drop_all 32 c.args.bits.now (omega (arith, c.requires.long))));
  small = omega arith;
}
