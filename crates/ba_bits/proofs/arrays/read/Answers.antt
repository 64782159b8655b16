use Rattle.std.proofs.Common.{◌≡◌, length, arith}
use Rattle.ba_bits.proofs.Elements.{read-low}
use Rattle.ba_bits.proofs.arrays.read.Goals as goal

pub returns-clause-value : goal.returns-clause-value
returns-clause-value c =
    let long : length c.in_ok-word.word ≡ 32 = omega arith in
    record {
      long = long;
      are_bits = c.in_ok-word.ensures.bits;
      holds = λ free. read-low free c.args.nodes.now c.read_cell.new.nodes c.args.array.now c.args.index.now
          c.in_ok-word.word
          c.told-index long c.in_ok-word.ensures.read;
    }
