use Rattle.std.proofs.Common.{rules}
use Rattle.ba_numbers.specs.declared.numbers.BinOp.TheVariants.{Add}
use Rattle.ba_words.proofs.Outcomes.{circuit}
use Rattle.ba_words.proofs.Values.{add_value}
use Rattle.ba_words.proofs.sums.add.Goals as goal

pub returns : goal.returns
returns c = circuit Add c.args.nodes.now c.sum.new.nodes c.args.a.now c.args.b.now c.sum.result (λ signed m n m_small n_small. add_value signed m n) c.told-a c.told-b (search rules)
