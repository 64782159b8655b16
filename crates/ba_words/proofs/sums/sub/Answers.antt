use Rattle.std.proofs.Common.{rules}
use Rattle.ba_numbers.specs.declared.numbers.BinOp.TheVariants.{Sub}
use Rattle.ba_words.proofs.Outcomes.{circuit}
use Rattle.ba_words.proofs.Values.{sub_value}
use Rattle.ba_words.proofs.sums.sub.Goals as goal

pub returns : goal.returns
returns c = circuit Sub c.args.nodes.now c.sum.new.nodes c.args.a.now c.args.b.now c.sum.result (λ signed m n m_small n_small. sub_value signed m n n_small) c.told-a c.told-b (search rules)
