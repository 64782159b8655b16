use Rattle.ba_numbers.specs.declared.numbers.BinOp.TheVariants.{Mul}
use Rattle.ba_words.proofs.Outcomes.{circuit}
use Rattle.ba_muldiv.proofs.Values.{mul_value}
use Rattle.ba_muldiv.proofs.product.mul.Goals as goal

pub returns : goal.returns
returns c = circuit Mul c.args.nodes.now c.any_product.new.nodes c.args.a.now c.args.b.now
    c.any_product.result mul_value c.told-a c.told-b c.any_product.ensures
