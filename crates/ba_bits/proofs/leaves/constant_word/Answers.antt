use Rattle.std.proofs.Common.{arith}
use Rattle.ba_bits.proofs.Spelling.{digits-all, digits-more, digits-start}
use Rattle.ba_bits.proofs.leaves.constant_word.Goals as goal

pub loop-i-init : goal.loop-i-init
loop-i-init c = digits-start c.constant-word.result c.args.number
    (λ nodes. (c.constant-word.ensures.value nodes).is_bit)

pub loop-i-preserved : goal.loop-i-preserved
loop-i-preserved c =
    digits-more c.loop-i.word c.loop-i.i c.loop-i.rest c.args.number c.constant.result (omega arith)
    c.loop-i.invariant c.constant.ensures.value

pub returns : goal.returns
returns c nodes =
    digits-all nodes c.loop-i.word c.loop-i.i c.loop-i.rest c.args.number (omega arith) (omega arith)
    (omega arith)
    c.loop-i.invariant
