use Rattle.std.proofs.Common.{arith}
use Rattle.ba_bits.proofs.Spelling.{free-all, free-more, free-start}
use Rattle.ba_bits.proofs.leaves.free_word.Goals as goal

pub loop-i-init : goal.loop-i-init
loop-i-init c = free-start c.args.nodes.now c.constant-word.result
    (c.constant-word.ensures.value c.args.nodes.now).is_bit

pub loop-i-preserved : goal.loop-i-preserved
loop-i-preserved c =
    free-more c.args.nodes.now c.loop-i.nodes c.free.new.self c.loop-i.word c.loop-i.i c.in_ok-word.field-0
    (omega arith)
    c.as_slice.ensures.ordered c.free.ensures.extends c.in_ok-word.ensures.value c.loop-i.invariant

pub returns-clause-any : goal.returns-clause-any
returns-clause-any c =
    free-all c.args.nodes.now c.loop-i.nodes c.loop-i.word c.loop-i.i (omega arith) c.loop-i.invariant
