use Rattle.ba_words.proofs.Carries.{are_bits-replicate}
use Rattle.solver_tests.proofs.support.words.word.Goals as goal

pub loop-i-init : goal.loop-i-init
loop-i-init c nodes = are_bits-replicate nodes 32 c.constant-bits.result (c.constant-bits.ensures.value nodes).is_bit
