use Rattle.std.proofs.Common.{refl}
use Rattle.ba_nodes.proofs.Truths.{Extends_refl}
use Rattle.ba_words.proofs.Carries.{are_bits-replicate}
use Rattle.solver_tests.proofs.support.words.free_word.Goals as goal

pub loop-i-init : goal.loop-i-init
loop-i-init g c = record {
  long = refl;
  bits = are_bits-replicate c.args.nodes.now 32 c.constant-word.result (c.constant-word.ensures.value c.args.nodes.now).is_bit;
  extends = Extends_refl c.args.nodes.now;
}
