use Rattle.std.proofs.Common.{◌≡◌, length}
use Rattle.ba_nodes.specs.Gates.{Extends}
use Rattle.ba_words.specs.Words.{AreBitsOf}
use Rattle.solver_tests.proofs.support.words.free_word.Given as goal

abbrev pub invariant-loop-i : goal.invariant-loop-i
invariant-loop-i g l = record {
  long : length l.word ≡ 32;
  bits : AreBitsOf l.nodes l.word;
  extends : Extends l.fn.nodes l.nodes;
}
