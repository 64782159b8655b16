use Rattle.ba_bits.proofs.Spelling.{FreeSoFar}
use Rattle.ba_bits.proofs.leaves.free_word.Given as goal

abbrev pub invariant-loop-i : goal.invariant-loop-i
invariant-loop-i l = FreeSoFar l.fn.nodes l.nodes l.word l.i
