use Rattle.ba_bits.proofs.Spelling.{DigitsSoFar}
use Rattle.ba_bits.proofs.leaves.constant_word.Given as goal

abbrev pub invariant-loop-i : goal.invariant-loop-i
invariant-loop-i l = DigitsSoFar l.word l.i l.rest l.fn.number
