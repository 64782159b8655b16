use Rattle.std.proofs.Common.{◌≡◌, ℕ, ◌<◌, length}
use Rattle.ba_nodes.specs.Gates.{opposite}
use Rattle.ba_words.specs.Words.{bit_at}
use Rattle.ba_words.proofs.bitwise.flip.Given as goal

abbrev pub invariant-loop-i : goal.invariant-loop-i
invariant-loop-i l = record {
  long : length l.word ≡ 32;
  places : (place : ℕ) → place < l.i → bit_at l.word place ≡ opposite (bit_at l.a place);
}
