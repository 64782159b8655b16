use Rattle.std.proofs.Common.{◌+◌, ◌*◌, ◌≤◌, bit_xor}
use Rattle.ba_nodes.specs.Gates.{Grows}
use Rattle.ba_words.specs.Words.{low_number}
use Rattle.ba_words.proofs.Circuits.{LowIs}
use Rattle.ba_words.proofs.bitwise.bit_xor.Given as goal

abbrev pub invariant-loop-i : goal.invariant-loop-i
invariant-loop-i l = record {
  grows : Grows l.initial.nodes l.nodes (3 * l.i);
  number : LowIs l.nodes l.word l.i (λ free. bit_xor (low_number free l.initial.nodes l.a l.i) (low_number free l.initial.nodes l.b l.i));
}
