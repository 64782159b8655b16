use Rattle.std.proofs.Common.{◌≡◌, ℕ, ◌+◌, ◌*◌, ◌≤◌, false}
use Rattle.ba_nodes.specs.Gates.{constant_bit, truth, Extends, Grows}
use Rattle.ba_words.specs.Words.{low_number, bit_at}
use Rattle.ba_words.proofs.Circuits.{LowIs}
use Rattle.ba_muldiv.proofs.Rows.{chosen_of}
use Rattle.ba_muldiv.proofs.product.multiple.Given as goal

abbrev pub invariant-loop-place : goal.invariant-loop-place
invariant-loop-place l = record {
  grows : Grows l.fn.nodes l.nodes (3 + 5 * l.place);
  bits : Extends l.initial.nodes l.nodes;
  number : LowIs l.nodes l.word l.place (λ free. chosen_of (truth free l.fn.nodes l.fn.high) (truth free
      l.fn.nodes l.fn.low)
      (low_number free l.fn.nodes l.a l.place) (low_number free l.fn.nodes l.twice l.place)
      (low_number free l.fn.nodes l.thrice l.place));
  zeros : (k : ℕ) → l.place ≤ k → bit_at l.word k ≡ constant_bit false;
}
