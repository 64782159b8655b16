use Rattle.std.proofs.Common.{◌≡◌, ℕ, ◌+◌, ◌/◌, ◌%◌, ◌<◌, ◌≤◌, ◌&&◌, length}
use Rattle.ba_nodes.specs.Gates.{truth, Grows, HasValue}
use Rattle.ba_words.specs.Words.{bit_at, AreBitsOf}
use Rattle.ba_cells.proofs.combined.Given as goal

abbrev pub invariant-loop-n : goal.invariant-loop-n
invariant-loop-n l = record {
  long : length l.bits ≡ 16;
  are_bits : AreBitsOf l.nodes l.bits;
  grows : Grows l.fn.nodes l.nodes l.n;
  value : (k : ℕ) → k < l.n → HasValue l.nodes (bit_at l.bits k) (λ free.
      truth free l.fn.nodes (bit_at l.upper (k / 4)) && truth free l.fn.nodes (bit_at l.lower (k % 4)));
}
