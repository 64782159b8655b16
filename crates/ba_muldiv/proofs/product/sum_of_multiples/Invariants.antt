use Rattle.std.proofs.Common.{◌≡◌, ℕ, ◌+◌, ◌-◌, ◌*◌, ◌%◌, ◌^◌, ◌≤◌, Bool, length}
use Rattle.ba_nodes.specs.Gates.{Grows}
use Rattle.ba_words.specs.Words.{number_of, low_number, AreBitsOf}
use Rattle.ba_muldiv.proofs.product.sum_of_multiples.Given as goal

abbrev pub invariant-loop-i : goal.invariant-loop-i
invariant-loop-i l = record {
  long : length l.sum ≡ 32;
  bits : AreBitsOf l.nodes l.sum;
  thrice : AreBitsOf l.nodes l.thrice;
  triple : (free : ℕ → Bool) → number_of free l.nodes l.thrice ≡ (3 * number_of free l.fn.nodes l.a) % 2 ^ 32;
  grows : Grows l.fn.nodes l.nodes (279 + 14 * (l.i * l.i) + 17 * l.i);
  left : (free : ℕ → Bool) → (number_of free l.nodes l.sum + number_of free l.fn.nodes l.a
      * low_number free l.fn.nodes l.factor (32 - 2 * l.i)) % 2 ^ 32
      ≡ (number_of free l.fn.nodes l.a * number_of free l.fn.nodes l.factor) % 2 ^ 32;
}
