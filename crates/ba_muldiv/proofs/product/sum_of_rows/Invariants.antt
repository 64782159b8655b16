use Rattle.std.proofs.Common.{◌≡◌, ℕ, ◌+◌, ◌-◌, ◌*◌, ◌%◌, ◌^◌, ◌≤◌, Bool, length}
use Rattle.ba_nodes.specs.Gates.{gates_in, Extends}
use Rattle.ba_words.specs.Words.{number_of, AreBitsOf}
use Rattle.ba_muldiv.proofs.product.sum_of_rows.Given as goal

abbrev pub invariant-loop-i : goal.invariant-loop-i
invariant-loop-i l = record {
  long : length l.sum ≡ 32;
  bits : AreBitsOf l.nodes l.sum;
  extends : Extends l.fn.nodes l.nodes;
  left : (free : ℕ → Bool) (factor : ℕ) → l.plus ≡ (factor + l.minus) % 2 ^ 32 →
      (number_of free l.nodes l.sum + number_of free l.fn.nodes l.a * (l.plus % 2 ^ (32 - l.i))) % 2 ^ 32
      ≡ (number_of free l.fn.nodes l.a * factor + number_of free l.fn.nodes l.a * (l.minus % 2 ^ (32 -
      l.i))) % 2 ^ 32;
  gates : 2 * gates_in l.nodes ≤ 2 * gates_in l.fn.nodes + 9 * (l.i * l.i + l.i);
}
