use Rattle.std.proofs.Common.{◌≡◌, ℕ, ◌+◌, ◌-◌, ◌^◌, ◌≤◌, nat_le, length}
use Rattle.ba_nodes.specs.Gates.{Grows, HasValue}
use Rattle.ba_words.specs.Words.{number_of, bit_at}
use Rattle.ba_muldiv.proofs.division.ones_from.Given as goal

abbrev pub invariant-loop-i : goal.invariant-loop-i
invariant-loop-i l = record {
  grows : Grows l.fn.nodes l.nodes l.i;
  value : HasValue l.nodes l.some (λ free. nat_le (2 ^ (32 - l.i)) (number_of free l.fn.nodes l.word));
  long : length l.above ≡ 32;
  ones : (place : ℕ) → 32 - l.i ≤ place → place ≤ 32 →
      HasValue l.nodes (bit_at l.above place) (λ free. nat_le (2 ^ place) (number_of free l.fn.nodes l.word));
}
