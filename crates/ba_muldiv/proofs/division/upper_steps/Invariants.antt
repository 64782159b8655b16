use Rattle.std.proofs.Common.{◌≡◌, ℕ, Bool, length, ◌+◌, ◌-◌, ◌*◌, ◌%◌, ◌≤◌}
use Rattle.ba_nodes.specs.Gates.{Grows}
use Rattle.ba_words.specs.Words.{number_of, AreBitsOf, HasNumber}
use Rattle.ba_muldiv.specs.Division.{long_quotient, high_number, IsBounded}
use Rattle.ba_muldiv.proofs.division.upper_steps.Given as goal

abbrev pub invariant-loop-i : goal.invariant-loop-i
invariant-loop-i l = record {
  grows : Grows l.fn.nodes l.nodes (421 * l.i);
  quotient : HasNumber l.nodes l.quotient (λ free. long_quotient l.i
      (high_number free l.fn.nodes l.dividend (32 - l.i)) (number_of free l.fn.nodes l.divisor));
  rest : HasNumber l.nodes l.rest (λ free. high_number free l.fn.nodes l.dividend (32 - l.i) % number_of
      free l.fn.nodes l.divisor);
  bounds_long : length l.bounds ≡ 32;
  bounds_bits : AreBitsOf l.nodes l.bounds;
  bounded : (free : ℕ → Bool) → IsBounded free l.nodes l.bounds (number_of free l.nodes l.rest);
}
