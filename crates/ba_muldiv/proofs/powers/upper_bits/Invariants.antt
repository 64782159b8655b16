use Rattle.std.proofs.Common.{◌≡◌, ℕ, ◌+◌, ◌-◌, ◌<◌, nat_lt, false, List, length, if◌then◌else◌}
use Rattle.ba_nodes.specs.declared.Node.{Node}
use Rattle.ba_nodes.specs.Gates.{constant_bit}
use Rattle.ba_words.specs.Words.{bit_at, AreBitsOf}
use Rattle.ba_muldiv.proofs.powers.upper_bits.Given as goal

abbrev pub invariant-loop-i : goal.invariant-loop-i
invariant-loop-i l = record {
  long : length l.upper ≡ 32;
  bits : (nodes : List Node) → AreBitsOf nodes l.word → AreBitsOf nodes l.upper;
  places : (place : ℕ) → place < 32 → bit_at l.upper place ≡ (if nat_lt place (l.i - l.from) then bit_at
      l.word (place + l.from) else constant_bit false);
}
