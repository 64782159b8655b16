use Rattle.std.proofs.Common.{◌≤◌}
use Rattle.ba_muldiv.proofs.constants.known_bits.Given as goal

abbrev pub invariant-loop-i : goal.invariant-loop-i
invariant-loop-i l = l.known ≤ l.i
