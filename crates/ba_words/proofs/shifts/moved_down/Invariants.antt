use Rattle.std.proofs.Common.{◌≡◌, ℕ, ◌+◌, ◌-◌, ◌<◌, nat_lt, length, if◌then◌else◌}
use Rattle.ba_words.specs.Words.{bit_at}
use Rattle.ba_words.proofs.shifts.moved_down.Given as goal

abbrev pub invariant-loop-i : goal.invariant-loop-i
invariant-loop-i l = record {
  long : length l.moved ≡ 32;
  places : (place : ℕ) → place < l.i → bit_at l.moved place ≡ (if nat_lt place (32 - l.by) then bit_at l.word (place + l.by) else l.fill);
}
