use Rattle.std.proofs.Common.{◌≡◌, ℕ, ◌<◌, nat_lt, length, if◌then◌else◌}
use Rattle.ba_words.specs.Words.{bit_at}
use Rattle.ba_words.proofs.conversions.extended.Given as goal

abbrev pub invariant-loop-i : goal.invariant-loop-i
invariant-loop-i l = record {
  long : length l.wide ≡ 32;
  places : (place : ℕ) → place < l.i → bit_at l.wide place ≡ (if nat_lt place l.width then bit_at l.word place else l.fill);
}
