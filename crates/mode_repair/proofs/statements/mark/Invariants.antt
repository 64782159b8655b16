use Rattle.std.proofs.Common.{◌≡◌, ℕ, ◌+◌, ◌<◌, false, length, get_or, drop}
use Rattle.std.specs.Prelude.{◌==◌, ◌||◌}
use Rattle.std.specs.List.{list_any}
use Rattle.mode_repair.proofs.statements.mark.Given as goal

-- what is marked, or will be
abbrev pub invariant-loop-number : goal.invariant-loop-number
invariant-loop-number l = record {
  all : length l.marks ≡ length l.initial.marks;
  each : (i : ℕ) → i < length l.initial.marks →
      (get_or l.marks i false || list_any (λ m. (i + 1) == m) (drop l.number-index l.numbers))
      ≡ (get_or l.initial.marks i false || list_any (λ m. (i + 1) == m) l.numbers);
}
