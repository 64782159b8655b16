use Rattle.std.proofs.Common.{◌≡◌, ℕ, ◌+◌, ◌<◌, false, length, get_or, drop}
use Rattle.std.specs.Prelude.{◌||◌}
use Rattle.ba_derivations.specs.Derivations.{sets_of}
use Rattle.ba_rank.specs.Ranking.{stands_in}
use Rattle.mode_repair.proofs.statements.marks_of.Given as goal

-- what is marked, or will be
abbrev pub invariant-loop-set : goal.invariant-loop-set
invariant-loop-set l = record {
  all : length l.marks.items ≡ length l.program.statements;
  each : (i : ℕ) → i < length l.program.statements →
      (get_or l.marks.items i false || stands_in (i + 1) (sets_of (drop l.set-index l.sets)))
      ≡ stands_in (i + 1) (sets_of l.sets);
}
