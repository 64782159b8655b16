use Rattle.std.proofs.Common.{length, ◌-◌}
use Rattle.ba_arena.proofs.Compacting.{IsMoving}
use Rattle.ba_arena.proofs.move_down.Given as goal

abbrev pub invariant-loop-place : goal.invariant-loop-place
invariant-loop-place l = IsMoving l.initial.words.items l.words.items l.place l.end

abbrev pub decreases-loop-place : goal.decreases-loop-place
decreases-loop-place l = length l.initial.words.items - l.place
