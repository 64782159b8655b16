use Rattle.std.proofs.Common.{◌≡◌, ◌++◌, map, take, drop}
use Rattle.ba_arena.specs.Compaction.{followed}
use Rattle.ba_arena.proofs.Arena.follow.Given as goal

abbrev pub invariant-loop-place : goal.invariant-loop-place
invariant-loop-place l =
    l.live ≡ map (followed l.self) (take l.place l.initial.live) ++ drop l.place l.initial.live
