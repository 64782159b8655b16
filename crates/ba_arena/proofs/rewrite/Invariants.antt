use Rattle.std.proofs.Common.{◌≡◌, ◌++◌, map, take, drop}
use Rattle.ba_arena.specs.Words.{clauses_of}
use Rattle.ba_arena.specs.Compaction.{forwarded}
use Rattle.ba_arena.proofs.rewrite.Given as goal

abbrev pub invariant-loop-place : goal.invariant-loop-place
invariant-loop-place l =
    l.kept ≡ map (forwarded (clauses_of 0 l.words))
    (take l.place l.initial.kept) ++ drop l.place l.initial.kept
