use Rattle.std.proofs.Common.{ℕ, ◌<◌, ◌≤◌}
use Rattle.ba_watch.specs.Trails.{decided}
use Rattle.ba_learn.specs.Levels.{level_in, IsReached}
use Rattle.ba_learn.proofs.analyser.backjump_level.Given as goal

abbrev pub invariant-loop-lit : goal.invariant-loop-lit
invariant-loop-lit l = record {
  greatest : (k : ℕ) → k < l.lit-index → level_in l.watch l.lits k < decided l.watch.reasons →
      level_in l.watch l.lits k ≤ l.back;
  met : IsReached l.watch l.lits l.lit-index l.back;
}
