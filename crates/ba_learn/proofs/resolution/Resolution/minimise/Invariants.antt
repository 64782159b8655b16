use Rattle.std.proofs.Common.{◌≡◌, ◌≤◌, length}
use Rattle.ba_learn.specs.Resolving.{Resolves, KeepsWork, IsMinimisedFrom}
use Rattle.ba_learn.proofs.resolution.Resolution.minimise.Given as goal

abbrev pub invariant-loop-index : goal.invariant-loop-index
invariant-loop-index l = record {
  resolves : Resolves l.watch l.initial.self l.self;
  work : KeepsWork l.watch l.initial.self l.self;
  pending : l.self.pending ≡ l.initial.self.pending;
  within : l.index ≤ length l.self.kept;
  short : IsMinimisedFrom l.watch l.self l.index;
}

abbrev pub decreases-loop-index : goal.decreases-loop-index
decreases-loop-index l = l.index
