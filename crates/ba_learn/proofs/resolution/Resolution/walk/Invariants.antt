use Rattle.std.proofs.Common.{◌≡◌, ◌+◌, ◌≤◌, true}
use Rattle.ba_learn.specs.Resolving.{is_seen, IsWork, Resolves}
use Rattle.ba_learn.proofs.resolution.Resolution.walk.Given as goal

abbrev pub invariant-loop-self : goal.invariant-loop-self
invariant-loop-self l = record {
  resolves : Resolves l.watch l.initial.self l.self;
  work : IsWork l.watch (l.place + 1) l.self;
  floor : l.self.floor ≤ l.place;
  seen : is_seen l.self l.place ≡ true;
  some : 1 ≤ l.self.pending;
}

abbrev pub decreases-loop-self : goal.decreases-loop-self
decreases-loop-self l = l.place
