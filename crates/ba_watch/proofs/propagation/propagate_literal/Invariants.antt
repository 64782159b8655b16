use Rattle.std.proofs.Common.{◌≡◌, length}
use Rattle.ba_watch.specs.Threads.{pending_of}
use Rattle.ba_watch.specs.Propagation.{IsUnderway}
use Rattle.ba_watch.proofs.propagation.propagate_literal.Given as goal

abbrev pub invariant-loop-lists : goal.invariant-loop-lists
invariant-loop-lists l = record {
  visited : l.lists.visited ≡ l.initial.lists.visited;
  heads : length l.lists.heads.items ≡ length l.initial.lists.heads.items;
  underway : IsUnderway l.initial.lists.arena l.lists.arena l.initial.trail l.trail l.initial.lists.visited
      (pending_of l.lists.arena l.lists.visited l.lists.pending) l.conflict;
}

abbrev pub decreases-loop-lists : goal.decreases-loop-lists
decreases-loop-lists l = length (pending_of l.lists.arena l.lists.visited l.lists.pending)
