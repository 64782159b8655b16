use Rattle.std.proofs.Common.{◌≡◌, ◌-◌, None, length}
use Rattle.ba_arena.specs.Clauses.{lits_at}
use Rattle.ba_watch.specs.Propagation.{AreFacts, Propagates}
use Rattle.ba_watch.proofs.propagation.propagate_all.Given as goal

abbrev pub invariant-loop-head : goal.invariant-loop-head
invariant-loop-head l = record {
  facts : AreFacts (lits_at l.lists.arena) l.trail.variables l.trail.lits l.trail.reasons l.head;
  idle : l.lists.pending ≡ None;
  heads : length l.lists.heads.items ≡ length l.initial.lists.heads.items;
  propagates : Propagates l.initial.lists.arena l.lists.arena l.initial.trail l.trail;
}

abbrev pub decreases-loop-head : goal.decreases-loop-head
decreases-loop-head l = l.trail.variables - l.head
