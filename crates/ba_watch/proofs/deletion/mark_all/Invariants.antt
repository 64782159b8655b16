use Rattle.ba_watch.specs.Deletion.{AreReferenced, IsWithout, IsNamed}
use Rattle.ba_watch.proofs.deletion.mark_all.Given as goal

abbrev pub invariant-loop-place : goal.invariant-loop-place
invariant-loop-place l = record {
  without : IsWithout (IsNamed l.numbers l.place) l.initial.arena l.arena;
  referenced : AreReferenced l.arena l.references.items;
}
