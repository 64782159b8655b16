use Rattle.ba_watch.proofs.Sounds.{Sound-new}
use Rattle.ba_watch.proofs.References.{referenced_none}
use Rattle.ba_watch.proofs.watch.Watch.new.Goals as goal

pub invariant_of-result : goal.invariant_of-result
invariant_of-result c = (
  Sound-new _ _ _ _ _ c.new.ensures.arena c.new.ensures.pending c.new-2.ensures c.new-3.ensures.items,
  referenced_none _ _ c.new.ensures.arena c.new-4.ensures.items,
)
