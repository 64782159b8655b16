use Rattle.std.proofs.Common.{arith}
use Rattle.ba_watch.proofs.TrailSteps.{level_opened, index_within, popped_seen}
use Rattle.ba_watch.proofs.trail.Trail.pop.Goals as goal

pub overflow_sub-self : goal.overflow_sub-self
overflow_sub-self c = level_opened _ _ _ _ _ _ _ _ c.self.invariant.1 _ c.self.view_is c.requires
    c.index-2.result.now c.decisions.result c.index-2.ensures c.decisions.ensures

pub index_mut-requires : goal.index_mut-requires
index_mut-requires c =
    omega (
      arith,
      index_within _ _ _ _ _ _ _ _ c.self.invariant.1 _ c.self.view_is c.requires
          c.index.result.now c.variable.result c.index.ensures c.variable.ensures.variable,
      c.self.inside.values.ok.0,
    )

pub invariant_of-self : goal.invariant_of-self
invariant_of-self c = (
  c.self.invariant.0,
  rw c.none.ensures (popped_seen _ _ _ _ _ _ _ _ c.self.invariant.1 _ c.self.view_is c.requires
      c.index.result.now c.variable.result c.index-2.result.now c.decisions.result c.index.ensures
      c.variable.ensures.variable c.index-2.ensures c.decisions.ensures),
)
