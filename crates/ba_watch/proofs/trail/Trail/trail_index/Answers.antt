use Rattle.std.proofs.Common.{sym, ◌∙◌}
use Rattle.ba_watch.proofs.TrailSteps.{place_some, place_none}
use Rattle.ba_watch.proofs.trail.Trail.trail_index.Goals as goal

pub returns-then-is_some : goal.returns-then-is_some
returns-then-is_some c =
    place_some _ _ _ _ _ _ _ _ c.self.invariant.1 _ c.self.view_is c.args.variable c.requires.counted
    c.requires.within c.index.result.now c.index-then-is_some.result.now c.index.ensures
    (sym c.is_some.ensures ∙ c.if-is_some.true) c.index-then-is_some.ensures

pub returns-else-is_some : goal.returns-else-is_some
returns-else-is_some c =
    place_none _ _ _ _ _ _ _ _ c.self.invariant.1 _ c.self.view_is c.args.variable c.requires.counted
    c.requires.within c.index.result.now c.index.ensures (sym c.is_some.ensures ∙ c.if-is_some.false)
