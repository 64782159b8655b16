use Rattle.std.proofs.Common.{arith, true, refl}
use Rattle.ba_watch.proofs.TrailSteps.{grown, filled, whole}
use Rattle.ba_watch.proofs.trail.Trail.grow.Goals as goal

pub invariant_of-self-2 : goal.invariant_of-self-2
invariant_of-self-2 c =
    let i = c.self.inside in (
      omega (arith, c.if-variables.false),
      grown i.variables c.args.variables i.lits.items c.fill_up.new.items.items i.reasons.items
          c.fill_up-2.new.items.items i.levels.items c.fill_up-3.new.items.items i.assigned i.level
          i.values.items c.resize.new.self.items i.places.items c.fill_up-4.new.items.items true
          i.values.len c.none.result c.self.invariant.1
          (omega arith) refl (omega (arith, i.values.ok.0)) c.none.ensures c.fill_up.ensures.front
          c.fill_up-2.ensures.front c.fill_up-3.ensures.front c.fill_up-4.ensures.front
          c.in_ok-fill_up.ensures.room c.in_ok-fill_up-2.ensures.room c.in_ok-fill_up-3.ensures.room
          c.in_ok-fill_up-4.ensures.room c.in_ok-resize.ensures.items,
    )

pub invariant_of-self : goal.invariant_of-self
invariant_of-self c =
    let i = c.self.inside in (
      c.self.invariant.0,
      filled i.variables i.lits.items _ i.reasons.items _ i.levels.items _ i.assigned i.level
          i.values.items _ i.places.items _ c.self.invariant.1 c.fill_up.ensures.front
          (whole i.reasons.items) (whole i.levels.items) (whole i.places.items) refl,
    )

pub invariant_of-self-in_err-fill_up-2 : goal.invariant_of-self-in_err-fill_up-2
invariant_of-self-in_err-fill_up-2 c =
    let i = c.self.inside in (
      c.self.invariant.0,
      filled i.variables i.lits.items _ i.reasons.items _ i.levels.items _ i.assigned i.level
          i.values.items _ i.places.items _ c.self.invariant.1 c.fill_up.ensures.front
          c.fill_up-2.ensures.front (whole i.levels.items) (whole i.places.items) refl,
    )

pub invariant_of-self-in_err-fill_up-3 : goal.invariant_of-self-in_err-fill_up-3
invariant_of-self-in_err-fill_up-3 c =
    let i = c.self.inside in (
      c.self.invariant.0,
      filled i.variables i.lits.items _ i.reasons.items _ i.levels.items _ i.assigned i.level
          i.values.items _ i.places.items _ c.self.invariant.1 c.fill_up.ensures.front
          c.fill_up-2.ensures.front c.fill_up-3.ensures.front (whole i.places.items) refl,
    )

pub invariant_of-self-in_err-fill_up-4 : goal.invariant_of-self-in_err-fill_up-4
invariant_of-self-in_err-fill_up-4 c =
    let i = c.self.inside in (
      c.self.invariant.0,
      filled i.variables i.lits.items _ i.reasons.items _ i.levels.items _ i.assigned i.level
          i.values.items _ i.places.items _ c.self.invariant.1 c.fill_up.ensures.front
          c.fill_up-2.ensures.front c.fill_up-3.ensures.front c.fill_up-4.ensures.front refl,
    )

pub invariant_of-self-in_err-resize : goal.invariant_of-self-in_err-resize
invariant_of-self-in_err-resize c =
    let i = c.self.inside in (
      c.self.invariant.0,
      filled i.variables i.lits.items _ i.reasons.items _ i.levels.items _ i.assigned i.level
          i.values.items _ i.places.items _ c.self.invariant.1 c.fill_up.ensures.front
          c.fill_up-2.ensures.front c.fill_up-3.ensures.front c.fill_up-4.ensures.front
          c.in_err-resize.ensures.items,
    )
