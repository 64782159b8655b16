use Rattle.std.proofs.Common.{◌≡◌, arith, is_some, subst, length}
use Rattle.ba_watch.specs.Trails.{Assignments}
use Rattle.ba_watch.proofs.TrailSteps.{small, room_left, room_seen, pushed_seen, pushed_view}
use Rattle.ba_watch.proofs.trail.Trail.push.Goals as goal

pub overflow_add-level : goal.overflow_add-level
overflow_add-level c =
    let room = room_left _ _ _ _ _ _ _ _ c.self.invariant.1 _ c.self.view_is c.args.lit c.variable.result
    c.variable.ensures.variable c.variable.ensures.counted c.requires.within c.requires.free in
    let short = room_seen _ _ _ _ _ _ _ _ c.self.invariant.1 _ c.self.view_is c.args.lit c.variable.result
    c.variable.ensures.variable c.variable.ensures.counted c.requires.within c.requires.free in
    omega (arith, room.3, short, c.self.invariant.0, c.decisions.ensures, small (is_some c.args.reason))

pub index_mut-requires : goal.index_mut-requires
index_mut-requires c =
    let room = room_left _ _ _ _ _ _ _ _ c.self.invariant.1 _ c.self.view_is c.args.lit c.variable.result
    c.variable.ensures.variable c.variable.ensures.counted c.requires.within c.requires.free in
    omega (arith, room.2, c.self.inside.levels.ok.0)

pub index_mut-requires-2 : goal.index_mut-requires-2
index_mut-requires-2 c =
    let room = room_left _ _ _ _ _ _ _ _ c.self.invariant.1 _ c.self.view_is c.args.lit c.variable.result
    c.variable.ensures.variable c.variable.ensures.counted c.requires.within c.requires.free in
    omega (arith, room.0, c.self.inside.lits.ok.0)

pub index_mut-requires-3 : goal.index_mut-requires-3
index_mut-requires-3 c =
    let room = room_left _ _ _ _ _ _ _ _ c.self.invariant.1 _ c.self.view_is c.args.lit c.variable.result
    c.variable.ensures.variable c.variable.ensures.counted c.requires.within c.requires.free in
    omega (arith, room.1, c.self.inside.reasons.ok.0)

pub overflow_cast-level : goal.overflow_cast-level
overflow_cast-level c =
    let room = room_left _ _ _ _ _ _ _ _ c.self.invariant.1 _ c.self.view_is c.args.lit c.variable.result
    c.variable.ensures.variable c.variable.ensures.counted c.requires.within c.requires.free in
    let short = room_seen _ _ _ _ _ _ _ _ c.self.invariant.1 _ c.self.view_is c.args.lit c.variable.result
    c.variable.ensures.variable c.variable.ensures.counted c.requires.within c.requires.free in
    omega (arith, room.3, short, c.self.invariant.0, c.decisions.ensures, small (is_some c.args.reason))

pub invariant_of-self : goal.invariant_of-self
invariant_of-self c = (
  c.self.invariant.0,
  rw c.some.ensures (pushed_seen _ _ _ _ _ _ _ _ c.self.invariant.1 _ c.self.view_is c.args.lit
      c.variable.result c.variable.ensures.variable c.variable.ensures.counted c.args.reason
      c.decisions.result c.is_negated.result c.decisions.ensures c.is_negated.ensures c.requires.within
      c.requires.free),
)

pub returns-clause-pushed : goal.returns-clause-pushed
returns-clause-pushed c = pushed_view _ _ _ _ _ _ _ _ c.self.invariant.1 _ c.self.view_is c.args.lit
    c.variable.result c.variable.ensures.variable c.variable.ensures.counted c.args.reason c.requires.within
    c.requires.free

pub returns-clause-trail : goal.returns-clause-trail
returns-clause-trail c = (pushed_seen _ _ _ _ _ _ _ _ c.self.invariant.1 _ c.self.view_is c.args.lit
    c.variable.result c.variable.ensures.variable c.variable.ensures.counted c.args.reason
    c.decisions.result c.is_negated.result c.decisions.ensures c.is_negated.ensures c.requires.within
    c.requires.free).trail

pub returns-clause-lengths : goal.returns-clause-lengths
returns-clause-lengths c = subst (λ (s : Assignments). length s.reasons ≡ length s.lits) c.self.view_is
    c.self.invariant.1.trail.same_length
