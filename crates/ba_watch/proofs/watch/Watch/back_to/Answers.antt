use Rattle.std.proofs.Common.{◌≡◌, arith, subst}
use Rattle.ba_watch.specs.Propagation.{State}
use Rattle.ba_watch.proofs.Sounds.{Sound-back, back, back_same}
use Rattle.ba_watch.proofs.watch.Watch.back_to.Goals as goal

pub invariant_of-self : goal.invariant_of-self
invariant_of-self c = (
  Sound-back _ _ _ c.self.inside.trail c.back_to.new.self _ _ c.args.level _ _ c.self.invariant.0
      (omega (arith, c.if-level.true, c.level.ensures.level)) c.back_to.ensures
      c.len-self-inside.ensures.trail c.len-self-inside.ensures.len,
  c.self.invariant.1,
)

pub returns-else-level : goal.returns-else-level
returns-else-level c =
    let i = c.self.inside in
    subst (λ (s : State). s ≡ back c.args.level s) c.self.view_is
    (back_same i.lists.arena i.trail i.settled c.args.level c.level.ensures.lengths
    (omega (arith, c.if-level.false, c.level.ensures.level)))
