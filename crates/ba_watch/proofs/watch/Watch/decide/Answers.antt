use Rattle.std.proofs.Common.{None, ap, ◌∙◌}
use Rattle.ba_watch.specs.Propagation.{State}
use Rattle.ba_watch.proofs.Sounds.{Sound-push}
use Rattle.ba_watch.proofs.watch.Watch.decide.Goals as goal

pub invariant_of-self : goal.invariant_of-self
invariant_of-self c = (
  Sound-push _ _ _ c.self.inside.trail c.push.new.self _ _ c.self.inside.settled c.args.lit None
      c.self.invariant.0 c.push.ensures.pushed c.push.ensures.trail (λ r e. absurd (cc e))
      (λ _. ap (λ (s : State). s.settled) c.self.view_is ∙ c.requires.settled),
  c.self.invariant.1,
)
