use Rattle.std.proofs.Common.{subst}
use Rattle.ba_watch.specs.Propagation.{State, KeepsFacts}
use Rattle.ba_watch.proofs.Sounds.{keeps}
use Rattle.ba_watch.proofs.watch.Watch.keeps_facts.Goals as goal

pub returns : goal.returns
returns c = subst (λ (s : State). KeepsFacts s) c.self.view_is
    (keeps _ _ _ _ _ _ _ _ _ c.self.invariant.0 c.keep_apart.ensures)
