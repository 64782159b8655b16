use Rattle.std.proofs.Common.{sym, ◌∙◌}
use Rattle.ba_watch.proofs.Visits.{Underway-keep, Underway-visit, Underway-conflict}
use Rattle.ba_watch.proofs.ListSteps.{pending_live}
use Rattle.ba_watch.proofs.propagation.visit_next.Goals as goal

pub returns-then-is_some-clause-underway : goal.returns-then-is_some-clause-underway
returns-then-is_some-clause-underway c start t rest way =
    Underway-keep start _ _ t _ _ c.args.clause rest c.args.conflict way (sym c.is_some.ensures
    ∙ c.if-is_some.true) c.keep.ensures.arena

pub returns-then-visit_watch-clause-underway : goal.returns-then-visit_watch-clause-underway
returns-then-visit_watch-clause-underway c start t rest way =
    Underway-conflict start _ _ t _ _ _ c.args.clause rest c.args.conflict way
    (pending_live _ _ _ _ _ c.args.lists.now.threaded c.requires.next)
    (c.if-visit_watch.ensures.visits rest)

pub returns-else-visit_watch-clause-underway : goal.returns-else-visit_watch-clause-underway
returns-else-visit_watch-clause-underway c start t rest way =
    Underway-visit start _ _ t _ _ _ c.args.clause rest c.args.conflict way (sym c.is_some.ensures
    ∙ c.if-is_some.false) (c.if-visit_watch.ensures.visits rest)
