use Rattle.std.proofs.Common.{arith, ap, ◌∙◌}
use Rattle.ba_lits.specs.Literals.{index_of}
use Rattle.ba_watch.proofs.ListSteps.{pending_long_at, pending_other}
use Rattle.ba_watch.proofs.lists.Lists.watched_index.Goals as goal

pub lit-requires : goal.lit-requires
lit-requires c = omega (arith, pending_long_at _ _ _ _ _ c.args.self.now.threaded c.requires)

pub returns-else-index-self-clause-watched : goal.returns-else-index-self-clause-watched
returns-else-index-self-clause-watched c =
    pending_other _ _ _ _ _ c.args.self.now.threaded c.requires
    (λ e. c.if-index-self.false (c.index.ensures.index ∙ (ap index_of c.lit.ensures ∙ e)))
