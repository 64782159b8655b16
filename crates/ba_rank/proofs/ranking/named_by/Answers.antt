use Rattle.std.proofs.Common.{ap, ◌++◌, ◌∙◌}
use Rattle.ba_rank.specs.Counts.{once_if}
use Rattle.ba_rank.specs.Ranking.{stands_in}
use Rattle.ba_rank.proofs.Ranks.{named-more}
use Rattle.ba_rank.proofs.ranking.named_by.Goals as goal

pub loop-sets-preserved : goal.loop-sets-preserved
loop-sets-preserved c n =
    named-more n c.args.lists.now c.loop-sets.sets-index c.sets-item.result c.loop-sets.numbers.items
    c.in_ok-others.others.items c.extend_from_slice.new.self.items c.loop-sets-test.true c.sets-item.is
    (c.loop-sets.invariant n)
    (c.in_ok-others.ensures n ∙ ap (λ sets. once_if (stands_in n sets)) c.as_slice.ensures)
    (c.in_ok-extend_from_slice.ensures.items
    ∙ ap (λ others. c.loop-sets.numbers.items ++ others) c.as_slice-in-loop-sets.ensures.value)
