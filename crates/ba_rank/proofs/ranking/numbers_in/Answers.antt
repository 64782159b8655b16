use Rattle.std.proofs.Common.{ap, ◌∙◌}
use Rattle.ba_rank.specs.Counts.{is_named, once_if}
use Rattle.ba_rank.proofs.Counting.{stands-named}
use Rattle.ba_rank.proofs.ranking.numbers_in.Goals as goal

pub returns : goal.returns
returns c n = c.leave_once.ensures.once n
    ∙ ap once_if (ap (is_named n) c.in_ok-numbers.ensures ∙ stands-named n c.args.sets.now)
