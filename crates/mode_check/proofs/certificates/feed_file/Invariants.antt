use Rattle.std.proofs.Common.{◌+◌, ◌-◌, ◌≤◌}
use Rattle.ba_check.specs.Readers.{seen}
use Rattle.ba_world.specs.World.{OnlyReads}
use Rattle.ba_answers.specs.Limits.{certificate_limit}
use Rattle.mode_check.proofs.Feeding.{IsFeeding}
use Rattle.mode_check.proofs.certificates.feed_file.Given as goal

-- the reader has read all bytes that were given, which are no more than there may be
abbrev pub invariant-loop-count : goal.invariant-loop-count
invariant-loop-count g l = record {
  feeding : IsFeeding l.name (seen g.J.RunJudge.accepts l.fn.confirm) (seen g.J.RunJudge.accepts l.confirm)
      (g.W.World.outside l.fn.world) (g.W.World.outside l.world) l.given;
  within : l.given ≤ certificate_limit;
  stays : OnlyReads (g.W.World.outside l.fn.world) (g.W.World.outside l.world);
}

abbrev pub decreases-loop-count : goal.decreases-loop-count
decreases-loop-count g l = certificate_limit + 1 - l.given
