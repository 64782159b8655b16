use Rattle.std.proofs.Common.{◌≡◌, length}
use Rattle.ba_steps.specs.GoodRuns.{same_run}
use Rattle.ba_steps.proofs.list_judge.same_run.Given as goal

-- the runs are the same exactly if what is left of them is
abbrev pub invariant-loop-choice : goal.invariant-loop-choice
invariant-loop-choice l = same_run l.run l.other ≡ same_run l.left l.right

abbrev pub decreases-loop-choice : goal.decreases-loop-choice
decreases-loop-choice l = length l.left
