use Rattle.std.proofs.Common.{◌≡◌}
use Rattle.ba_all.proofs.Counting.{tests_from}
use Rattle.ba_all.specs.AllRuns.{judge_of_all}
use Rattle.ba_all.specs.Cuts.{all_good}
use Rattle.ba_all.proofs.judge.are_good.Given as goal

-- what is said of all inputs is said of those that are left, with the choices that are left
abbrev pub invariant-loop-input : goal.invariant-loop-input
invariant-loop-input l = judge_of_all l.program l.inputs l.bounds l.groups l.run
    ≡ all_good (tests_from l.program l.bounds l.groups l.inputs l.input-index) l.rest
