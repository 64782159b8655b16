use Rattle.std.proofs.Common.{map}
use Rattle.ba_all.proofs.Counting.{IsCutting}
use Rattle.ba_all.proofs.cuts.runs_in.Given as goal

abbrev pub invariant-loop-input : goal.invariant-loop-input
invariant-loop-input l = IsCutting l.program l.bounds l.set l.inputs l.input-index l.choices l.rest
    (map (λ run. run.now) l.runs.items)
