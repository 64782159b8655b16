use Rattle.std.proofs.Common.{◌≡◌, ◌++◌, drop}
use Rattle.ba_interp.specs.Frames.{all_taken}
use Rattle.ba_interp.proofs.frames.all_taken.Given as goal

abbrev pub invariant-loop-var : goal.invariant-loop-var
invariant-loop-var l = all_taken l.machine l.vars ≡ l.taken.items ++ all_taken l.machine (drop l.var-index
    l.vars)
