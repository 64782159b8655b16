use Rattle.std.proofs.Common.{◌≡◌, drop}
use Rattle.ba_tree.specs.Run.{begin_all}
use Rattle.ba_interp.proofs.frames.begin_all.Given as goal

-- the whole is what is left from here
abbrev pub invariant-loop-var : goal.invariant-loop-var
invariant-loop-var l = begin_all l.program l.vars l.initial.machine ≡ begin_all l.program (drop l.var-index
    l.vars) l.machine
