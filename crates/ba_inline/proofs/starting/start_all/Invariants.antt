use Rattle.std.proofs.Common.{take}
use Rattle.ba_inline.specs.Starting.{Starts}
use Rattle.ba_inline.proofs.starting.start_all.Given as goal

abbrev pub invariant-loop-var : goal.invariant-loop-var
invariant-loop-var l = Starts l.setting.program.now l.fn.scope l.scope (take l.var-index l.vars)
    l.fn.declared l.declared
