use Rattle.std.proofs.Common.{take}
use Rattle.ba_inline.specs.Starting.{AreParams}
use Rattle.ba_inline.proofs.starting.params_of.Given as goal

abbrev pub invariant-loop-var : goal.invariant-loop-var
invariant-loop-var l = AreParams l.setting.program.now l.scope l.globals l.declared (take l.var-index
    l.vars) l.params.items
