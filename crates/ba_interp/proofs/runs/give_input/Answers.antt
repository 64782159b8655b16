use Rattle.std.proofs.Common.{sym, ◌∙◌, inl, inr}
use Rattle.ba_interp.proofs.RunArms.{no_more_params, no_more_given}
use Rattle.ba_interp.proofs.runs.give_input.Goals as goal

pub returns : goal.returns
returns c = sym (c.loop-param.invariant ∙ (elim c.in-None.ensures.steps [
  | inl none ↦ no_more_params c.args.program.now c.loop-param.param-iterator.a.rest.now
      c.loop-param.param-iterator.b.rest.now c.loop-param.machine none.1.0
  | inr none ↦ no_more_given c.args.program.now c.loop-param.param-iterator.a.rest.now
      c.loop-param.param-iterator.b.rest.now c.loop-param.machine none.1.0
]))
