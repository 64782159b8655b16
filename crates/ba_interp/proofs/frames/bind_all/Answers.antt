use Rattle.std.proofs.Common.{sym, ◌∙◌, inl, inr}
use Rattle.ba_interp.proofs.Binding.{no_more_params, no_more_arguments}
use Rattle.ba_interp.proofs.frames.bind_all.Goals as goal

pub returns : goal.returns
returns c = sym (c.loop-param.invariant ∙ (elim c.in-None.ensures.steps [
  | inl none ↦ no_more_params c.loop-param.param-iterator.a.rest.now c.loop-param.param-iterator.b.rest.now
      c.loop-param.machine none.1.0
  | inr none ↦ no_more_arguments c.loop-param.param-iterator.a.rest.now c.loop-param.param-iterator.b.rest.now
      c.loop-param.machine none.1.0
]))
