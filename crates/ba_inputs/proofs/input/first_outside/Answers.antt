use Rattle.std.proofs.Common.{◌+◌, sym, ◌∙◌, inl, inr}
use Rattle.ba_inputs.proofs.InputSteps.{no_more_types, no_more_numbers}
use Rattle.ba_inputs.proofs.input.first_outside.Goals as goal

pub returns : goal.returns
returns c = sym (c.loop-t.invariant.first ∙ (elim c.in-None.ensures.steps [
  | inl none ↦ no_more_types (c.loop-t.number + 1) c.loop-t.t-iterator.a.rest.now
      c.loop-t.t-iterator.b.rest.now none.1.0
  | inr none ↦ no_more_numbers (c.loop-t.number + 1) c.loop-t.t-iterator.a.rest.now
      c.loop-t.t-iterator.b.rest.now none.1.0
]))
