use Rattle.std.proofs.Common.{sym, ◌∙◌, inl, inr, option_map, Bor}
use Rattle.ba_tree.specs.declared.tree.Arg.{Arg}
use Rattle.ba_units.proofs.ArrayLengths.{no_more_params, no_more_args}
use Rattle.ba_units.proofs.frame.argument_for.Goals as goal

pub returns : goal.returns
returns c = sym (c.loop-param.invariant ∙ (elim c.in-None.ensures.steps [
  | inl none ↦ no_more_params c.loop-param.param-iterator.a.rest.now c.loop-param.param-iterator.b.rest.now
      c.args.var (option_map (λ (arg : Bor Arg). arg.now) c.loop-param.found) none.1.0
  | inr none ↦ no_more_args c.loop-param.param-iterator.a.rest.now c.loop-param.param-iterator.b.rest.now
      c.args.var (option_map (λ (arg : Bor Arg). arg.now) c.loop-param.found) none.1.0
]))
