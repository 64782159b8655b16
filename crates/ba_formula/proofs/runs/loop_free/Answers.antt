use Rattle.std.proofs.Common.{◌∙◌}
use Rattle.std.proofs.lemmas.Result.{IfOk-weaker}
use Rattle.ba_code.specs.declared.trees.BoundTree.{BoundTree}
use Rattle.ba_formula.specs.Words.{HasOutcomesOf}
use Rattle.ba_tree.specs.Choices.{admits}
use Rattle.ba_unroll.specs.Outcomes.{HasOutcomes}
use Rattle.ba_formula.proofs.runs.loop_free.Goals as goal

pub returns : goal.returns
returns c =
    let p = c.args.program.now in
    let b = c.args.bounds in
    IfOk-weaker c.unroll.result (λ (made : BoundTree). HasOutcomes made c.in_ok-looping.looping b.turns)
    (HasOutcomesOf p b)
    (λ made unrolls input allowed choices fit. unrolls.same input 0 (admits p allowed) choices
    ∙ c.in_ok-looping.ensures input b.turns allowed choices fit)
    c.unroll.ensures.outcomes
