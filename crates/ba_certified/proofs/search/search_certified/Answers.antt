use Rattle.std.proofs.Common.{refl, sym, subst}
use Rattle.std.proofs.lemmas.Result.{IfOk-weaker}
use Rattle.ba_certified.specs.Leaving.{SearchEnds}
use Rattle.ba_certified.proofs.Writing.{uncertified}
use Rattle.ba_certified.proofs.search.search_certified.Goals as goal

pub returns-in-Some-clause-ends : goal.returns-in-Some-clause-ends
returns-in-Some-clause-ends g c = λ weights is.
    subst (λ cert. SearchEnds c.args.head cert weights (g.J.RunJudge.accepts c.args.judge)
    (g.W.World.outside c.args.world.now) (g.W.World.outside c.certify.new.world)
    (g.D.StepSink.told c.args.steps.now) (g.D.StepSink.told c.certify.new.steps) c.certify.result)
    (sym c.in-Some.is) (c.certify.ensures.ends weights is)

pub returns-in-None-clause-ends : goal.returns-in-None-clause-ends
returns-in-None-clause-ends g c = λ weights is.
    subst (λ cert. SearchEnds c.args.head cert weights (g.J.RunJudge.accepts c.args.judge)
    (g.W.World.outside c.args.world.now) (g.W.World.outside c.args.world.now)
    (g.D.StepSink.told c.args.steps.now) (g.D.StepSink.told c.search_for.new.steps) c.search_for.result)
    (sym c.in-None.is)
    (record {
      answer = IfOk-weaker c.search_for.result _ _
          (λ v finds. uncertified c.args.head weights (g.J.RunJudge.accepts c.args.judge) _ _ _ v finds)
          (c.search_for.ensures.finds weights is);
      left = (refl, c.search_for.ensures.leaves weights is);
      cause = c.search_for.ensures.cause;
      outlasts = c.search_for.ensures.outlasts;
    })
