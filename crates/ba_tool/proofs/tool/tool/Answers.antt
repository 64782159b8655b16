use Rattle.std.proofs.Common.{inl, inr, rules, sym, subst}
use Rattle.ba_tool.specs.Calls.{Comes, Stops}
use Rattle.ba_tool.specs.Requests.{MayBeDone}
use Rattle.ba_tool.specs.declared.requests.Request.{Request}
use Rattle.ba_tool.proofs.Bounded.{may_be_done}
use Rattle.ba_tool.proofs.Due.{ends_where}
use Rattle.ba_tool.proofs.Ending.{comes_write, ends_says, stops_unprinted}
use Rattle.ba_tool.proofs.tool.tool.Goals as goal

pub request_answer-requires-clause-request : goal.request_answer-requires-clause-request
request_answer-requires-clause-request g c = subst MayBeDone (sym c.in-Ok.ensures) (may_be_done _)

pub returns-in-Ok-request_answer-clause-says : goal.returns-in-Ok-request_answer-clause-says
returns-in-Ok-request_answer-clause-says g c = ends_says _ c.in-Ok-request_answer.answer c.finish.result
    (record {
      written = g.W.World.outside c.request_answer.new.world;
      comes = subst (λ (r : Request). Comes r (g.W.World.outside c.args.world.now)
          (g.W.World.outside c.request_answer.new.world) (g.D.StepSink.told c.args.steps.now)
          (g.D.StepSink.told c.request_answer.new.steps) c.in-Ok-request_answer.answer) c.in-Ok.ensures
          c.in-Ok-request_answer.ensures.ends.answer;
      prints = c.finish.ensures.stays;
      shown = c.finish.ensures.shown;
      prefix = c.finish.ensures.prefix;
      stops = subst (λ (r : Request). Stops r (g.W.World.outside c.args.world.now)
          (g.W.World.outside c.request_answer.new.world) (g.D.StepSink.told c.args.steps.now)
          (g.D.StepSink.told c.request_answer.new.steps)) c.in-Ok.ensures
          c.request_answer.ensures.ends.left;
    })

pub returns-in-Ok-request_answer-clause-where_told : goal.returns-in-Ok-request_answer-clause-where_told
returns-in-Ok-request_answer-clause-where_told g c = ends_where _ c.in-Ok-request_answer.answer
    c.finish.result (record {
      written = g.W.World.outside c.request_answer.new.world;
      comes = subst (λ (r : Request). Comes r (g.W.World.outside c.args.world.now)
          (g.W.World.outside c.request_answer.new.world) (g.D.StepSink.told c.args.steps.now)
          (g.D.StepSink.told c.request_answer.new.steps) c.in-Ok-request_answer.answer) c.in-Ok.ensures
          c.in-Ok-request_answer.ensures.ends.answer;
      prints = c.finish.ensures.stays;
      shown = c.finish.ensures.shown;
      prefix = c.finish.ensures.prefix;
      stops = subst (λ (r : Request). Stops r (g.W.World.outside c.args.world.now)
          (g.W.World.outside c.request_answer.new.world) (g.D.StepSink.told c.args.steps.now)
          (g.D.StepSink.told c.request_answer.new.steps)) c.in-Ok.ensures
          c.request_answer.ensures.ends.left;
    })

pub returns-in-Ok-request_answer-clause-stays : goal.returns-in-Ok-request_answer-clause-stays
returns-in-Ok-request_answer-clause-stays g c = comes_write _ _ _ _ _ _ c.in-Ok-request_answer.answer
    (subst (λ (r : Request). Comes r (g.W.World.outside c.args.world.now)
    (g.W.World.outside c.request_answer.new.world) (g.D.StepSink.told c.args.steps.now)
    (g.D.StepSink.told c.request_answer.new.steps) c.in-Ok-request_answer.answer) c.in-Ok.ensures
    c.in-Ok-request_answer.ensures.ends.answer)
    c.finish.ensures.stays

pub returns-in-Err-SinkFailed-clause-says : goal.returns-in-Err-SinkFailed-clause-says
returns-in-Err-SinkFailed-clause-says g c =
    let same = c.in-Ok.ensures in
    let fault = c.request_answer.ensures.ends.cause in
    inr (
      search (rules, fault, same),
      subst (λ (r : Request). Stops r (g.W.World.outside c.args.world.now)
          (g.W.World.outside c.request_answer.new.world) (g.D.StepSink.told c.args.steps.now)
          (g.D.StepSink.told c.request_answer.new.steps)) c.in-Ok.ensures c.request_answer.ensures.ends.left,
    )

pub returns-in-Err-Memory-clause-says : goal.returns-in-Err-Memory-clause-says
returns-in-Err-Memory-clause-says g c = inl (subst (λ (r : Request). Stops r
    (g.W.World.outside c.args.world.now) (g.W.World.outside c.request_answer.new.world)
    (g.D.StepSink.told c.args.steps.now) (g.D.StepSink.told c.request_answer.new.steps)) c.in-Ok.ensures
    c.request_answer.ensures.ends.left)

pub returns-in-Err-SinkFailed-clause-stays : goal.returns-in-Err-SinkFailed-clause-stays
returns-in-Err-SinkFailed-clause-stays g c = stops_unprinted _ _ _ _ _ (subst (λ (r : Request). Stops r
    (g.W.World.outside c.args.world.now) (g.W.World.outside c.request_answer.new.world)
    (g.D.StepSink.told c.args.steps.now) (g.D.StepSink.told c.request_answer.new.steps)) c.in-Ok.ensures
    c.request_answer.ensures.ends.left)

pub returns-in-Err-Memory-clause-stays : goal.returns-in-Err-Memory-clause-stays
returns-in-Err-Memory-clause-stays g c = stops_unprinted _ _ _ _ _ (subst (λ (r : Request). Stops r
    (g.W.World.outside c.args.world.now) (g.W.World.outside c.request_answer.new.world)
    (g.D.StepSink.told c.args.steps.now) (g.D.StepSink.told c.request_answer.new.steps)) c.in-Ok.ensures
    c.request_answer.ensures.ends.left)
