use Rattle.ba_tool.proofs.Coming.{refused_ends}
use Rattle.ba_tool.proofs.tool.request_answer.Goals as goal

pub returns-in-Refused-clause-ends : goal.returns-in-Refused-clause-ends
returns-in-Refused-clause-ends g c = refused_ends c.args.request.now (g.W.World.outside c.args.world.now)
    (g.D.StepSink.told c.args.steps.now) c.in-Refused.is
