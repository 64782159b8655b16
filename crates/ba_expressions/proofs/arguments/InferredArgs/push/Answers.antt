use Rattle.ba_expressions.proofs.ArgumentSteps.{args-push}
use Rattle.ba_expressions.proofs.arguments.InferredArgs.push.Goals as goal

pub returns : goal.returns
returns c es e are given same = args-push c.args.self.now _ c.args.arg.given c.args.arg.height es e
    c.in_ok-push.ensures.items c.max-self.ensures are given same
