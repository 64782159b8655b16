use Rattle.std.proofs.Common.{◌-◌}
use Rattle.ba_typing.specs.Files.{vars_from}
use Rattle.ba_types.proofs.FunctionSteps.{next-var}
use Rattle.ba_types.proofs.files.vars_between.Goals as goal

pub loop-n-preserved : goal.loop-n-preserved
loop-n-preserved c = next-var c.loop-n.n c.args.high c.loop-n.vars.items c.push.new.self.items
    (vars_from c.args.low (c.args.high - c.args.low)) c.loop-n-test.true c.loop-n.invariant
    c.in_ok-push.ensures.items
