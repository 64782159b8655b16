use Rattle.ba_typing.specs.Expressions.{typed_conditional}
use Rattle.ba_statements.proofs.PrintSteps.{printed-is}
use Rattle.ba_statements.proofs.statements.add_printed.Goals as goal

pub returns : goal.returns
returns c = printed-is c.args.at (typed_conditional c.args.c.now c.args.scope.now c.args.tally.now.calls)
    c.in_ok-j.j c.args.tally.now c.whole.new.tally c.args.values.now.items c.push.new.self.items
    c.in_ok-j.ensures.0 c.in_ok-j.ensures.1 c.in_ok-push.ensures.items
