use Rattle.std.proofs.lemmas.Result.{on_ok_weaker}
use Rattle.ba_typing.specs.Expressions.{typed_conditional}
use Rattle.ba_statements.proofs.LabelSteps.{both-ok, case-is}
use Rattle.ba_statements.proofs.labels.add_case.Goals as goal

pub returns : goal.returns
returns c =
    let switch = c.args.switch.now in
    let s = typed_conditional c.args.c.now c.args.scope.now c.args.tally.now.calls in
    let r = c.add_start.result in
    on_ok_weaker r (λ added.
    case-is switch.t switch.at s c.in_ok-j.j c.args.tally.now c.whole.new.tally c.add_start.new.tally
    c.constant_value-value.result c.args.count c.args.labels.now c.add_start.new.labels c.in_ok-j.ensures.0
    c.in_ok-j.ensures.1 (c.constant_value-value.ensures s c.in_ok-j.ensures.0) added.0 added.1)
    (both-ok _ _ r c.add_start.ensures.labels c.add_start.ensures.tally)
