use Rattle.std.proofs.lemmas.Result.{IfOk-weaker}
use Rattle.ba_inline.proofs.FlagSteps.{later-false, later-true}
use Rattle.ba_inline.proofs.labels.either_where.Goals as goal

pub returns-then-holds : goal.returns-then-holds
returns-then-holds c = IfOk-weaker c.either.result _ _ (λ flag made base le between.
    later-true base c.args.declared.now c.either.new.declared c.args.out.now.items c.either.new.out.items
    c.args.a c.args.b flag c.args.holds c.if-holds.true (made base le between.1.0)) c.either.ensures

pub returns : goal.returns
returns c = λ base le between.
    later-false base c.args.declared.now c.args.out.now.items c.args.a c.args.b c.args.holds
    c.if-holds.false between.0
