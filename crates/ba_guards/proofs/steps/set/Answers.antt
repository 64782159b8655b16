use Rattle.ba_guards.proofs.Arms.{set-arm}
use Rattle.ba_guards.proofs.steps.set.Goals as goal

pub returns : goal.returns
returns c = λ d fits h. set-arm d c.args.b.now c.operand.new.self _ c.args.to c.in_ok-word.word c.args.from
    fits
    c.in_ok-word.ensures.same c.in_ok-word.ensures.word h c.in_ok-assign.ensures
