use Rattle.ba_guards.proofs.Arms.{unary-arm}
use Rattle.ba_guards.proofs.steps.unary.Goals as goal

pub returns : goal.returns
returns c = λ d fits h. unary-arm d c.args.b.now c.operand.new.self _ c.args.to c.in_ok-a.a c.args.a fits
    c.in_ok-a.ensures.same c.in_ok-a.ensures.word c.args.op c.args.t c.unary.new.self c.in_ok-word.word h
    c.in_ok-word.ensures
    c.in_ok-assign.ensures
