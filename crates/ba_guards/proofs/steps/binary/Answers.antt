use Rattle.ba_guards.proofs.Arms.{binary-arm}
use Rattle.ba_guards.proofs.steps.binary.Goals as goal

pub returns : goal.returns
returns c = λ d fits h. binary-arm d c.args.b.now c.operand.new.self c.operand-2.new.self
    c.demand_divisor.new.b _ c.args.to c.args.op c.args.t
    c.in_ok-left.left c.in_ok-right.right c.args.left c.args.right c.args.stmt fits h
    c.in_ok-left.ensures.same c.in_ok-left.ensures.word
    c.in_ok-right.ensures.same c.in_ok-right.ensures.word c.in_ok-demand_divisor.ensures c.binary.new.self
    c.in_ok-word.word
    c.in_ok-word.ensures c.in_ok-assign.ensures
