use Rattle.ba_guards.proofs.Stores.{assert-arm}
use Rattle.ba_guards.proofs.steps.assert_nonzero.Goals as goal

pub returns : goal.returns
returns c = λ d fits h. assert-arm d c.args.b.now c.operand.new.self _ c.in_ok-word.word c.args.when
    c.args.stmt fits h
    c.in_ok-word.ensures.same c.in_ok-word.ensures.word c.in_ok-demand.ensures
