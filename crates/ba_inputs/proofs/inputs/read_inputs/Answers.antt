use Rattle.std.proofs.Common.{arith}
use Rattle.ba_inputs.proofs.LineSteps.{enough-inputs, few-inputs}
use Rattle.ba_inputs.proofs.inputs.read_inputs.Goals as goal

pub returns-then-len-least-clause-err : goal.returns-then-len-least-clause-err
returns-then-len-least-clause-err c =
    let inputs = c.in_ok-inputs.inputs in
    few-inputs c.args.program.now c.args.text.now c.args.least inputs.items c.in_ok-inputs.ensures.ok
    c.in_ok-inputs.ensures.no_fault (omega (arith, c.if-len-least.true, c.len.ensures, inputs.ok.0))

pub returns-clause-accepted : goal.returns-clause-accepted
returns-clause-accepted c =
    let inputs = c.in_ok-inputs.inputs in
    enough-inputs c.args.program.now c.args.text.now c.args.least inputs.items c.in_ok-inputs.ensures.ok
    c.in_ok-inputs.ensures.no_fault (omega (arith, c.if-len-least.false, c.len.ensures, inputs.ok.0))
