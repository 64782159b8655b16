use Rattle.std.proofs.Common.{inr, ◌∙◌, sym}
use Rattle.mode_check.proofs.Concluding.{check_ends, checking_over, memory_ends, only_same, outlasts_same, refusal_ends, stops_before, stops_check}
use Rattle.mode_check.proofs.certificates.check_over.Goals as goal

pub returns-in_err-softs-clause-ends : goal.returns-in_err-softs-clause-ends
returns-in_err-softs-clause-ends g c = λ weights faithful.
    let j = c.args.job.now in
    let good = g.J.RunJudge.accepts c.args.judge in
    let o = g.W.World.outside c.args.world.now in
    let t = g.D.StepSink.told c.args.steps.now in
    memory_ends j weights good o o t t (stops_before j weights good o t) (outlasts_same t)
    c.from_residual.result c.from_residual.ensures.1

pub returns-in_err-confirm-clause-ends : goal.returns-in_err-confirm-clause-ends
returns-in_err-confirm-clause-ends g c = λ weights faithful.
    let j = c.args.job.now in
    let good = g.J.RunJudge.accepts c.args.judge in
    let o = g.W.World.outside c.args.world.now in
    let t = g.D.StepSink.told c.args.steps.now in
    memory_ends j weights good o o t t (stops_before j weights good o t) (outlasts_same t)
    c.from_residual-in_err-confirm.result c.from_residual-in_err-confirm.ensures.1

pub returns-in_err-begin-clause-ends : goal.returns-in_err-begin-clause-ends
returns-in_err-begin-clause-ends g c = λ weights faithful.
    let j = c.args.job.now in
    let good = g.J.RunJudge.accepts c.args.judge in
    let o = g.W.World.outside c.args.world.now in
    let t = g.D.StepSink.told c.args.steps.now in
    let u = g.D.StepSink.told c.begin.new.self in
    refusal_ends j weights good o o t u
    (stops_check j weights good c.args.encoded.now c.formula.result.now c.as_slice.result.now
    c.formula.ensures (c.as_slice.ensures.value ∙ c.in_ok-softs.ensures) faithful o o t u
    c.begin.ensures.logs_stay (only_same o) c.in_err-begin.ensures.refused) c.begin.ensures.outlasts
    c.from_residual-in_err-begin.result c.in_err-begin.field-0.0 c.begin.result
    c.from_residual-in_err-begin.ensures.1 c.in_err-begin.was c.begin.ensures.cause

pub returns-in_err-file_answer-clause-ends : goal.returns-in_err-file_answer-clause-ends
returns-in_err-file_answer-clause-ends g c = λ weights faithful.
    let j = c.args.job.now in
    let good = g.J.RunJudge.accepts c.args.judge in
    let o = g.W.World.outside c.args.world.now in
    let after = g.W.World.outside c.file_answer.new.world in
    let t = g.D.StepSink.told c.args.steps.now in
    let u = g.D.StepSink.told c.begin.new.self in
    memory_ends j weights good o after t u
    (stops_check j weights good c.args.encoded.now c.formula.result.now c.as_slice.result.now
    c.formula.ensures (c.as_slice.ensures.value ∙ c.in_ok-softs.ensures) faithful o after t u
    c.begin.ensures.logs_stay c.file_answer.ensures.stays (inr c.in_ok-begin.ensures.told))
    c.begin.ensures.outlasts c.from_residual-in_err-file_answer.result
    c.from_residual-in_err-file_answer.ensures.1

pub returns-clause-ends : goal.returns-clause-ends
returns-clause-ends g c = λ weights faithful.
    let j = c.args.job.now in
    let good = g.J.RunJudge.accepts c.args.judge in
    let encoded = c.args.encoded.now in
    let o = g.W.World.outside c.args.world.now in
    let after = g.W.World.outside c.file_answer.new.world in
    let t = g.D.StepSink.told c.args.steps.now in
    let u = g.D.StepSink.told c.begin.new.self in
    check_ends j weights good encoded c.formula.result.now c.as_slice.result.now c.formula.ensures
    (c.as_slice.ensures.value ∙ c.in_ok-softs.ensures) faithful o after t u
    c.begin.ensures.logs_stay c.file_answer.ensures.stays c.begin.ensures.outlasts
    c.in_ok-file_answer.field-0 c.in_ok-begin.ensures.told
    (c.in_ok-file_answer.ensures.answer (checking_over j weights good encoded) (sym c.as_str.ensures)
    c.in_ok-confirm.ensures.nothing_read faithful)
