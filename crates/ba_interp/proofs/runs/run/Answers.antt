use Rattle.std.proofs.Common.{sym, ◌∙◌}
use Rattle.ba_interp.proofs.RunArms.{none-left, some-left}
use Rattle.ba_interp.proofs.runs.run.Goals as goal

pub returns-then-run-eq0 : goal.returns-then-run-eq0
returns-then-run-eq0 c = c.in_ok-run.ensures.outcome
    ∙ none-left c.args.program.now c.args.input.now c.args.bounds c.args.allowed.now c.args.choices.now
    (sym c.in_ok-run.ensures.left ∙ c.if-run-eq0.true)

pub returns-else-run-eq0 : goal.returns-else-run-eq0
returns-else-run-eq0 c = some-left c.args.program.now c.args.input.now c.args.bounds c.args.allowed.now
    c.args.choices.now (λ none. c.if-run-eq0.false (c.in_ok-run.ensures.left ∙ none))
