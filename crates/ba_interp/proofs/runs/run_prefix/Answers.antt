use Rattle.std.proofs.Common.{refl, ap, length, ◌∙◌}
use Rattle.ba_interp.proofs.RunArms.{outcome-ended, left-ended}
use Rattle.ba_interp.proofs.runs.run_prefix.Goals as goal

pub returns-clause-outcome : goal.returns-clause-outcome
returns-clause-outcome c = outcome-ended _ _ c.args.input.now c.in_ok-machine.machine
    c.run_main-ended.result c.run_main-ended.new.machine c.in_ok-outcome.outcome c.args.bounds
    c.args.choices.now refl c.main_result.ensures refl c.in_ok-machine.ensures
    c.in_ok-outcome.ensures c.run_main-ended.ensures

pub returns-clause-left : goal.returns-clause-left
returns-clause-left c = c.left.ensures ∙ ap length (left-ended _ _ c.args.input.now c.in_ok-machine.machine
    c.run_main-ended.result c.run_main-ended.new.machine c.in_ok-outcome.outcome c.args.bounds
    c.args.choices.now refl c.main_result.ensures refl c.in_ok-machine.ensures
    c.in_ok-outcome.ensures c.run_main-ended.ensures)
