use Rattle.std.proofs.Common.{rules}
use Rattle.ba_cases.proofs.PlainRun.{is_chosen, is_named}
use Rattle.ba_cases.proofs.parts.plain_run.Goals as goal

pub returns-clause-chosen : goal.returns-clause-chosen
returns-clause-chosen c =
    is_chosen c.args.program.now c.args.input.now c.args.bounds c.run.result (search rules)

pub returns-clause-named : goal.returns-clause-named
returns-clause-named c =
    is_named c.args.program.now c.args.input.now c.args.bounds c.run.result (search rules)
