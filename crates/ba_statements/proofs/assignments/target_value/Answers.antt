use Rattle.ba_statements.proofs.AssignmentSteps.{name-value}
use Rattle.ba_statements.proofs.assignments.target_value.Goals as goal

pub returns-in-None : goal.returns-in-None
returns-in-None c = name-value c.args.target.now c.args.scope.now c.args.tally.calls c.name_of-name.result
    c.meaning_of-meaning.result c.name.result c.name_of-name.ensures c.meaning_of-meaning.ensures c.in-None.is
    c.name.ensures
