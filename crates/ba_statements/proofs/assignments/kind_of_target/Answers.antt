use Rattle.ba_statements.proofs.AssignmentSteps.{assignment-kind, store-kind}
use Rattle.ba_statements.proofs.assignments.kind_of_target.Goals as goal

pub returns-in-None : goal.returns-in-None
returns-in-None c s is = assignment-kind c.args.target.now.index s.index is.index c.in-None.is

pub returns-in-Some : goal.returns-in-Some
returns-in-Some c s is = store-kind c.args.target.now.index s.index _ is.index c.in-Some.is
