use Rattle.ba_laws.proofs.NamingRuns.{names_statement}
use Rattle.ba_laws.proofs.outcomes_name_statements.Goals as goal

pub returns : goal.returns
returns c = names_statement
