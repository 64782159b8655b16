use Rattle.ba_checker.proofs.FactLaws.{facts_hold}
use Rattle.ba_checker.proofs.laws.facts_law.Goals as goal

pub returns : goal.returns
returns c = facts_hold
