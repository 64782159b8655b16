use Rattle.ba_derivations.proofs.VerdictLaws.{located_models, too_many_models}
use Rattle.ba_derivations.proofs.laws.models_law.Goals as goal

pub returns-clause-located : goal.returns-clause-located
returns-clause-located c = located_models

pub returns-clause-too_many : goal.returns-clause-too_many
returns-clause-too_many c = too_many_models
