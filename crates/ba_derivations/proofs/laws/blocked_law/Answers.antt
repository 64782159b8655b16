use Rattle.ba_derivations.proofs.VerdictLaws.{located_blocks, too_many_blocks}
use Rattle.ba_derivations.proofs.laws.blocked_law.Goals as goal

pub returns-clause-located : goal.returns-clause-located
returns-clause-located c = located_blocks

pub returns-clause-too_many : goal.returns-clause-too_many
returns-clause-too_many c = too_many_blocks
