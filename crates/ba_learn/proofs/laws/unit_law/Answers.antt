use Rattle.ba_learn.proofs.BackLaws.{back_unit, back_level}
use Rattle.ba_learn.proofs.laws.unit_law.Goals as goal

pub returns-clause-unit : goal.returns-clause-unit
returns-clause-unit c = back_unit

pub returns-clause-level : goal.returns-clause-level
returns-clause-level c = back_level
