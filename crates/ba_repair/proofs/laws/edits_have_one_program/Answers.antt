use Rattle.ba_repair.proofs.GoodEdits.{good-passes}
use Rattle.ba_repair.proofs.laws.edits_have_one_program.Goals as goal

pub returns : goal.returns
returns c p edited bounds inputs edit is good = good-passes p edited bounds inputs edit is good
