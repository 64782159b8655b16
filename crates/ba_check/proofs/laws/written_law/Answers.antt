use Rattle.ba_check.proofs.WrittenLaws.{written}
use Rattle.ba_check.proofs.laws.written_law.Goals as goal

pub returns : goal.returns
returns c = written
