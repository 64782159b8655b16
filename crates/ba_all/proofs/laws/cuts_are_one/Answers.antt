use Rattle.ba_all.proofs.Judging.{one-cut}
use Rattle.ba_all.proofs.laws.cuts_are_one.Goals as goal

pub returns : goal.returns
returns c = λ p inputs b set choices runs others. one-cut p b set inputs choices runs others
