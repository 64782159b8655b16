use Rattle.ba_checker.proofs.OnceLaws.{learnt_once}
use Rattle.ba_checker.proofs.laws.learnt_once_law.Goals as goal

pub returns : goal.returns
returns c = λ good s t before between rest lits first second few is. learnt_once good s t before between
    rest lits first second few is
