use Rattle.std.proofs.Common.{refl}
use Rattle.ba_search.proofs.OnceLaws.{not_twice}
use Rattle.ba_search.proofs.laws.learnt_once_law.Goals as goal

pub returns : goal.returns
returns g c = λ good s t learnt all before between after lits first second narrow searches. not_twice
    searches before between after lits first second narrow refl
