use Rattle.std.proofs.Common.{◌≡◌, drop}
use Rattle.ba_lits.specs.Hints.{has_literal}
use Rattle.ba_search.proofs.deciding.is_among.Given as goal

abbrev pub invariant-loop-other : goal.invariant-loop-other
invariant-loop-other l = has_literal l.lit l.lits ≡ has_literal l.lit (drop l.other-index l.lits)
