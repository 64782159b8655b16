use Rattle.std.proofs.Common.{◌≡◌, drop}
use Rattle.ba_bits.specs.Needs.{marked}
use Rattle.ba_bits.proofs.needs.mark_all.Given as goal

abbrev pub invariant-loop-number : goal.invariant-loop-number
invariant-loop-number l = marked l.needed (drop l.number-index l.numbers) ≡ marked l.fn.needed l.numbers
