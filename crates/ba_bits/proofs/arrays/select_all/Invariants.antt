use Rattle.ba_bits.proofs.Elements.{AreSelected}
use Rattle.ba_bits.proofs.arrays.select_all.Given as goal

abbrev pub invariant-loop-i : goal.invariant-loop-i
invariant-loop-i l = AreSelected l.fn.nodes l.nodes l.entries l.values l.cells l.which l.words.items l.i
