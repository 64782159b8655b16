use Rattle.std.proofs.Common.{◌-◌, length}
use Rattle.ba_bits.proofs.Needed.{AreMarked}
use Rattle.ba_bits.proofs.needs.needed_entries.Given as goal

abbrev pub invariant-loop-i : goal.invariant-loop-i
invariant-loop-i l = AreMarked l.words l.roots (length l.words - l.i) l.needed.items
