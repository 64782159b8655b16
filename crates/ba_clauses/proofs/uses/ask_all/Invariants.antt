use Rattle.std.proofs.Common.{take}
use Rattle.ba_clauses.specs.Uses.{Asks}
use Rattle.ba_clauses.proofs.uses.ask_all.Given as goal

abbrev pub invariant-loop-bit : goal.invariant-loop-bit
invariant-loop-bit l = Asks (take l.bit-index l.bits) l.fn.uses l.uses
