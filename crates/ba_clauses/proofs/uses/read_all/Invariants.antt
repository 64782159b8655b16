use Rattle.std.proofs.Common.{All, length, take}
use Rattle.ba_clauses.specs.Uses.{IsRead, NeedMoreBelow}
use Rattle.ba_clauses.proofs.uses.read_all.Given as goal

abbrev pub invariant-loop-bit : goal.invariant-loop-bit
invariant-loop-bit l = record {
  read : All (IsRead l.uses) (take l.bit-index l.bits);
  more : NeedMoreBelow (length l.fn.uses) l.fn.uses l.uses;
}
