use Rattle.std.proofs.Common.{◌≡◌, ◌++◌, drop}
use Rattle.ba_scopes.proofs.Storing.{numbers_of}
use Rattle.ba_scopes.proofs.scopes.numbers_from.Given as goal

abbrev pub invariant-loop-i : goal.invariant-loop-i
invariant-loop-i l = l.vars.items ++ numbers_of (drop l.i l.stored) ≡ numbers_of (drop l.number l.stored)
