use Rattle.std.proofs.Common.{◌≡◌, drop}
use Rattle.std.specs.Cmp.Lexicographic.{pointwise}
use Rattle.ba_lex.specs.Lines.{same_kind}
use Rattle.ba_lex.proofs.directives.are_same.Given as goal

abbrev pub invariant-loop-i : goal.invariant-loop-i
invariant-loop-i l = pointwise same_kind (drop l.i l.old) (drop l.i l.new) ≡ pointwise same_kind l.old l.new
