use Rattle.std.proofs.Common.{◌≡◌, ◌++◌, take}
use Rattle.ba_lex.proofs.macros.push_kinds.Given as goal

abbrev pub invariant-loop-kind : goal.invariant-loop-kind
invariant-loop-kind l = l.body ≡ l.initial.body ++ take l.kind-index l.kinds
