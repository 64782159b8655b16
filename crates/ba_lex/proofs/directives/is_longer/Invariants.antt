use Rattle.std.proofs.Common.{◌≡◌, length, drop, nat_lt}
use Rattle.ba_lex.specs.Lines.{body_from}
use Rattle.ba_lex.proofs.directives.is_longer.Given as goal

abbrev pub invariant-loop-token : goal.invariant-loop-token
invariant-loop-token l = nat_lt l.room (length (body_from l.macros (drop l.token-index l.tokens))) ≡ nat_lt l.limit (length (body_from l.macros l.tokens))
