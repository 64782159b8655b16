use Rattle.std.proofs.Common.{◌≡◌, take}
use Rattle.ba_lex.specs.Lines.{body_from}
use Rattle.ba_lex.proofs.macros.body_from.Given as goal

abbrev pub invariant-loop-token : goal.invariant-loop-token
invariant-loop-token l = l.body ≡ body_from l.macros (take l.token-index l.tokens)
