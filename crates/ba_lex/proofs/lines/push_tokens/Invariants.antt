use Rattle.std.proofs.Common.{◌≡◌, ◌≤◌, ◌++◌, length, take}
use Rattle.ba_lex.specs.Lines.{tokens_at}
use Rattle.ba_lex.specs.declared.lines.TheConstants.{MAX_TOKENS}
use Rattle.ba_lex.proofs.lines.push_tokens.Given as goal

abbrev pub invariant-loop-kind : goal.invariant-loop-kind
invariant-loop-kind l = record {
  added : l.out.items ≡ l.initial.out.items ++ tokens_at l.at (take l.kind-index l.kinds);
  room : length l.out.items ≤ MAX_TOKENS;
}
