use Rattle.std.proofs.Common.{◌≡◌, ℕ, List, take, ◌||◌}
use Rattle.ba_lex.specs.Storage.{is_among, table_of}
use Rattle.ba_lex.specs.Lines.{body_from, is_in_body}
use Rattle.ba_lex.proofs.macros.mention_all.Given as goal

abbrev pub invariant-loop-token : goal.invariant-loop-token
invariant-loop-token l = (name : List ℕ) → is_among name l.mentioned.keys ≡ (is_among name l.initial.mentioned.keys || is_in_body name (body_from (table_of l.bodies.entries) (take l.token-index l.tokens)))
