use Rattle.std.proofs.Common.{◌||◌, sym, ap, ◌∙◌}
use Rattle.std.specs.Str.{bytes_eq}
use Rattle.ba_lex.specs.Storage.{is_among}
use Rattle.ba_lex.proofs.TableLemmas.{is_among-insert, is_among-there}
use Rattle.ba_lex.proofs.macros.mention.Goals as goal

pub returns-in_ok-insert : goal.returns-in_ok-insert
returns-in_ok-insert c = λ other.
    ap (is_among other) c.in_ok-insert.ensures.keys
    ∙ is_among-insert other c.args.mentioned.now.keys c.in_ok-from_slice.field-0
    ∙ ap (λ bytes. is_among other c.args.mentioned.now.keys || bytes_eq other bytes) c.in_ok-from_slice.ensures.items

pub returns-else-not-contains : goal.returns-else-not-contains
returns-else-not-contains c = is_among-there c.args.name.now c.args.mentioned.now.keys (sym c.contains.ensures ∙ c.if-not-contains.false)
