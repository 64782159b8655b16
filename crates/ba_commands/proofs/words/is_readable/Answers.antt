use Rattle.std.proofs.Common.{Some, None, arith, ap, sym, ◌∙◌}
use Rattle.std.proofs.lemmas.Str.Pattern.{split_parts}
use Rattle.ba_commands.specs.Modes.{usage_of}
use Rattle.ba_commands.specs.Words.{cut}
use Rattle.ba_commands.specs.Parsing.{is_readable_by}
use Rattle.ba_commands.proofs.Cutting.{cut-at, cut-none}
use Rattle.ba_commands.proofs.words.is_readable.Goals as goal

pub returns-in-Some : goal.returns-in-Some
returns-in-Some c =
    let word = c.args.word.now in
    let parts = split_parts 61 word (Some (c.in-Some.option, c.in-Some.text)) c.in-Some.ensures.cases
    (omega arith) in
    c.is_readable_cut.ensures ∙ ap (is_readable_by (usage_of c.args.mode) word)
    (sym (ap cut parts.0 ∙ cut-at c.in-Some.option.now c.in-Some.text.now parts.1))

pub returns-in-None : goal.returns-in-None
returns-in-None c =
    let word = c.args.word.now in
    let lacks = split_parts 61 word None c.in-None.ensures.cases (omega arith) in
    c.is_accepted.ensures ∙ ap (is_readable_by (usage_of c.args.mode) word) (sym (cut-none word lacks))
