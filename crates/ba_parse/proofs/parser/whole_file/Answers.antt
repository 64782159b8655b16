-- What the reading of the file gives, and then its outcome.

use Rattle.std.proofs.Common.{◌≡◌, List, map, Err, inr, sym, ◌∙◌, ap}
use Rattle.ba_tokens.specs.declared.token.Token.{Token}
use Rattle.ba_parse.specs.declared.error.ParseError.TheVariants as error
use Rattle.ba_trees.specs.Marks.{Mark, node_of, file}
use Rattle.ba_parse.specs.Readings.{Answer, done, syntax, too_deep, around, read_many, levels_left}
use Rattle.ba_parse.specs.Outcomes.{outcome_of}
use Rattle.ba_parse.specs.Telling.{Told}
use Rattle.ba_trees.specs.Views.{joined}
use Rattle.ba_trees.specs.ExternalMarks.{external_marks}
use Rattle.ba_parse.proofs.Verdicts.{accepted_levels}
use Rattle.ba_parse.proofs.StatementBegins.{external, an_external}
use Rattle.ba_parse.proofs.parser.whole_file.Goals as goal

abbrev externals_from : List Token → Answer
externals_from ts = read_many external (an_external (levels_left 100)) ts

pub file_of-requires : goal.file_of-requires
file_of-requires c =
    let told : externals_from c.new-reader.result ≡ done (joined (map external_marks c.in-Ok.all.items))
    c.externals.new.reader = c.in-Ok.ensures in
    let read : externals_from c.args.tokens.now ≡ done (joined (map external_marks c.in-Ok.all.items))
    c.externals.new.reader = ap externals_from (sym c.new-reader.ensures) ∙ told in
    accepted_levels c.args.tokens.now (node_of file (joined (map external_marks c.in-Ok.all.items)))
    c.externals.new.reader (ap (around file) read)

pub returns-in-Ok : goal.returns-in-Ok
returns-in-Ok c =
    let told : externals_from c.new-reader.result ≡ done (joined (map external_marks c.in-Ok.all.items))
    c.externals.new.reader = c.in-Ok.ensures in
    let read : externals_from c.args.tokens.now ≡ done (joined (map external_marks c.in-Ok.all.items))
    c.rest.result.now = ap externals_from (sym c.new-reader.ensures) ∙ told
    ∙ ap (done (joined (map external_marks c.in-Ok.all.items))) (sym c.rest.ensures) in
    inr (c.file_of.ensures ∙ ap (λ a. outcome_of c.args.tokens.now (around file a)) (sym read))

pub returns-in-Err-Syntax : goal.returns-in-Err-Syntax
returns-in-Err-Syntax c =
    let both : Told {A = List Mark} (λ f. f) (Err c.in-Err-Syntax.field-0)
    (externals_from c.new-reader.result) c.externals.new.reader = c.in-Err-Syntax.ensures in
    let told : externals_from c.new-reader.result ≡ syntax c.externals.new.reader =
    rw c.in-Err-Syntax.field-0-is at both in
    let read : externals_from c.args.tokens.now ≡ syntax c.rest-in-Err-Syntax.result.now =
    ap externals_from (sym c.new-reader.ensures) ∙ told ∙ ap syntax (sym c.rest-in-Err-Syntax.ensures) in
    inr (ap (λ k. Err (error.Syntax k)) c.token_number.ensures
    ∙ ap (λ a. outcome_of c.args.tokens.now (around file a)) (sym read))

pub returns-in-Err-TooDeep : goal.returns-in-Err-TooDeep
returns-in-Err-TooDeep c =
    let both : Told {A = List Mark} (λ f. f) (Err c.in-Err-TooDeep.field-0)
    (externals_from c.new-reader.result) c.externals.new.reader = c.in-Err-TooDeep.ensures in
    let told : externals_from c.new-reader.result ≡ too_deep c.externals.new.reader =
    rw c.in-Err-TooDeep.field-0-is at both in
    let read : externals_from c.args.tokens.now ≡ too_deep c.rest-in-Err-TooDeep.result.now =
    ap externals_from (sym c.new-reader.ensures) ∙ told
    ∙ ap too_deep (sym c.rest-in-Err-TooDeep.ensures) in
    inr (ap (λ k. Err (error.TooDeep k)) c.token_number-in-Err-TooDeep.ensures
    ∙ ap (λ a. outcome_of c.args.tokens.now (around file a)) (sym read))
