-- The parts of a `printf`, one after another.

use Rattle.std.proofs.Common.{List, [], ◌∷◌, ap}
use Rattle.std.proofs.lemmas.Result.{err_from_is_err_and}
use Rattle.ba_tokens.specs.declared.token.Token.{Token}
use Rattle.ba_tokens.specs.declared.token.Keyword.TheVariants as keyword
use Rattle.ba_tokens.specs.declared.token.Punct.TheVariants as punct
use Rattle.ba_trees.specs.Marks.{Mark, leaf}
use Rattle.ba_parse.specs.Readings.{Inner, Reading, ◌▹◌, lowered, levels_left, in_printf, deeper_in, read_key, read_parenthesized, read_semicolon, read_sign}
use Rattle.ba_trees.specs.SimpleMarks.{printed_marks}
use Rattle.ba_trees.specs.StatementMarks.{form_marks}
use Rattle.ba_parse.proofs.Levels.{both-read, lowered-stops}
use Rattle.ba_parse.proofs.Sequences.{first-stops, next-stops}
use Rattle.ba_parse.proofs.statements.printf_statement.Goals as goal

abbrev one : Token → List Mark
one token = leaf token ∷ []

abbrev open_sign : Reading
open_sign = read_sign punct.OpenParenthesis

abbrev close_sign : Reading
close_sign = read_sign punct.CloseParenthesis

abbrev from_printed : Inner → Reading
from_printed inner = deeper_in inner in_printf ▹ close_sign

abbrev behind_keyword : Inner → Reading
behind_keyword inner = read_parenthesized inner in_printf ▹ read_semicolon

pub returns-in_err-keyword : goal.returns-in_err-keyword
returns-in_err-keyword c =
    let p = err_from_is_err_and c.from_residual.result c.from_residual.ensures.1 in
    let inner : Inner = levels_left c.args.levels in
    let s = c.in_err-keyword.field-0.0 in
    rw (p.1, p.2) (first-stops one form_marks s (read_key keyword.Printf) (behind_keyword inner)
    c.args.reader.now _ c.in_err-keyword.ensures)

pub returns-in_err-open : goal.returns-in_err-open
returns-in_err-open c =
    let p = err_from_is_err_and c.from_residual-in_err-open.result c.from_residual-in_err-open.ensures.1 in
    let inner : Inner = levels_left c.args.levels in
    let s = c.in_err-open.field-0.0 in
    rw (p.1, p.2) (next-stops form_marks form_marks s (read_key keyword.Printf) (behind_keyword inner)
    c.args.reader.now c.take.new.self _ _ c.in_ok-keyword.ensures
    (first-stops form_marks form_marks s (read_parenthesized inner in_printf) read_semicolon c.take.new.self _
    (first-stops one form_marks s open_sign (from_printed inner) c.take.new.self _ c.in_err-open.ensures)))

pub returns-in_err-printed : goal.returns-in_err-printed
returns-in_err-printed c =
    let p = err_from_is_err_and c.from_residual-in_err-printed.result
    c.from_residual-in_err-printed.ensures.1 in
    let inner : Inner = levels_left c.args.levels in
    let s = c.in_err-printed.field-0.0 in
    rw (p.1, p.2) (next-stops form_marks form_marks s (read_key keyword.Printf) (behind_keyword inner)
    c.args.reader.now c.take.new.self _ _ c.in_ok-keyword.ensures
    (first-stops form_marks form_marks s (read_parenthesized inner in_printf) read_semicolon c.take.new.self _
    (next-stops form_marks form_marks s open_sign (from_printed inner) c.take.new.self c.take-2.new.self
    _ _ c.in_ok-open.ensures
    (first-stops form_marks form_marks s (deeper_in inner in_printf) close_sign c.take-2.new.self _
    (lowered-stops printed_marks form_marks s (inner in_printf c.take-2.new.self) _
    c.in_err-printed.ensures)))))

pub returns-in_err-close : goal.returns-in_err-close
returns-in_err-close c =
    let p = err_from_is_err_and c.from_residual-in_err-close.result c.from_residual-in_err-close.ensures.1 in
    let inner : Inner = levels_left c.args.levels in
    let s = c.in_err-close.field-0.0 in
    rw (p.1, p.2) (next-stops form_marks form_marks s (read_key keyword.Printf) (behind_keyword inner)
    c.args.reader.now c.take.new.self _ _ c.in_ok-keyword.ensures
    (first-stops form_marks form_marks s (read_parenthesized inner in_printf) read_semicolon c.take.new.self _
    (next-stops form_marks form_marks s open_sign (from_printed inner) c.take.new.self c.take-2.new.self
    _ _ c.in_ok-open.ensures
    (next-stops one form_marks s (deeper_in inner in_printf) close_sign c.take-2.new.self
    c.inner_printed.new.reader _ _ (ap lowered c.in_ok-printed.ensures) c.in_err-close.ensures))))

pub returns-in_err-semicolon : goal.returns-in_err-semicolon
returns-in_err-semicolon c =
    let p = err_from_is_err_and c.from_residual-in_err-semicolon.result
    c.from_residual-in_err-semicolon.ensures.1 in
    let inner : Inner = levels_left c.args.levels in
    let s = c.in_err-semicolon.field-0.0 in
    rw (p.1, p.2) (next-stops form_marks form_marks s (read_key keyword.Printf) (behind_keyword inner)
    c.args.reader.now c.take.new.self _ _ c.in_ok-keyword.ensures
    (next-stops one form_marks s (read_parenthesized inner in_printf) read_semicolon c.take.new.self
    c.take-3.new.self _ _ (both-read open_sign (from_printed inner) c.take.new.self c.take-2.new.self
    c.take-3.new.self _ _ c.in_ok-open.ensures
    (both-read (deeper_in inner in_printf) close_sign c.take-2.new.self c.inner_printed.new.reader
    c.take-3.new.self _ _ (ap lowered c.in_ok-printed.ensures) c.in_ok-close.ensures))
    c.in_err-semicolon.ensures))
