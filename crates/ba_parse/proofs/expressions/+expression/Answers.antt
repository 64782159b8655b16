-- Inside a construct, by whether a level is left.

use Rattle.std.proofs.Common.{append_assoc, ◌≡◌, ◌+◌, ◌-◌, ◌∙◌, Bool, true, false, List, length, option_map, rules, arith, refl, sym, ap}
use Rattle.ba_tokens.specs.declared.token.Token.{Token}
use Rattle.ba_tokens.specs.declared.token.Punct.TheVariants as punct
use Rattle.ba_trees.specs.Classes.{mark}
use Rattle.std.proofs.lemmas.List.{append-nil}
use Rattle.ba_trees.specs.Marks.{Mark}
use Rattle.std.proofs.lemmas.Result.{err_from_is_err_and}
use Rattle.ba_trees.specs.ExpressionMarks.{chain_marks, next_expression_marks, operand_marks, unary_marks}
use Rattle.ba_trees.specs.Views.{optional}
use Rattle.ba_parse.proofs.Repeats.{repeat-turn, repeat-end, repeat-out, repeat-stop}
use Rattle.ba_parse.specs.Readings.{levels_left, done, Inner, Reading, ◌▹◌, next_is, read_sign, read_expression, in_expression, in_unary, in_arguments, in_chained}
use Rattle.ba_parse.proofs.Levels.{levels_left-none, levels_left-some, none-told, chained-some, operand-first_stops, operand-stops, operand-next}
use Rattle.ba_parse.proofs.expressions.+expression.Goals as goal

pub inner_expression-returns-then-levels-eq0 : goal.inner_expression-returns-then-levels-eq0
inner_expression-returns-then-levels-eq0 t c = none-told c.args.levels in_expression c.args.reader.now _
    c.if-levels-eq0.true refl c.refusal.ensures

pub inner_expression-returns-in_err-expression : goal.inner_expression-returns-in_err-expression
inner_expression-returns-in_err-expression t c =
    rw (levels_left-some c.args.levels in_expression c.args.reader.now c.if-levels-eq0.false) (search rules)

pub inner_expression-returns : goal.inner_expression-returns
inner_expression-returns t c = rw (levels_left-some c.args.levels in_expression c.args.reader.now
    c.if-levels-eq0.false) (search rules)

pub inner_unary-returns-then-levels-eq0 : goal.inner_unary-returns-then-levels-eq0
inner_unary-returns-then-levels-eq0 t c = none-told c.args.levels in_unary c.args.reader.now _
    c.if-levels-eq0.true refl c.refusal.ensures

pub inner_unary-returns-in_err-operand : goal.inner_unary-returns-in_err-operand
inner_unary-returns-in_err-operand t c = rw (levels_left-some c.args.levels in_unary c.args.reader.now
    c.if-levels-eq0.false) (search rules)

pub inner_unary-returns : goal.inner_unary-returns
inner_unary-returns t c = rw (levels_left-some c.args.levels in_unary c.args.reader.now c.if-levels-eq0.false)
    (search rules)

pub chained-returns-then-levels-eq0 : goal.chained-returns-then-levels-eq0
chained-returns-then-levels-eq0 t c = none-told c.args.levels (in_chained c.args.level) c.args.reader.now _
    c.if-levels-eq0.true refl c.refusal.ensures

pub operand-returns-in_err-first : goal.operand-returns-in_err-first
operand-returns-in_err-first t c =
    let p = err_from_is_err_and c.from_residual.result c.from_residual.ensures.1 in
    rw (p.1, p.2) (operand-first_stops unary_marks operand_marks c.in_err-first.field-0.0
    (levels_left c.args.levels) c.args.loosest c.args.reader.now c.unary.new.reader
    c.in_err-first.ensures)

pub operand-returns-in_err-chain : goal.operand-returns-in_err-chain
operand-returns-in_err-chain t c =
    let p = err_from_is_err_and c.from_residual-in_err-chain.result c.from_residual-in_err-chain.ensures.1 in
    rw (p.1, p.2) (operand-stops (λ k. optional (option_map chain_marks k)) operand_marks
    c.in_err-chain.field-0.0 (levels_left c.args.levels) c.loop-tighter.tighter c.args.loosest
    c.args.reader.now c.loop-tighter.reader c.maybe_chain.new.reader _ c.loop-tighter.invariant
    c.loop-tighter-test.true c.in_err-chain.ensures)

pub chained-returns-in_err-operand : goal.chained-returns-in_err-operand
chained-returns-in_err-operand t c = rw (chained-some c.args.levels c.args.level c.args.reader.now
    c.if-levels-eq0.false c.requires) (search rules)

pub chained-returns-in_err-chain : goal.chained-returns-in_err-chain
chained-returns-in_err-chain t c = rw (chained-some c.args.levels c.args.level c.args.reader.now
    c.if-levels-eq0.false c.requires) (search rules)

pub chained-returns-in_ok-new-in-Some : goal.chained-returns-in_ok-new-in-Some
chained-returns-in_ok-new-in-Some t c = rw (chained-some c.args.levels c.args.level c.args.reader.now
    c.if-levels-eq0.false c.requires) (search rules)

pub chained-returns-in-None : goal.chained-returns-in-None
chained-returns-in-None t c = rw (chained-some c.args.levels c.args.level c.args.reader.now
    c.if-levels-eq0.false c.requires) (search rules)

pub inner_arguments-returns-then-levels-eq0 : goal.inner_arguments-returns-then-levels-eq0
inner_arguments-returns-then-levels-eq0 t c =
    rw (levels_left-none c.args.levels in_arguments c.args.reader.now c.if-levels-eq0.true)
    c.no_arguments.ensures

pub inner_arguments-returns : goal.inner_arguments-returns
inner_arguments-returns t c = rw (levels_left-some c.args.levels in_arguments c.args.reader.now
    c.if-levels-eq0.false) c.arguments.ensures

-- expressions after commas
abbrev comma : List Token → Bool
comma = next_is (mark punct.Comma)

abbrev after_comma : Inner → Reading
after_comma inner = read_sign punct.Comma ▹ read_expression inner

pub next_expressions-returns-then-not-next_is : goal.next_expressions-returns-then-not-next_is
next_expressions-returns-then-not-next_is t c =
    let none : comma c.loop-read.reader ≡ false = search rules in
    repeat-end _ _ comma (after_comma (levels_left c.args.levels)) c.loop-read.reader _ c.loop-read.invariant
    none

pub next_expressions-returns : goal.next_expressions-returns
next_expressions-returns t c =
    repeat-out _ _ comma (after_comma (levels_left c.args.levels)) c.loop-read.reader _ c.loop-read.invariant
    (omega (arith, ap length c.rest-most.ensures))

pub next_expressions-returns-in_err-next_expression : goal.next_expressions-returns-in_err-next_expression
next_expressions-returns-in_err-next_expression t c =
    let p = err_from_is_err_and c.from_residual.result c.from_residual.ensures.1 in
    let some : comma c.loop-read.reader ≡ true = search rules in
    rw (p.1, p.2) (repeat-stop {A = List Mark} {B = List Mark} (λ f. f) (λ f. f)
    c.in_err-next_expression.field-0.0 _ _ comma (after_comma (levels_left c.args.levels))
    c.loop-read.reader c.next_expression.new.reader _ c.loop-read.invariant some
    (omega (arith, ap length c.rest-most.ensures)) c.in_err-next_expression.ensures)

pub next_expressions-loop-read-preserved : goal.next_expressions-loop-read-preserved
next_expressions-loop-read-preserved t c =
    let some : comma c.loop-read.reader ≡ true = search rules in
    let one : length c.args.reader.now - c.loop-read._read ≡ length c.args.reader.now
    - (c.loop-read._read + 1) + 1 = omega (arith, ap length c.rest-most.ensures) in
    repeat-turn next_expression_marks _ _ _ comma (after_comma (levels_left c.args.levels)) c.loop-read.reader
    c.next_expression.new.reader c.loop-read.rest.items c.push.new.self.items _ c.loop-read.invariant some
    one c.in_ok-next_expression.ensures c.in_ok-push.ensures.items

pub operand-loop-tighter-init : goal.operand-loop-tighter-init
operand-loop-tighter-init t c =
    rw c.new-chains.ensures.items (c.in_ok-first.ensures ∙ ap (λ f. done f c.unary.new.reader)
    (sym (append-nil (unary_marks c.in_ok-first.first))))

pub operand-loop-tighter-preserved : goal.operand-loop-tighter-preserved
operand-loop-tighter-preserved t c =
    rw (c.in_ok-push_some.ensures, ← append_assoc)
    (operand-next (levels_left c.args.levels) c.loop-tighter.tighter c.args.reader.now c.loop-tighter.reader
    c.maybe_chain.new.reader _ _ c.loop-tighter.invariant c.in_ok-chain.ensures)
