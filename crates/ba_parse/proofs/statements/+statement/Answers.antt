-- Inside a construct, by whether a level is left; the items of a block, and the groups of a `switch`.

use Rattle.std.proofs.Common.{append_assoc, option_map, ◌≡◌, ◌+◌, ◌-◌, true, false, List, [], ◌∷◌, Err, length, map, rules, arith, refl, ap, ◌∙◌, sym}
use Rattle.std.proofs.lemmas.Result.{err_from_is_err_and}
use Rattle.ba_trees.specs.Marks.{Mark, leaf, one_deeper}
use Rattle.ba_tokens.specs.declared.token.Token.{Token}
use Rattle.ba_tokens.specs.declared.token.Keyword.TheVariants as keyword
use Rattle.ba_tokens.specs.declared.token.Punct.TheVariants as punct
use Rattle.ba_parse.specs.Readings.{Answer, Inner, Reading, ◌▹◌, done, lowered, levels_left, in_block, in_groups, in_for, in_statement, deeper_in, read_key, read_sign, read_condition, read_parenthesized}
use Rattle.ba_parse.specs.Tails.{read_else}
use Rattle.ba_parse.specs.Telling.{Told}
use Rattle.ba_trees.specs.Views.{joined}
use Rattle.ba_trees.specs.SimpleMarks.{condition_marks, for_head_marks}
use Rattle.ba_trees.specs.StatementMarks.{or_no_else, else_marks, controlled_marks, item_marks, group_marks, statement_marks}
use Rattle.ba_parse.proofs.Levels.{both-read, levels_left-none, levels_left-some, none-told, lowered-stops, deeper-told}
use Rattle.ba_parse.proofs.Repeats.{repeat-turn, repeat-end, repeat-out, repeat-stop}
use Rattle.ba_parse.proofs.StatementBegins.{item, an_item, labelled, a_group, statement, a_statement}
use Rattle.ba_parse.proofs.StatementForms.{if_marks, switch_marks, for_marks}
use Rattle.ba_parse.proofs.statements.+statement.Goals as goal

pub inner_items-returns-then-levels-eq0 : goal.inner_items-returns-then-levels-eq0
inner_items-returns-then-levels-eq0 t c = rw (levels_left-none c.args.levels in_block c.args.reader.now
    c.if-levels-eq0.true) c.no_items.ensures

pub inner_items-returns : goal.inner_items-returns
inner_items-returns t c = rw (levels_left-some c.args.levels in_block c.args.reader.now c.if-levels-eq0.false)
    c.items.ensures

pub controlled-returns-then-levels-eq0 : goal.controlled-returns-then-levels-eq0
controlled-returns-then-levels-eq0 t c = lowered-stops {A = List Mark} (λ f. f) controlled_marks
    c.refusal.result (levels_left c.args.levels in_statement c.args.reader.now) c.args.reader.now
    (none-told c.args.levels in_statement c.args.reader.now _ c.if-levels-eq0.true refl c.refusal.ensures)

pub controlled-returns-in_err-body : goal.controlled-returns-in_err-body
controlled-returns-in_err-body t c =
    let p = err_from_is_err_and c.from_residual.result c.from_residual.ensures.1 in
    let inside : Answer = levels_left c.args.levels in_statement c.args.reader.now in
    let told : Told statement_marks (Err c.in_err-body.field-0.0) inside c.statement.new.reader =
    rw (levels_left-some c.args.levels in_statement c.args.reader.now c.if-levels-eq0.false)
    c.in_err-body.ensures in
    rw (p.1, p.2) (lowered-stops statement_marks controlled_marks c.in_err-body.field-0.0 inside _ told)

pub controlled-returns : goal.controlled-returns
controlled-returns t c =
    let inside : Answer = levels_left c.args.levels in_statement c.args.reader.now in
    let read : inside ≡ done (statement_marks c.in_ok-body.body) c.statement.new.reader =
    levels_left-some c.args.levels in_statement c.args.reader.now c.if-levels-eq0.false
    ∙ c.in_ok-body.ensures in
    deeper-told controlled_marks _ inside (statement_marks c.in_ok-body.body) _ read
    c.controlled_by_another.ensures

pub items-returns-then-not-next_is : goal.items-returns-then-not-next_is
items-returns-then-not-next_is t c =
    let none : item c.loop-read.reader ≡ false = search rules in
    repeat-end _ _ item (an_item (levels_left c.args.levels)) c.loop-read.reader _ c.loop-read.invariant none

pub items-returns : goal.items-returns
items-returns t c =
    repeat-out _ _ item (an_item (levels_left c.args.levels)) c.loop-read.reader _ c.loop-read.invariant
    (omega (arith, ap length c.rest-most.ensures))

pub items-returns-in_err-next : goal.items-returns-in_err-next
items-returns-in_err-next t c =
    let p = err_from_is_err_and c.from_residual.result c.from_residual.ensures.1 in
    let some : item c.loop-read.reader ≡ true = search rules in
    rw (p.1, p.2) (repeat-stop {A = List Mark} {B = List Mark} (λ f. f) (λ f. f) c.in_err-next.field-0.0 _ _
    item (an_item (levels_left c.args.levels)) c.loop-read.reader c.item.new.reader _
    c.loop-read.invariant some (omega (arith, ap length c.rest-most.ensures)) c.in_err-next.ensures)

pub items-loop-read-preserved : goal.items-loop-read-preserved
items-loop-read-preserved t c =
    let some : item c.loop-read.reader ≡ true = search rules in
    let one : length c.args.reader.now - c.loop-read._read ≡ length c.args.reader.now
    - (c.loop-read._read + 1) + 1 = omega (arith, ap length c.rest-most.ensures) in
    repeat-turn item_marks _ _ _ item (an_item (levels_left c.args.levels)) c.loop-read.reader
    c.item.new.reader c.loop-read.all.items c.push.new.self.items _ c.loop-read.invariant some one
    c.in_ok-next.ensures c.in_ok-push.ensures.items

pub inner_groups-returns-then-levels-eq0 : goal.inner_groups-returns-then-levels-eq0
inner_groups-returns-then-levels-eq0 t c = rw (levels_left-none c.args.levels in_groups c.args.reader.now
    c.if-levels-eq0.true) c.no_groups.ensures

pub inner_groups-returns : goal.inner_groups-returns
inner_groups-returns t c = rw (levels_left-some c.args.levels in_groups c.args.reader.now
    c.if-levels-eq0.false) c.groups.ensures

pub groups-returns-then-not-next_is : goal.groups-returns-then-not-next_is
groups-returns-then-not-next_is t c =
    let none : labelled c.loop-read.reader ≡ false = search rules in
    repeat-end _ _ labelled (a_group (levels_left c.args.levels)) c.loop-read.reader _ c.loop-read.invariant
    none

pub groups-returns : goal.groups-returns
groups-returns t c =
    repeat-out _ _ labelled (a_group (levels_left c.args.levels)) c.loop-read.reader _ c.loop-read.invariant
    (omega (arith, ap length c.rest-most.ensures))

pub groups-returns-in_err-next : goal.groups-returns-in_err-next
groups-returns-in_err-next t c =
    let p = err_from_is_err_and c.from_residual.result c.from_residual.ensures.1 in
    let some : labelled c.loop-read.reader ≡ true = search rules in
    rw (p.1, p.2) (repeat-stop {A = List Mark} {B = List Mark} (λ f. f) (λ f. f) c.in_err-next.field-0.0 _ _
    labelled (a_group (levels_left c.args.levels)) c.loop-read.reader c.group.new.reader _
    c.loop-read.invariant some (omega (arith, ap length c.rest-most.ensures)) c.in_err-next.ensures)

pub groups-loop-read-preserved : goal.groups-loop-read-preserved
groups-loop-read-preserved t c =
    let some : labelled c.loop-read.reader ≡ true = search rules in
    let one : length c.args.reader.now - c.loop-read._read ≡ length c.args.reader.now
    - (c.loop-read._read + 1) + 1 = omega (arith, ap length c.rest-most.ensures) in
    repeat-turn group_marks _ _ _ labelled (a_group (levels_left c.args.levels)) c.loop-read.reader
    c.group.new.reader c.loop-read.all.items c.push.new.self.items _ c.loop-read.invariant some one
    c.in_ok-next.ensures c.in_ok-push.ensures.items

pub statements-returns-then-not-next_is : goal.statements-returns-then-not-next_is
statements-returns-then-not-next_is t c =
    let none : statement c.loop-read.reader ≡ false = search rules in
    repeat-end _ _ statement (a_statement (levels_left c.args.levels)) c.loop-read.reader _
    c.loop-read.invariant none

pub statements-returns : goal.statements-returns
statements-returns t c =
    repeat-out _ _ statement (a_statement (levels_left c.args.levels)) c.loop-read.reader _
    c.loop-read.invariant (omega (arith, ap length c.rest-most.ensures))

pub statements-returns-in_err-next : goal.statements-returns-in_err-next
statements-returns-in_err-next t c =
    let p = err_from_is_err_and c.from_residual.result c.from_residual.ensures.1 in
    let some : statement c.loop-read.reader ≡ true = search rules in
    rw (p.1, p.2) (repeat-stop {A = List Mark} {B = List Mark} (λ f. f) (λ f. f) c.in_err-next.field-0.0 _ _
    statement (a_statement (levels_left c.args.levels)) c.loop-read.reader c.statement.new.reader _
    c.loop-read.invariant some (omega (arith, ap length c.rest-most.ensures)) c.in_err-next.ensures)

pub statements-loop-read-preserved : goal.statements-loop-read-preserved
statements-loop-read-preserved t c =
    let some : statement c.loop-read.reader ≡ true = search rules in
    let one : length c.args.reader.now - c.loop-read._read ≡ length c.args.reader.now
    - (c.loop-read._read + 1) + 1 = omega (arith, ap length c.rest-most.ensures) in
    repeat-turn statement_marks _ _ _ statement (a_statement (levels_left c.args.levels)) c.loop-read.reader
    c.statement.new.reader c.loop-read.all.items c.push.new.self.items _ c.loop-read.invariant some one
    c.in_ok-next.ensures c.in_ok-push.ensures.items

pub if_statement-returns : goal.if_statement-returns
if_statement-returns t c =
    let inner : Inner = levels_left c.args.levels in
    let after : List Token = c.maybe_else.new.reader in
    let condition : List Mark = condition_marks c.in_ok-test.test in
    let holds : List Mark = controlled_marks c.in_ok-holds.holds in
    let fails : List Mark = or_no_else (option_map else_marks c.in_ok-fails.fails) in
    both-read (read_key keyword.If) (read_condition inner ▹ deeper_in inner in_statement ▹ read_else inner)
    c.args.reader.now _ _ _ _ c.in_ok-keyword.ensures
    (both-read (read_condition inner) (deeper_in inner in_statement ▹ read_else inner)
    c.take.new.self _ _ _ _ c.in_ok-test.ensures
    (both-read (deeper_in inner in_statement) (read_else inner)
    _ _ _ _ _ c.in_ok-holds.ensures c.in_ok-fails.ensures))
    ∙ ap (λ f. done (leaf c.in_ok-keyword.keyword ∷ f) after) (sym (append_assoc condition holds fails))
    ∙ ap (λ f. done f after)
    (sym (if_marks c.in_ok-keyword.keyword c.in_ok-test.test c.in_ok-holds.holds c.in_ok-fails.fails))

pub switch_statement-returns : goal.switch_statement-returns
switch_statement-returns t c =
    let inner : Inner = levels_left c.args.levels in
    let after : List Token = c.take-3.new.self in
    let condition : List Mark = condition_marks c.in_ok-on.on in
    let groups : List Mark = one_deeper (joined (map group_marks c.in_ok-groups.groups.items)) in
    let close : List Mark = leaf c.in_ok-close.close ∷ [] in
    let inside : Reading = deeper_in inner in_groups ▹ read_sign punct.CloseBrace in
    both-read (read_key keyword.Switch) (read_condition inner ▹ read_sign punct.OpenBrace ▹ inside)
    c.args.reader.now _ _ _ _ c.in_ok-keyword.ensures
    (both-read (read_condition inner) (read_sign punct.OpenBrace ▹ inside)
    c.take.new.self _ _ _ _ c.in_ok-on.ensures
    (both-read (read_sign punct.OpenBrace) inside
    c.condition.new.reader _ _ _ _ c.in_ok-open.ensures
    (both-read (deeper_in inner in_groups) (read_sign punct.CloseBrace)
    c.take-2.new.self _ _ _ _ (ap lowered c.in_ok-groups.ensures) c.in_ok-close.ensures)))
    ∙ ap (λ f. done (leaf c.in_ok-keyword.keyword ∷ f) after)
    (sym (append_assoc condition (leaf c.in_ok-open.«open» ∷ groups) close))
    ∙ ap (λ f. done f after) (sym (switch_marks c.in_ok-keyword.keyword c.in_ok-on.on c.in_ok-open.«open»
    c.in_ok-groups.groups c.in_ok-close.close))

pub for_statement-returns : goal.for_statement-returns
for_statement-returns t c =
    let inner : Inner = levels_left c.args.levels in
    let after : List Token = c.controlled.new.reader in
    let head : List Mark = one_deeper (for_head_marks c.in_ok-head.head.value) in
    let close : List Mark = leaf c.in_ok-close.close ∷ [] in
    let body : List Mark = controlled_marks c.in_ok-body.body in
    both-read (read_key keyword.For) (read_parenthesized inner in_for ▹ deeper_in inner in_statement)
    c.args.reader.now _ _ _ _ c.in_ok-keyword.ensures
    (both-read (read_parenthesized inner in_for) (deeper_in inner in_statement)
    c.take.new.self _ _ _ _
    (both-read (read_sign punct.OpenParenthesis) (deeper_in inner in_for ▹ read_sign punct.CloseParenthesis)
    c.take.new.self _ _ _ _ c.in_ok-open.ensures
    (both-read (deeper_in inner in_for) (read_sign punct.CloseParenthesis)
    _ _ _ _ _ (ap lowered c.in_ok-head.ensures) c.in_ok-close.ensures))
    c.in_ok-body.ensures)
    ∙ ap (λ f. done (leaf c.in_ok-keyword.keyword ∷ leaf c.in_ok-open.«open» ∷ f) after)
    (append_assoc head close body)
    ∙ ap (λ f. done f after) (sym (for_marks record {
      keyword = c.in_ok-keyword.keyword;
      «open» = c.in_ok-open.«open»;
      head = c.in_ok-head.head;
      close = c.in_ok-close.close;
      body = c.in_ok-body.body;
    }))
