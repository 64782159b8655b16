-- How many more constructs may be around a token, and then a rank: what is inside a construct has the least.

use Rattle.std.proofs.Common.{◌≡◌, ◌+◌, ◌-◌, ◌*◌, length, map}
use Rattle.ba_parse.specs.Readings.{with_front, many_upto, levels_left}
use Rattle.ba_trees.specs.Views.{joined}
use Rattle.ba_trees.specs.StatementMarks.{item_marks, group_marks, statement_marks}
use Rattle.ba_parse.proofs.StatementBegins.{item, an_item, labelled, a_group, statement, a_statement}
use Rattle.ba_parse.proofs.statements.+statement.Given as goal

abbrev pub decreases-inner_items : goal.decreases-inner_items
decreases-inner_items l = 9 * l.levels + 0

abbrev pub decreases-controlled : goal.decreases-controlled
decreases-controlled l = 9 * l.levels + 0

abbrev pub decreases-block : goal.decreases-block
decreases-block l = 9 * l.levels + 1

abbrev pub decreases-maybe_else : goal.decreases-maybe_else
decreases-maybe_else l = 9 * l.levels + 1

abbrev pub decreases-while_statement : goal.decreases-while_statement
decreases-while_statement l = 9 * l.levels + 1

abbrev pub decreases-do_statement : goal.decreases-do_statement
decreases-do_statement l = 9 * l.levels + 1

abbrev pub decreases-for_statement : goal.decreases-for_statement
decreases-for_statement l = 9 * l.levels + 1

abbrev pub decreases-inner_groups : goal.decreases-inner_groups
decreases-inner_groups l = 9 * l.levels + 0

abbrev pub decreases-switch_statement : goal.decreases-switch_statement
decreases-switch_statement l = 9 * l.levels + 1

abbrev pub decreases-if_statement : goal.decreases-if_statement
decreases-if_statement l = 9 * l.levels + 2

abbrev pub decreases-keyword_statement : goal.decreases-keyword_statement
decreases-keyword_statement l = 9 * l.levels + 3

abbrev pub decreases-statement_form : goal.decreases-statement_form
decreases-statement_form l = 9 * l.levels + 4

abbrev pub decreases-statement : goal.decreases-statement
decreases-statement l = 9 * l.levels + 5

abbrev pub decreases-item : goal.decreases-item
decreases-item l = 9 * l.levels + 6

abbrev pub decreases-items : goal.decreases-items
decreases-items l = 9 * l.levels + 7

abbrev pub decreases-statements : goal.decreases-statements
decreases-statements l = 9 * l.levels + 6

abbrev pub decreases-group : goal.decreases-group
decreases-group l = 9 * l.levels + 7

abbrev pub decreases-groups : goal.decreases-groups
decreases-groups l = 9 * l.levels + 8

-- the whole is what was read, and then what is read from here
abbrev pub invariant-items-loop-read : goal.invariant-items-loop-read
invariant-items-loop-read l =
    many_upto (length l.fn.reader) item (an_item (levels_left l.levels)) l.fn.reader
    ≡ with_front (joined (map item_marks l.all.items)) (many_upto (length l.fn.reader - l._read) item
    (an_item (levels_left l.levels)) l.reader)

abbrev pub invariant-groups-loop-read : goal.invariant-groups-loop-read
invariant-groups-loop-read l =
    many_upto (length l.fn.reader) labelled (a_group (levels_left l.levels)) l.fn.reader
    ≡ with_front (joined (map group_marks l.all.items)) (many_upto (length l.fn.reader - l._read) labelled
    (a_group (levels_left l.levels)) l.reader)

abbrev pub invariant-statements-loop-read : goal.invariant-statements-loop-read
invariant-statements-loop-read l =
    many_upto (length l.fn.reader) statement (a_statement (levels_left l.levels)) l.fn.reader
    ≡ with_front (joined (map statement_marks l.all.items)) (many_upto (length l.fn.reader - l._read)
    statement (a_statement (levels_left l.levels)) l.reader)
