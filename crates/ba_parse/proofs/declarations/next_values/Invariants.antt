-- The whole is what was read, and then what is read from here.

use Rattle.std.proofs.Common.{◌≡◌, ◌-◌, length, map}
use Rattle.ba_parse.specs.Readings.{with_front, many_upto, levels_left}
use Rattle.ba_trees.specs.Views.{joined}
use Rattle.ba_trees.specs.ExpressionMarks.{next_expression_marks}
use Rattle.ba_parse.proofs.Begins.{value, after_comma}
use Rattle.ba_parse.proofs.declarations.next_values.Given as goal

abbrev pub invariant-loop-read : goal.invariant-loop-read
invariant-loop-read l =
    many_upto (length l.fn.reader) value (after_comma (levels_left l.levels)) l.fn.reader
    ≡ with_front (joined (map next_expression_marks l.rest.items)) (many_upto (length l.fn.reader - l._read)
    value (after_comma (levels_left l.levels)) l.reader)
