-- The whole is what was read, and then what is read from here.

use Rattle.std.proofs.Common.{◌≡◌, ◌-◌, length, map}
use Rattle.ba_parse.specs.Readings.{with_front, many_upto, levels_left}
use Rattle.ba_trees.specs.Views.{joined}
use Rattle.ba_trees.specs.DeclarationMarks.{next_parameter_marks}
use Rattle.ba_parse.proofs.Begins.{comma, next_parameter}
use Rattle.ba_parse.proofs.declarations.next_parameters.Given as goal

abbrev pub invariant-loop-read : goal.invariant-loop-read
invariant-loop-read l =
    many_upto (length l.fn.reader) comma (next_parameter (levels_left l.levels)) l.fn.reader
    ≡ with_front (joined (map next_parameter_marks l.rest.items)) (many_upto (length l.fn.reader - l._read)
    comma (next_parameter (levels_left l.levels)) l.reader)
