-- The whole is what was read, and then what is read from here.

use Rattle.std.proofs.Common.{◌≡◌, ◌-◌, length, map}
use Rattle.ba_parse.specs.Readings.{with_front, many_upto, levels_left}
use Rattle.ba_trees.specs.Views.{joined}
use Rattle.ba_trees.specs.ExternalMarks.{external_marks}
use Rattle.ba_parse.proofs.StatementBegins.{external, an_external}
use Rattle.ba_parse.proofs.parser.externals.Given as goal

abbrev pub invariant-loop-read : goal.invariant-loop-read
invariant-loop-read l =
    many_upto (length l.fn.reader) external (an_external (levels_left l.levels)) l.fn.reader
    ≡ with_front (joined (map external_marks l.all.items)) (many_upto (length l.fn.reader - l._read) external
    (an_external (levels_left l.levels)) l.reader)
