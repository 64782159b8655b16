-- The whole is what was read, and then what is read from here.

use Rattle.std.proofs.Common.{◌≡◌, ◌-◌, length, map}
use Rattle.ba_parse.specs.Readings.{with_front, many_upto, levels_left}
use Rattle.ba_trees.specs.Views.{joined}
use Rattle.ba_trees.specs.SimpleMarks.{listed_simple_marks}
use Rattle.ba_parse.proofs.Begins.{comma, next_simple}
use Rattle.ba_parse.proofs.simple.next_simples.Given as goal

abbrev pub invariant-loop-read : goal.invariant-loop-read
invariant-loop-read l =
    many_upto (length l.fn.reader) comma (next_simple (levels_left l.levels)) l.fn.reader
    ≡ with_front (joined (map listed_simple_marks l.rest.items)) (many_upto (length l.fn.reader - l._read)
    comma (next_simple (levels_left l.levels)) l.reader)
