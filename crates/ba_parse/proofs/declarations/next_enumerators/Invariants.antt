-- The whole is what was read, and then what is read from here.

use Rattle.std.proofs.Common.{◌≡◌, ◌-◌, length, map}
use Rattle.ba_parse.specs.Readings.{with_front, many_upto, levels_left}
use Rattle.ba_trees.specs.Views.{joined}
use Rattle.ba_trees.specs.DeclarationMarks.{next_enumerator_marks}
use Rattle.ba_parse.proofs.Begins.{enumerator, next_enumerator}
use Rattle.ba_parse.proofs.declarations.next_enumerators.Given as goal

abbrev pub invariant-loop-read : goal.invariant-loop-read
invariant-loop-read l =
    many_upto (length l.fn.reader) enumerator (next_enumerator (levels_left l.levels)) l.fn.reader
    ≡ with_front (joined (map next_enumerator_marks l.rest.items)) (many_upto (length l.fn.reader - l._read)
    enumerator (next_enumerator (levels_left l.levels)) l.reader)
