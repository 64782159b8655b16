-- The whole is what was read, and then what is read from here.

use Rattle.std.proofs.Common.{◌≡◌, ◌-◌, length}
use Rattle.ba_parse.specs.Readings.{with_front, many_upto}
use Rattle.ba_parse.proofs.OtherRepeats.{string, a_string}
use Rattle.ba_parse.proofs.TypeWords.{leaves}
use Rattle.ba_parse.proofs.simple.next_strings.Given as goal

abbrev pub invariant-loop-read : goal.invariant-loop-read
invariant-loop-read l =
    many_upto (length l.fn.reader) string a_string l.fn.reader
    ≡ with_front (leaves l.rest.items) (many_upto (length l.fn.reader - l._read) string a_string l.reader)
