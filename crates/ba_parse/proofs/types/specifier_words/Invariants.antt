-- The whole is the words that were read, and then what is read after them.

use Rattle.std.proofs.Common.{◌≡◌, [], length}
use Rattle.ba_parse.specs.Readings.{with_front, words_after}
use Rattle.ba_parse.proofs.TypeWords.{leaves, classes}
use Rattle.ba_parse.proofs.types.specifier_words.Given as goal

abbrev pub invariant-loop-reader : goal.invariant-loop-reader
invariant-loop-reader l = record {
  whole : words_after l.fn.with_static [] l.fn.reader ≡ with_front (leaves l.words.items)
      (words_after l.fn.with_static (classes l.words.items) l.reader);
  seen : l.classes.items ≡ classes l.words.items;
}

abbrev pub decreases-loop-reader : goal.decreases-loop-reader
decreases-loop-reader l = length l.reader
