use Rattle.std.proofs.Common.{◌≡◌, [], drop}
use Rattle.ba_wordlist.specs.Facts.{fit_behind}
use Rattle.solver_tests.proofs.support.lists.are_words.Given as goal

abbrev pub invariant-loop-op : goal.invariant-loop-op
invariant-loop-op g l = fit_behind l.lengths.items (drop l.op-index l.words) ≡ fit_behind [] l.words
