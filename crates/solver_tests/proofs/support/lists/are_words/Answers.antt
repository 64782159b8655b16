use Rattle.std.proofs.Common.{◌∙◌, ap, arith, sym}
use Rattle.std.proofs.lemmas.List.{drop_all}
use Rattle.ba_wordlist.specs.Facts.{are_words, fit_behind}
use Rattle.solver_tests.proofs.support.lists.are_words.Goals as goal

pub returns : goal.returns
unfolding are_words
returns g c = λ _. sym c.loop-op.invariant
    ∙ ap (fit_behind c.loop-op.lengths.items) (drop_all c.loop-op.op-index c.args.words.now (omega arith))
