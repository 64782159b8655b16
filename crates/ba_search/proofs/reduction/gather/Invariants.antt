use Rattle.ba_search.proofs.DeletionLaws.{AreGathered}
use Rattle.ba_search.proofs.reduction.gather.Given as goal

abbrev pub invariant-loop-place : goal.invariant-loop-place
invariant-loop-place g l =
    AreGathered (g.R.SearchRules.keeping l.rules) l.checker l.marks l.learnt
    l.numbers.items l.last
