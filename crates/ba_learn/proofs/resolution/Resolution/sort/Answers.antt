use Rattle.std.proofs.Common.{ℕ, subst}
use Rattle.std.proofs.lemmas.List.Sorted.{IsNonDecreasingBy-from_sort}
use Rattle.ba_learn.specs.Resolving.{Work, SortsNumbers}
use Rattle.ba_learn.proofs.resolution.Resolution.sort.Goals as goal

pub returns-clause-sorted : goal.returns-clause-sorted
returns-clause-sorted c =
    let e = c.sort_unstable.ensures in
    subst (λ (w : Work). SortsNumbers w.resolved c.sort_unstable.new.self.items) c.self.view_is
    (record {
      same = e.permutation;
      ascends = IsNonDecreasingBy-from_sort (λ (x : ℕ). x)
          c.sort_unstable.new.self.items e.sorted;
    })
