use Rattle.std.proofs.Common.{ℕ, List, get_or, ap, ◌∙◌, arith}
use Rattle.std.specs.Prelude.{nat_eq}
use Rattle.std.specs.List.{IsDistinct}
use Rattle.std.specs.List.Sorted.{IsStrictlyIncreasing}
use Rattle.std.proofs.lemmas.Bool.{ne_eqb}
use Rattle.std.proofs.lemmas.List.Filters.{dedup_is}
use Rattle.std.proofs.lemmas.List.Kept.{Contains-dedup_nat, Contains-from_dedup}
use Rattle.std.proofs.lemmas.List.Sorted.{Contains-permutation, IsPermutation-sym}
use Rattle.std.proofs.lemmas.Map.Keys.{IsDistinct-from_apart, IsStrictlyIncreasing-dedup, below_from_sorted, sorted_from_strictly_increasing}
use Rattle.ba_tree.proofs.Members.{contains_has, has_contains}
use Rattle.ba_rank.specs.Counts.{once_if}
use Rattle.ba_rank.proofs.Counting.{distinct-once, same-named}
use Rattle.ba_rank.proofs.ranking.leave_once.Goals as goal

rising-distinct : (xs : List ℕ) → IsStrictlyIncreasing xs → IsDistinct nat_eq xs
rising-distinct xs rises = IsDistinct-from_apart nat_eq xs (λ i j d low below.
    let less = below_from_sorted xs i j d (sorted_from_strictly_increasing xs rises) low below in
    ne_eqb (get_or xs i d) (get_or xs j d) (λ same. omega (arith, less, same)))

distinct : (c : goal.After-dedup) → IsDistinct nat_eq c.dedup.new.self.items
distinct c = rising-distinct c.dedup.new.self.items
    (rw (dedup_is _ _ _ c.dedup.ensures.filtered)
    (IsStrictlyIncreasing-dedup _ c.sort_unstable.ensures.sorted))

pub returns-clause-distinct : goal.returns-clause-distinct
returns-clause-distinct c = distinct c

pub returns-clause-once : goal.returns-clause-once
returns-clause-once c n =
    let is = dedup_is _ _ _ c.dedup.ensures.filtered in
    let moved = c.sort_unstable.ensures.permutation in
    distinct-once n c.dedup.new.self.items (distinct c)
    ∙ ap once_if (same-named n c.dedup.new.self.items c.args.numbers.now.items
    (λ h. contains_has _ n (Contains-permutation _ _ n (IsPermutation-sym _ _ moved)
    (Contains-from_dedup _ _ n (rw is at (has_contains c.dedup.new.self.items n h)))))
    (λ h. contains_has _ n (rw is (Contains-dedup_nat _ n (Contains-permutation _ _ n moved
    (has_contains c.args.numbers.now.items n h))))))
