use Rattle.std.proofs.Common.{sym, ap, subst, ◌∙◌}
use Rattle.std.specs.List.{IsDistinct}
use Rattle.std.specs.List.Sorted.{IsNonDecreasing}
use Rattle.std.proofs.lemmas.List.Sorted.{IsNonDecreasingBy-from_sort}
use Rattle.ba_rank.specs.Counts.{is_named, is_of_same, once_if}
use Rattle.ba_rank.specs.Ranking.{IsRanking}
use Rattle.ba_rank.proofs.Counting.{distinct-entries}
use Rattle.ba_rank.proofs.Ranks.{AreNamed, is-ranking, made-of}
use Rattle.ba_rank.proofs.ranking.rank.Goals as goal

pub entries_of-requires : goal.entries_of-requires
entries_of-requires c =
    subst IsNonDecreasing (sym c.as_slice-3.ensures.value)
    (IsNonDecreasingBy-from_sort (λ n. n) c.sort_unstable.new.self.items c.sort_unstable.ensures.sorted)

pub put_in_order-requires : goal.put_in_order-requires
put_in_order-requires c =
    let made = made-of c.in_ok-entries.entries.items c.as_slice-3.result.now c.as_slice-2.result.now
    c.sort_unstable.new.self.items c.leave_once.new.numbers.items c.in_ok-entries.ensures
    c.as_slice-3.ensures.value c.as_slice-2.ensures.value in
    subst (IsDistinct is_of_same) (sym made)
    (distinct-entries c.sort_unstable.new.self.items c.leave_once.new.numbers.items
    c.leave_once.ensures.distinct)

pub returns : goal.returns
returns c =
    let once : AreNamed c.sort_unstable.new.self.items c.leave_once.new.numbers.items = λ n.
    c.leave_once.ensures.once n ∙ ap (λ named. once_if (is_named n named))
    (c.in_ok-numbers.ensures.items ∙ c.as_slice.ensures.value) in
    let made = made-of c.in_ok-entries.entries.items c.as_slice-3.result.now c.as_slice-2.result.now
    c.sort_unstable.new.self.items c.leave_once.new.numbers.items c.in_ok-entries.ensures
    c.as_slice-3.ensures.value c.as_slice-2.ensures.value in
    let ranks = is-ranking c.args.lists.now c.in_ok-named.named.items c.sort_unstable.new.self.items
    c.leave_once.new.numbers.items c.in_ok-entries.entries.items c.put_in_order.new.entries.items
    c.in_ok-named.ensures c.sort_unstable.ensures.permutation once made c.put_in_order.ensures.same
    c.put_in_order.ensures.order in
    subst (IsRanking c.args.lists.now) (sym c.from_vec.ensures) ranks
