use Rattle.std.proofs.Common.{rules}
use Rattle.std.proofs.lemmas.Fn.{dedup_same}
use Rattle.ba_places.specs.Order.{same_place}
use Rattle.ba_places.proofs.Sorting.{sorted_by, kept_ascending, kept_same}
use Rattle.ba_places.proofs.order.put_in_order.Goals as goal

pub returns-clause-ascending : goal.returns-clause-ascending
returns-clause-ascending c =
    kept_ascending c.sort_unstable_by.new.self.items c.dedup_by.new.self.items
    (sorted_by c.sort_unstable_by.new.self.items c.sort_unstable_by.ensures.sorted (λ a r f' k. search rules))
    (dedup_same _ same_place _ (λ x y b f' x' y' k. search rules) _ _ c.dedup_by.ensures.filtered)

pub returns-clause-same : goal.returns-clause-same
returns-clause-same c place =
    kept_same c.args.places.now.items c.sort_unstable_by.new.self.items c.dedup_by.new.self.items place
    c.sort_unstable_by.ensures.permutation
    (dedup_same _ same_place _ (λ x y b f' x' y' k. search rules) _ _ c.dedup_by.ensures.filtered)
