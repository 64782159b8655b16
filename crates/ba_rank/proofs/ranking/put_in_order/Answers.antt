use Rattle.std.proofs.Common.{rules}
use Rattle.ba_rank.proofs.Ordering.{sorted_by}
use Rattle.ba_rank.proofs.ranking.put_in_order.Goals as goal

pub returns-clause-order : goal.returns-clause-order
returns-clause-order c =
    sorted_by c.args.entries.now.items c.sort_unstable_by.new.self.items
    c.sort_unstable_by.ensures.permutation c.sort_unstable_by.ensures.sorted (λ a r f' k. search rules)
    c.requires
