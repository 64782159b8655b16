use Rattle.std.proofs.Common.{ltb, rules, sym}
use Rattle.std.proofs.lemmas.List.Sorted.{IsPartitionPoint-from_clause, IsPartitionedBy-ltb}
use Rattle.ba_rank.proofs.Counting.{count_at}
use Rattle.ba_rank.proofs.ranking.count_below.Goals as goal

pub returns : goal.returns
returns c =
    let xs = c.args.numbers.now in
    let parted = IsPartitionPoint-from_clause (λ m. ltb m c.args.limit) xs c.partition_point.result
    c.partition_point.ensures.partitioned (IsPartitionedBy-ltb (λ m. m) xs c.args.limit c.requires)
    (λ a r f' k. search rules) in
    sym (count_at (λ m. ltb m c.args.limit) xs c.partition_point.result c.partition_point.ensures.bound
    parted.0 parted.1)
