use Rattle.std.proofs.Common.{◌≡◌, ◌+◌, ltb, ap, arith}
use Rattle.std.specs.Prelude.{count_by}
use Rattle.ba_rank.specs.Counts.{times_named}
use Rattle.ba_rank.proofs.Counting.{count-next}
use Rattle.ba_rank.proofs.ranking.times_named.Goals as goal

-- those below the next number are those below this one, and those that are it
parts : (c : goal.After-count_below-2)
    → c.count_below.result ≡ c.count_below-2.result + times_named c.args.number c.args.numbers.now
parts c =
    let n = c.from-number.result in
    let xs = c.args.numbers.now in
    let upto : c.count_below.result ≡ count_by (λ m. ltb m (n + 1)) xs = c.count_below.ensures in
    let below : c.count_below-2.result ≡ count_by (λ m. ltb m n) xs = c.count_below-2.ensures in
    let equal : times_named n xs ≡ times_named c.args.number xs =
    ap (λ k. times_named k xs) c.from-number.ensures in
    omega (arith, count-next n xs, upto, below, equal)

pub overflow_sub-result : goal.overflow_sub-result
overflow_sub-result c = omega (arith, parts c)

pub returns : goal.returns
returns c = omega (arith, parts c)
