-- The ends of the loop over paths.
use Rattle.std.proofs.Common.{◌≡◌, ℕ, suc, ◌<◌, ◌≤◌, List, [], ◌∷◌, length, drop, refl, ap, ◌∙◌, arith}
use Rattle.std.specs.Cmp.{nat_cmp_is, ranks}
use Rattle.std.specs.Ordering.{MatchOrdering, nat_cmp}
use Rattle.std.specs.declared.cmp.Ordering.{Ordering}
use Rattle.std.specs.declared.cmp.Ordering.TheVariants.{Less, Equal, Greater}
use Rattle.ba_places.specs.Order.{path_cmp}
use Rattle.ba_tree.specs.declared.run.Step.{Step}

pub path_longer : (a b : List Step) → length b < length a → path_cmp (drop (length b) a) (drop (length b) b) ≡
    Greater
path_longer [] b more = absurd (omega (arith, more))
path_longer (x ∷ xs) [] more = refl
path_longer (x ∷ xs) (y ∷ ys) more = path_longer xs ys (omega (arith, more))

one_more : (m n : ℕ) → nat_cmp m n ≡ nat_cmp (suc m) (suc n)
one_more m n = by (nat_cmp m n) (ranks m n)
  where
    by : (order : Ordering) → MatchOrdering order (m < n) (m ≡ n) (n < m) → order ≡ nat_cmp (suc m) (suc n)
    by Less low = nat_cmp_is (suc m) (suc n) Less (omega (arith, low))
    by Equal same = nat_cmp_is (suc m) (suc n) Equal (ap suc same)
    by Greater low = nat_cmp_is (suc m) (suc n) Greater (omega (arith, low))

pub path_ended : (a b : List Step) → length a ≤ length b
    → path_cmp (drop (length a) a) (drop (length a) b) ≡ nat_cmp (length a) (length b)
path_ended [] [] few = nat_cmp_is 0 0 Equal refl
path_ended [] (y ∷ ys) few = nat_cmp_is 0 (length (y ∷ ys)) Less (omega arith)
path_ended (x ∷ xs) [] few = absurd (omega (arith, few))
path_ended (x ∷ xs) (y ∷ ys) few =
    path_ended xs ys (omega (arith, few)) ∙ one_more (length xs) (length ys)
