-- One digit more, if a number past the greatest counts as the greatest.
use Rattle.std.proofs.Common.{◌≡◌, ℕ, ◌+◌, ◌*◌, min, arith}
use Rattle.std.proofs.lemmas.Bool.Decides.{nat_tests}

pub saturated_digit : (n d greatest : ℕ) → min (min (min n greatest * 10) greatest + d) greatest ≡ min (n * 10 + d) greatest
saturated_digit n d greatest = grind (arith, nat_tests)
