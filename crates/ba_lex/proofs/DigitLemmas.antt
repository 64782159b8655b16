-- The value of digits grows with each digit.
use Rattle.std.proofs.Common.{ℕ, ◌+◌, ◌*◌, ◌<◌, ◌≤◌, List, [], ◌∷◌, arith}
use Rattle.std.proofs.Math.Nat.{mul-le-mul_left}
use Rattle.std.specs.Char.{digit_value}
use Rattle.std.specs.Str.Parse.{digits_value_after}

times_grows : (base n : ℕ) → 0 < base → n ≤ n * base
times_grows base n positive = grind (arith, mul-le-mul_left)

pub value_grows : (base n : ℕ) (ds : List ℕ) → 0 < base → n ≤ digits_value_after base n ds
value_grows base n [] positive = omega arith
value_grows base n (d ∷ ds) positive =
    let more : n * base + digit_value d ≤ digits_value_after base (n * base + digit_value d) ds = value_grows base (n * base + digit_value d) ds positive in
    let one : n ≤ n * base = times_grows base n positive in
    omega (arith, more, one)
