-- The value of a byte as a signed char.
use Rattle.std.proofs.Common.{◌≡◌, ℕ, ◌+◌, ◌-◌, ◌%◌, ◌<◌, ◌≤◌, pos, ◌-ℤ◌, arith, ap, ◌∙◌}
use Rattle.std.proofs.lemmas.Int.{ints}
use Rattle.ba_numbers.specs.Numbers.{converted}
use Rattle.ba_numbers.specs.declared.numbers.CType.TheVariants.{I8}

pub converted-small : (n : ℕ) → n < 128 → converted I8 (pos n) ≡ pos n
unfolding converted
converted-small n small =
    let e : (n + 128) % 256 ≡ n + 128 = omega arith in
    ap (λ m. pos m -ℤ pos 128) e ∙ omega (arith, ints)

pub converted-large : (n : ℕ) → 128 ≤ n → n < 256 → converted I8 (pos n) ≡ pos n -ℤ pos 256
unfolding converted
converted-large n large small =
    let e : (n + 128) % 256 ≡ n - 128 = omega arith in
    ap (λ m. pos m -ℤ pos 128) e ∙ omega (arith, ints)
