-- That a product of two numbers of 64 bits has room in 128 bits.

use Rattle.std.proofs.Common.{◌≡◌, ℕ, ◌*◌, ◌^◌, ◌≤◌, ℤ, ◌*ℤ◌, unsigned_abs, int_div, pos, negsuc, FitsSigned, to_z, of_z, w64, arith, mul-le-mul}
use Rattle.std.proofs.lemmas.Int.{ints, to_z-of_z, unsigned_abs-mul, fits_signed_mul}
use Rattle.std.specs.Int.{w128}

-- a number of 64 bits that is read at 128 bits
pub widened : (z x : ℤ) → FitsSigned w64 z → x ≡ to_z w64 (of_z w64 z) → to_z w128 (of_z w128 x) ≡ z
widened z x fits e = omega (arith, ints)

small : (z : ℤ) → FitsSigned w64 z → unsigned_abs z ≤ 2 ^ 63
small z fits = omega (arith, ints)

pub product_fits : (a b : ℤ) → FitsSigned w64 a → FitsSigned w64 b → FitsSigned w128 (a *ℤ b)
product_fits a b a_fits b_fits =
    fits_signed_mul w128 a b (2 ^ 63) (2 ^ 63) (small a a_fits) (small b b_fits) (omega arith)

pub product_small : (a b : ℤ) → FitsSigned w64 a → FitsSigned w64 b → unsigned_abs (a *ℤ b) ≤ 2 ^ 126
product_small a b a_fits b_fits = rw unsigned_abs-mul (bounded _ _ (small a a_fits) (small b b_fits))
  where
    bounded : (x y : ℕ) → x ≤ 2 ^ 63 → y ≤ 2 ^ 63 → x * y ≤ 2 ^ 126
    bounded x y x_le y_le = mul-le-mul x_le y_le

quotient_small : (a b : ℤ) → FitsSigned w64 a → unsigned_abs (int_div a b) ≤ 2 ^ 63
quotient_small (pos a) (pos b) fits = omega (arith, ints)
quotient_small (pos a) (negsuc b) fits = omega (arith, ints)
quotient_small (negsuc a) (pos b) fits = omega (arith, ints)
quotient_small (negsuc a) (negsuc b) fits = omega (arith, ints)

bounded_fits : (z : ℤ) → unsigned_abs z ≤ 2 ^ 63 → FitsSigned w128 z
bounded_fits z small = omega (arith, ints)

-- a quotient that is read at 128 bits
pub quotient_read : (a b : ℤ) → FitsSigned w64 a → unsigned_abs (to_z w128 (of_z w128 (int_div a b))) ≤ 2 ^
    126
quotient_read a b fits = rw (to_z-of_z w128 (int_div a b) (bounded_fits (int_div a b)
    (quotient_small a b fits)))
    (omega (arith, quotient_small a b fits))
