-- That what a part of a number is made of is read back at 128 bits.

use Rattle.std.proofs.Common.{◌≡◌, ℕ, ◌*◌, ◌^◌, ◌<◌, ◌≤◌, ℤ, pos, neg_ℤ, ◌+ℤ◌, ◌-ℤ◌, ◌*ℤ◌, ◌≤ℤ◌, ◌<ℤ◌, unsigned_abs, Fits, FitsSigned, to_z, of_z, w32, w64, ap, arith}
use Rattle.std.proofs.lemmas.Int.{ints, to_z-of_z}
use Rattle.std.specs.Int.{w128, int_rem_euclid}
use Rattle.ba_numbers.specs.Numbers.{centred}
use Rattle.ba_numbers.proofs.Conversions.{centred_low, centred_high}

half_read : (half : ℕ) (h : ℤ) → Fits w32 half → h ≡ pos half → to_z w128 (of_z w128 h) ≡ pos half
half_read half h fits is = omega (arith, ints)

double_read : (half : ℕ) → Fits w32 half → to_z w128 (of_z w128 (pos 2 *ℤ pos half)) ≡ pos (2 * half)
double_read half fits = omega (arith, ints)

sum_read : (half : ℕ) (value : ℤ) → Fits w32 half → unsigned_abs value ≤ 2 ^ 126 →
    to_z w128 (of_z w128 (value +ℤ pos half)) ≡ value +ℤ pos half
sum_read half value fits small = omega (arith, ints)

-- the remainder that is read
rem_read : (half : ℕ) (value h r : ℤ) → Fits w32 half → unsigned_abs value ≤ 2 ^ 126 → FitsSigned w128 value
    → h ≡ pos half
    → r ≡ int_rem_euclid (to_z w128 (of_z w128 (to_z w128 (of_z w128 value) +ℤ to_z w128 (of_z w128 h))))
    (to_z w128 (of_z w128 (pos 2 *ℤ to_z w128 (of_z w128 h))))
    → r ≡ int_rem_euclid (value +ℤ pos half) (pos (2 * half))
rem_read half value h r fits small wide h_is r_is =
    rw (
      half_read half h fits h_is,
      to_z-of_z w128 value wide,
      sum_read half value fits small,
      double_read half fits,
    ) at r_is

-- and what is left of it
difference_read : (half : ℕ) (h r z : ℤ) → Fits w32 half → h ≡ pos half → r -ℤ pos half ≡ z →
    neg_ℤ (pos half) ≤ℤ z → z <ℤ pos half →
    to_z w128 (of_z w128 (to_z w128 (of_z w128 r) -ℤ to_z w128 (of_z w128 h))) ≡ z
difference_read half h r z fits h_is r_is low high =
    rw (half_read half h fits h_is, to_z-of_z w128 r (omega (arith, ints)), r_is)
    (to_z-of_z w128 z (omega (arith, ints)))

part_fits : (half : ℕ) (z : ℤ) → Fits w32 half → neg_ℤ (pos half) ≤ℤ z → z <ℤ pos half → FitsSigned w64 z
part_fits half z fits low high = omega (arith, ints)

-- the part of a value, as the code reads it
pub part_read : (half : ℕ) (value h r : ℤ) → 0 < half → Fits w32 half → unsigned_abs value ≤ 2 ^ 126
    → FitsSigned w128 value → h ≡ pos half
    → r ≡ int_rem_euclid (to_z w128 (of_z w128 (to_z w128 (of_z w128 value) +ℤ to_z w128 (of_z w128 h))))
    (to_z w128 (of_z w128 (pos 2 *ℤ to_z w128 (of_z w128 h))))
    → to_z w128 (of_z w128 (to_z w128 (of_z w128 r) -ℤ to_z w128 (of_z w128 h))) ≡ centred half value
part_read half value h r positive fits small wide h_is r_is =
    difference_read half h r (centred half value) fits h_is
    (ap (λ x. x -ℤ pos half) (rem_read half value h r fits small wide h_is r_is)) (centred_low half value)
    (centred_high half value positive)

pub centred_fits : (half : ℕ) (value : ℤ) → 0 < half → Fits w32 half → FitsSigned w64 (centred half value)
centred_fits half value positive fits = part_fits half (centred half value) fits (centred_low half value)
    (centred_high half value positive)

pub below_half : (half : ℕ) (value : ℤ) → 0 < half → centred half value ≤ℤ (pos half -ℤ pos 1)
below_half half value positive = step (centred half value) (centred_high half value positive)
  where
    step : (z : ℤ) → z <ℤ pos half → z ≤ℤ (pos half -ℤ pos 1)
    step z high = omega (arith, ints)
