-- That the fresh variables of a core have room.

use Rattle.std.proofs.Common.{◌≡◌, ℕ, ◌+◌, ◌-◌, ◌*◌, ◌/◌, ◌^◌, ◌<◌, ◌≤◌, Fits, w64, arith}
use Rattle.ba_checker.specs.Splits.{fresh_count}

pub fresh_few : (variables count fresh : ℕ) → count ≤ (2 ^ 62 - 1 - variables) / 4 →
    fresh ≡ fresh_count count → variables < 2 ^ 62 → variables + fresh < 2 ^ 62
fresh_few variables count fresh room is few = omega arith

pub fits_sum : (variables fresh : ℕ) → variables + fresh < 2 ^ 62 → Fits w64 (variables + fresh)
fits_sum variables fresh few = omega arith

pub fits_double : (variables fresh : ℕ) → variables + fresh < 2 ^ 62 → Fits w64 (2 * (variables + fresh))
fits_double variables fresh few = omega arith

pub fits_more : (variables fresh : ℕ) → variables + fresh < 2 ^ 62 → Fits w64 (2 * (variables + fresh) + 2)
fits_more variables fresh few = omega arith

-- and so has each variable of the late soft literals
pub fits_late : (variables count later : ℕ) → count ≤ (2 ^ 62 - 1 - variables) / 4 → later ≡ count - 2 →
    variables < 2 ^ 62 → Fits w64 (variables + 1 + later)
fits_late variables count later room is few = omega arith

pub late_few : (variables count later : ℕ) → count ≤ (2 ^ 62 - 1 - variables) / 4 → later ≡ count - 2 →
    variables < 2 ^ 62 → 0 < count → variables + 1 + later + count < 2 ^ 62
late_few variables count later room is few some = omega arith
