-- Values in one byte.

use Rattle.std.specs.Prelude.{◌≡◌, ℕ, ◌<◌, Bool, true, false, Option, None, Some, refl}
use Prim.Native.Nat.{suc, zero}
use native.Mathlib.Nat.{not-suc-le-zero, le_of_suc-le-suc}

-- the value of a byte: false for 0, true for 1, none for any other
abbrev pub lifted : ℕ → Option Bool
lifted zero = Some false
lifted (suc zero) = Some true
lifted (suc (suc n)) = None

-- the byte of a value
abbrev pub code_of : Option Bool → ℕ
code_of None = 2
code_of (Some false) = 0
code_of (Some true) = 1

-- each byte below 3 is the one of its value
pub code_of-lifted : (n : ℕ) → n < 3 → code_of (lifted n) ≡ n
code_of-lifted zero h = refl
code_of-lifted (suc zero) h = refl
code_of-lifted (suc (suc zero)) h = refl
code_of-lifted (suc (suc (suc n))) h =
    absurd (not-suc-le-zero (le_of_suc-le-suc (le_of_suc-le-suc (le_of_suc-le-suc h))))
