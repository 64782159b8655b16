-- Luby's sequence 1, 1, 2, 1, 1, 2, 4, .., counted from 1 (Luby, Sinclair and Zuckerman, "Optimal speedup
-- of Las Vegas algorithms").

use Rattle.std.specs.Prelude.{◌≡◌, ℕ, ◌+◌, ◌-◌, ◌^◌, ◌<◌, ◌≤◌}

-- The term at one less than a power of 2 is half that power. Between these numbers the sequence begins again.
pub data IsLubyTerm : ℕ → ℕ → Type 0 where
  ends : (k number term : ℕ) → number + 1 ≡ 2 ^ (k + 1) → term ≡ 2 ^ k → IsLubyTerm number term
  begins_again : (k number term : ℕ) → 2 ^ k ≤ number → number + 1 < 2 ^ (k + 1) →
      IsLubyTerm (number - 2 ^ k + 1) term → IsLubyTerm number term
