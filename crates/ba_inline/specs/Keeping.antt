-- The frame property: what code leaves as it was.

use Rattle.std.specs.Prelude.{◌≡◌, ℕ, ◌<◌, Bool, true, false, List, length}
use Rattle.ba_code.specs.State.{CodeState}
use Rattle.ba_code.specs.Types.{Types}
use Rattle.ba_code.specs.declared.nodes.Operand.{Operand}
use Rattle.ba_inline.specs.Names.{Names, Outside, OutsideArrays}

-- a variable that calls leave as it was: no name; without calls, any
abbrev pub Stays : Bool → ℕ → List Operand → Type 0
Stays false n os = Unit {0}
Stays true n os = Outside n os

-- What code leaves as it was that was made after these declarations:
-- - the earlier variables that are no names, or all of them if the code makes no call
-- - the earlier arrays without a location
-- - the length of each array
pub record Keeps (calls : Bool) (names : Names) (low : Types) (t u : CodeState) : Type 0 where
  pub variables : (n : ℕ) → n < length low.vars → Stays calls n names.values → u.variables n ≡ t.variables n
  pub arrays : (n : ℕ) → n < length low.arrays → OutsideArrays n names.arrays → u.arrays n ≡ t.arrays n
  pub lengths : (n : ℕ) → length (u.arrays n) ≡ length (t.arrays n)
