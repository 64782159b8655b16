-- The values of constants and of opposite bits, in the form in which goals have them.

use Rattle.std.proofs.Common.{◌≡◌, Bool, true, false, not, ◌&&◌, List, refl, arith}
use Rattle.ba_nodes.specs.declared.Node.{Node}
use Rattle.ba_nodes.specs.Gates.{bool_xor, HasValue}
use Rattle.ba_nodes.proofs.Truths.{truth-constant, truth-opposite}

pub HasValue-constant : (nodes : List Node) (value : Bool) → HasValue nodes record { index = 0; negated = value } (λ free. value)
HasValue-constant nodes value = record { is_bit = omega arith; holds = λ free. truth-constant free nodes value }

pub ruleset constants = (HasValue-constant)

pub ruleset opposites = (truth-opposite)

-- `xor` as it is made of `and`
pub xor_from_and : (x y : Bool) → bool_xor x y ≡ (not (x && y) && not (not x && not y))
xor_from_and true true = refl
xor_from_and true false = refl
xor_from_and false true = refl
xor_from_and false false = refl
