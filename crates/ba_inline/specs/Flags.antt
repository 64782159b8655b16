-- Code of flags: it sets new variables to 0 or 1, and changes nothing else.

use Rattle.std.specs.Prelude.{◌≡◌, ℕ, ◌<◌, ◌≤◌, ℤ, pos, Bool, not, ◌&&◌, ◌||◌, List, [], ◌∷◌, ◌++◌, map, length, Ok}
use Rattle.std.specs.List.{list_any}
use Rattle.std.specs.Ordering.{int_eq}
use Rattle.ba_code.specs.Meaning.{Setting, run_nodes}
use Rattle.ba_code.specs.Operators.{plain}
use Rattle.ba_code.specs.State.{CodeEnding, CodeState, operand_value}
use Rattle.ba_code.specs.Types.{Types}
use Rattle.ba_code.specs.declared.nodes.Node.{Node}
use Rattle.ba_code.specs.declared.nodes.Operand.{Operand}
use Rattle.ba_code.specs.declared.nodes.Operand.TheVariants.{Const, Var}
use Rattle.ba_inline.specs.Declarations.{Grows}
use Rattle.ba_numbers.specs.Numbers.{truth}
use Rattle.ba_tree.specs.declared.run.Flow.{Flow}
use Rattle.ba_tree.specs.declared.run.Flow.TheVariants.{Next}

-- a constant, or a variable from one number on and below another
abbrev pub IsBetween : ℕ → ℕ → Operand → Type 0
IsBetween base count (Const z) = Unit {0}
IsBetween base count (Var n) = (base ≤ n) × (n < count)

-- each operand is a constant, or a variable from `base` on, below `count`
abbrev pub AreBetween : ℕ → ℕ → List Operand → Type 0
AreBetween base count [] = Unit {0}
AreBetween base count (o ∷ os) = IsBetween base count o × AreBetween base count os

-- The next node follows. No earlier variable, no array and no choice has changed, and `told` holds of the
-- states before and after.
pub record Computed (told : CodeState → CodeState → Type 0) (low : Types) (t : CodeState)
    (end : CodeEnding (Flow ℕ)) : Type 0 where
  pub behind : CodeState
  pub on : end ≡ (Ok Next, behind)
  pub variables : (n : ℕ) → n < length low.vars → behind.variables n ≡ t.variables n
  pub arrays : behind.arrays ≡ t.arrays
  pub choices : behind.choices ≡ t.choices
  pub tells : told t behind

-- nodes are appended; wherever they run with plain operators, they compute what `told` says
pub record Computes (told : CodeState → CodeState → Type 0) (low high : Types) (old new : List Node) : Type
    0 where
  pub nodes : List Node
  pub is : new ≡ old ++ nodes
  pub grows : Grows low high
  pub runs : (g : Setting) (turns : List ℕ) (t : CodeState) → g.operators ≡ plain
      → Computed told low t (run_nodes g nodes turns t)

-- with a flag as result, which is a constant or a variable from this number on
pub record MakesFrom (told : CodeState → CodeState → Type 0) (base : ℕ) (flag : Operand) (low high : Types)
    (old new : List Node) : Type 0 where
  pub between : IsBetween base (length high.vars) flag
  pub computes : Computes told low high old new

-- a flag for a truth of the state before
abbrev pub MakesFlag : (CodeState → Bool) → ℕ → Operand → Types → Types → List Node → List Node → Type 0
MakesFlag value base flag = MakesFrom (λ t u. operand_value u flag ≡ truth (value t)) base flag

-- flags for several truths of the state before
pub record MakesFlags (values : CodeState → List Bool) (base : ℕ) (flags : List Operand) (low high : Types)
    (old new : List Node) : Type 0 where
  pub between : AreBetween base (length high.vars) flags
  pub computes : Computes (λ t u. map (operand_value u) flags ≡ map truth (values t)) low high old new

-- WHAT FLAGS ARE MADE OF OTHERS

-- the value is not 0
abbrev pub is_set : ℤ → Bool
is_set z = not (int_eq z (pos 0))

-- 0 or 1
abbrev pub IsFlag : ℤ → Type 0
IsFlag z = truth (is_set z) ≡ z

-- each value is 0 or 1
abbrev pub AreFlags : List ℤ → Type 0
AreFlags [] = Unit {0}
AreFlags (z ∷ zs) = IsFlag z × AreFlags zs

-- one of the two
abbrev pub IsEither : ℤ → ℤ → ℤ → Type 0
IsEither y z flag = IsFlag y → IsFlag z → flag ≡ truth (is_set y || is_set z)

-- the first flag; or one of the two, if the condition holds
abbrev pub IsLater : Bool → ℤ → ℤ → ℤ → Type 0
IsLater holds y z flag = IsFlag y → IsFlag z → flag ≡ truth (is_set y || (holds && is_set z))

-- one of these
abbrev pub IsAny : List ℤ → ℤ → Type 0
IsAny zs flag = AreFlags zs → flag ≡ truth (list_any is_set zs)

-- none of these
abbrev pub IsNone : List ℤ → ℤ → Type 0
IsNone zs flag = AreFlags zs → flag ≡ truth (not (list_any is_set zs))
