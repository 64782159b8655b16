-- Variables of the code that are set back to 0.

use Rattle.std.specs.Prelude.{◌≡◌, ℕ, ◌≤◌, ℤ, pos, List, [], ◌∷◌, Ok}
use Rattle.ba_code.specs.Meaning.{InTurns, Setting}
use Rattle.ba_code.specs.State.{CodeState, with_at}
use Rattle.ba_code.specs.declared.nodes.Node.{Node}
use Rattle.ba_inline.specs.Making.{Adds}
use Rattle.ba_tree.specs.declared.run.Flow.TheVariants.{Next}

-- variables, of which those with these numbers are 0
abbrev pub zeroed : List ℕ → (ℕ → ℤ) → ℕ → ℤ
zeroed [] f = f
zeroed (n ∷ ns) f = with_at (zeroed ns f) n (pos 0)

-- the state with 0 in these variables
abbrev pub wiped : List ℕ → CodeState → CodeState
wiped ns t = record t { variables = zeroed ns t.variables }

-- what setting these variables to 0 does
abbrev pub wipe_act : List ℕ → Setting → InTurns
wipe_act ns g turns t = (Ok Next, wiped ns t)

-- a variable that may be wiped: its number is at least `from`, and it isn't the one that is kept
abbrev pub MayGo : ℕ → ℕ → ℕ → Type 0
MayGo from kept n = (from ≤ n) × (n ≡ kept → ⊥)

-- each of these variables may be set back to 0
abbrev pub AllMayGo : ℕ → ℕ → List ℕ → Type 0
AllMayGo from kept [] = Unit {0}
AllMayGo from kept (n ∷ ns) = MayGo from kept n × AllMayGo from kept ns

-- nodes are appended that set such variables to 0
pub record Wipes (from kept : ℕ) (old new : List Node) : Type 0 where
  pub numbers : List ℕ
  pub may_go : AllMayGo from kept numbers
  pub adds : Adds old new (wipe_act numbers)
