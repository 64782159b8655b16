-- Binding of the variables of a call's frame.

use Rattle.std.specs.Prelude.{◌≡◌, ℕ, ◌<◌, ◌≤◌, ◌⊎◌, pos, false, Some, List, [], ◌∷◌, ◌++◌, map, length, slice_get, slice_index_or, slice_set, Ok}
use Rattle.ba_code.specs.Meaning.{run_nodes}
use Rattle.ba_code.specs.State.{CodeState, operand_value}
use Rattle.ba_code.specs.Types.{Types}
use Rattle.ba_code.specs.declared.nodes.Node.{Node}
use Rattle.ba_code.specs.declared.nodes.Operand.TheVariants.{Var}
use Rattle.ba_inline.specs.Declarations.{BeginsWith, Grows}
use Rattle.ba_inline.specs.Ends.{Meets}
use Rattle.ba_inline.specs.Keeping.{Keeps}
use Rattle.ba_inline.specs.Names.{IsScope, Names, Outside, OutsideArrays, seen}
use Rattle.ba_inline.specs.Worlds.{IsReady, World, code_setting}
use Rattle.ba_numbers.specs.declared.ids.VarId.{VarId}
use Rattle.ba_tree.specs.State.{State}
use Rattle.ba_tree.specs.declared.run.Flow.{Flow}
use Rattle.ba_tree.specs.declared.run.Flow.TheVariants.{Next}
use Rattle.ba_tree.specs.declared.tree.Program.{Program}

-- a list, with the entries of another list at these variables
abbrev pub restored : {A : Type 0} → A → List VarId → List A → List A → List A
restored d [] before now = now
restored d (v ∷ vs) before now = restored d vs before (slice_set now v.0 (slice_index_or before v.0 d))

-- the program's state as seen through the frame's names, after code that changed no earlier variable
pub record Enters (names inner : Names) (low : Types) (t : CodeState) (z : Unit {0}) (s : State) (way :
    Flow ℕ)
    (u : CodeState) : Type 0 where
  pub on : way ≡ Next
  pub sees : s ≡ seen inner u
  pub keeps : Keeps false names low t u

-- These variables of the frame are bound, in this order. The program's state is given by the code's state
-- before, and the names after.
pub record Binds (p : Program) (names : Names) (own : List VarId) (begun : CodeState → State) (inner : Names)
    (low high : Types) (old new : List Node) : Type 0 where
  pub nodes : List Node
  pub is : new ≡ old ++ nodes
  pub grows : Grows low high
  pub scope : IsScope p inner high
  -- a name is as before, or new
  pub origin : (v n : ℕ) → slice_get inner.values v ≡ Some (Var n)
      → (slice_get names.values v ≡ Some (Var n)) ⊎ (length low.vars ≤ n)
  pub behind : BeginsWith names.arrays inner.arrays
  pub arrays_new : (n : ℕ) → n < length low.arrays → OutsideArrays n names.arrays →
      OutsideArrays n inner.arrays
  -- the earlier entries of the variables come back, if code changes no earlier variable but names of this
  -- frame
  pub hides : (t u : CodeState)
      → ((n : ℕ) → n < length low.vars → Outside n inner.values → u.variables n ≡ t.variables n)
      → restored (pos 0) own (map (operand_value t) names.values) (map (operand_value u) inner.values)
      ≡ map (operand_value u) names.values
  pub hides_locations : restored 0 own names.locations inner.locations ≡ names.locations
  pub runs : (w : World) (turns : List ℕ) (t : CodeState) → IsReady w high t
      → Meets (Enters names inner low t) (Ok tt, begun t) (run_nodes (code_setting p w) nodes turns t)
