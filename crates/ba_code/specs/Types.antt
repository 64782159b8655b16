-- Code in which each variable and each array keeps to one type. Then operators find their operands in the
-- range of their types.

use Rattle.std.specs.Prelude.{◌≡◌, ℕ, Bool, true, ◌&&◌, ◌||◌, Some, List, slice_get}
use Rattle.std.specs.List.{list_all}
use Rattle.std.specs.Option.{is_some}
use Rattle.ba_numbers.specs.Numbers.{is_in, least_of, greatest_of}
use Rattle.ba_numbers.specs.declared.numbers.CType.{CType}
use Rattle.ba_code.specs.Meaning.{info_at}
use Rattle.ba_code.specs.State.{CodeState}
use Rattle.ba_code.specs.declared.nodes.ArrayInfo.{ArrayInfo}
use Rattle.ba_code.specs.declared.nodes.Node.{Node}
use Rattle.ba_code.specs.declared.nodes.Node.TheOpen.{Node-F}
use Rattle.ba_code.specs.declared.nodes.Node.TheFolds.{fold-Node}
use Rattle.ba_code.specs.declared.nodes.Operand.{Operand}
use Rattle.ba_code.specs.declared.nodes.Operand.TheVariants.{Const, Var}
use Rattle.ba_code.specs.declared.nodes.Take.{Take}
use Rattle.ba_code.specs.declared.nodes.Take.TheVariants as take
use Rattle.ba_tree.specs.Facts.{holds}
use Rattle.ba_numbers.specs.Types.{shifts, type_of_binary, type_of_unary}

-- the types of the variables, and the arrays with their types
pub record Types : Type 0 where
  pub vars : List CType
  pub arrays : List ArrayInfo

-- the numbers of the first type are numbers of the second
abbrev pub is_within : CType → CType → Bool
is_within a b = is_in b (least_of a) && is_in b (greatest_of a)

-- the variable can hold each number of the type
abbrev pub can_hold : Types → ℕ → CType → Bool
can_hold types n t = holds (is_within t) (slice_get types.vars n)

-- the operand is a number of the type
abbrev pub has_type : Types → CType → Operand → Bool
has_type types t (Const z) = is_in t z
has_type types t (Var n) = holds (λ own. is_within own t) (slice_get types.vars n)

-- the type of an array's elements
abbrev pub element_type : Types → ℕ → CType
element_type types n = (info_at types.arrays n).t

-- a free value has the type of what it goes to
abbrev pub takes_type : Types → Take → Bool
takes_type types (take.Value to t) = can_hold types to t
takes_type types (take.Truth to) = is_some (slice_get types.vars to)
takes_type types (take.Cell array) = true
takes_type types (take.Cells array) = true
takes_type types take.Nothing = true

-- all parts keep to the types
abbrev pub all_typed : List Bool → Bool
all_typed = list_all (λ b. b)

-- a node keeps each variable and array to its type, by its parts
abbrev pub typed_step : Types → Node-F Bool → Bool
typed_step types (Node-F.Set to from) = holds (λ t. has_type types t from) (slice_get types.vars to)
typed_step types (Node-F.Unary to op t a) = has_type types t a && can_hold types to (type_of_unary op t)
typed_step types (Node-F.Binary to op t a b stmt) =
    has_type types t a && (shifts op || has_type types t b) && can_hold types to (type_of_binary op t)
typed_step types (Node-F.Convert to t a) = can_hold types to t
typed_step types (Node-F.Load to array index stmt) = can_hold types to (element_type types array)
typed_step types (Node-F.Save array index value stmt) = has_type types (element_type types array) value
typed_step types (Node-F.Fill array values) = list_all (has_type types (element_type types array))
    values.items
typed_step types (Node-F.Pick place take keep) = takes_type types take && all_typed keep.items
typed_step types (Node-F.If when if_not_zero if_zero) = all_typed if_not_zero.items && all_typed if_zero.items
typed_step types (Node-F.Block label body) = all_typed body.items
typed_step types (Node-F.Leave label) = true
typed_step types (Node-F.Loop after head when body step stmt) =
    all_typed head.items && all_typed body.items && all_typed step.items
typed_step types (Node-F.Assert when stmt) = true
typed_step types (Node-F.Beyond stmt) = true

-- a node keeps each variable and array to its type
unfoldable pub is_typed : Types → Node → Bool
is_typed types = fold-Node Bool (typed_step types)

-- each variable and each array holds numbers of its type
pub record KeepsTypes (types : Types) (s : CodeState) : Type 0 where
  pub variables : (n : ℕ) (t : CType) → slice_get types.vars n ≡ Some t → is_in t (s.variables n) ≡ true
  pub arrays : (n : ℕ) → list_all (is_in (element_type types n)) (s.arrays n) ≡ true
