-- What holds of each program without calls.

use Rattle.std.specs.Prelude.{ℕ, nat_le, nat_lt, Bool, true, false, ◌&&◌, ◌||◌, ◌==◌, List, [], ◌∷◌, length}
use Rattle.std.specs.List.{list_all, list_any}
use Rattle.ba_numbers.specs.Numbers.{is_in}
use Rattle.ba_numbers.specs.declared.numbers.CType.TheVariants.{I32, U32}
use Rattle.ba_code.specs.Meaning.{info_at}
use Rattle.ba_code.specs.declared.nodes.ArrayInfo.{ArrayInfo}
use Rattle.ba_code.specs.declared.nodes.Node.{Node}
use Rattle.ba_code.specs.declared.nodes.Node.TheOpen.{Node-F}
use Rattle.ba_code.specs.declared.nodes.Node.TheFolds.{fold-Node}
use Rattle.ba_code.specs.declared.nodes.Operand.{Operand}
use Rattle.ba_code.specs.declared.nodes.Operand.TheVariants as operand
use Rattle.ba_code.specs.declared.nodes.Param.{Param}
use Rattle.ba_code.specs.declared.nodes.Param.TheVariants as param
use Rattle.ba_code.specs.declared.nodes.Take.{Take}
use Rattle.ba_code.specs.declared.nodes.Take.TheVariants.{Value, Truth, Cell, Cells, Nothing}
use Rattle.ba_code.specs.declared.trees.Code.{Code}
use Rattle.ba_numbers.specs.Types.{is_promoted}
use Rattle.ba_tree.specs.declared.run.Step.{Step}
use Rattle.ba_tree.specs.declared.run.Step.TheVariants.{Call, Turn}

-- the declarations: how many variables there are, and the arrays
pub record Declared : Type 0 where
  pub vars : ℕ
  pub arrays : List ArrayInfo

-- the number is that of a declared variable
abbrev pub is_var : Declared → ℕ → Bool
is_var d n = nat_lt n d.vars

-- the number is that of a declared array
abbrev pub is_array : Declared → ℕ → Bool
is_array d n = nat_lt n (length d.arrays)

-- a constant in the range of I32 or of U32, or a declared variable
abbrev pub is_operand : Declared → Operand → Bool
is_operand d (operand.Const z) = is_in I32 z || is_in U32 z
is_operand d (operand.Var n) = is_var d n

-- a free value goes to a declared variable or array
abbrev pub is_take : Declared → Take → Bool
is_take d (Value to t) = is_var d to
is_take d (Truth to) = is_var d to
is_take d (Cell array) = is_array d array
is_take d (Cells array) = is_array d array
is_take d Nothing = true

-- a node inside blocks of these labels
abbrev pub Inside : Type 0
Inside = List ℕ → Bool

-- nodes fit inside blocks with these labels
abbrev pub are_inside : List ℕ → List Inside → Bool
are_inside labels nodes = list_all (λ node. node labels) nodes

-- a node fits inside blocks with these labels, by its parts
abbrev pub fits_step : Declared → Node-F Inside → Inside
fits_step d (Node-F.Set to from) labels = is_var d to && is_operand d from
fits_step d (Node-F.Unary to op t a) labels = is_var d to && is_promoted t && is_operand d a
fits_step d (Node-F.Binary to op t a b stmt) labels = is_var d to && is_promoted t && is_operand d a &&
    is_operand d b
fits_step d (Node-F.Convert to t a) labels = is_var d to && is_operand d a
fits_step d (Node-F.Load to array index stmt) labels = is_var d to && is_array d array && is_operand d index
fits_step d (Node-F.Save array index value stmt) labels =
    is_array d array && is_operand d index && is_operand d value
fits_step d (Node-F.Fill array values) labels = is_array d array
    && list_all (is_operand d) values.items && (length values.items == (info_at d.arrays array).len)
fits_step d (Node-F.Pick place take keep) labels = is_take d take && are_inside labels keep.items
fits_step d (Node-F.If when if_not_zero if_zero) labels =
    is_operand d when && are_inside labels if_not_zero.items && are_inside labels if_zero.items
fits_step d (Node-F.Block label body) labels = are_inside (label ∷ labels) body.items
fits_step d (Node-F.Leave label) labels = list_any (λ other. other == label) labels
fits_step d (Node-F.Loop after head when body step stmt) labels = is_operand d when
    && are_inside labels head.items && are_inside labels body.items && are_inside labels step.items
fits_step d (Node-F.Assert when stmt) labels = is_operand d when
fits_step d (Node-F.Beyond stmt) labels = true

-- a node fits inside blocks with these labels
unfoldable pub fits_inside : Declared → Node → Inside
fits_inside d = fold-Node Inside (fits_step d)

-- no loop, and iterations are counted from 1

-- an iteration is counted from 1
abbrev pub is_counted : Step → Bool
is_counted (Call c) = true
is_counted (Turn stmt k) = nat_le 1 k

-- a node has no loop, and its places count iterations from 1; by its parts
abbrev pub unrolled_step : Node-F Bool → Bool
unrolled_step (Node-F.Pick place take keep) = list_all is_counted place.path && list_all (λ b. b) keep.items
unrolled_step (Node-F.If when if_not_zero if_zero) =
    list_all (λ b. b) if_not_zero.items && list_all (λ b. b) if_zero.items
unrolled_step (Node-F.Block label body) = list_all (λ b. b) body.items
unrolled_step (Node-F.Loop after head when body step stmt) = false
unrolled_step _ = true

-- a node has no loop, and its places count iterations from 1
unfoldable pub is_unrolled : Node → Bool
is_unrolled = fold-Node Bool unrolled_step

-- WHOLE TREES

-- the parameter is a declared variable or array
abbrev pub is_param : Declared → Param → Bool
is_param d (param.Var n) = is_var d n
is_param d (param.Array n) = is_array d n

-- an array has 1 to 256 elements
abbrev pub is_array_info : ArrayInfo → Bool
is_array_info info = nat_le 1 info.len && nat_le info.len 256

-- the variables and arrays of code
abbrev pub declared_in : Code → Declared
declared_in code = record { vars = code.vars; arrays = code.arrays }

-- the parts of code with loops fit together
unfoldable pub is_loop_tree : Code → Bool
is_loop_tree code = list_all is_array_info code.arrays && list_all (is_param (declared_in code)) code.params
    && list_all (λ node. fits_inside (declared_in code) node []) code.body

-- the parts of code fit together, and it has no loop
unfoldable pub is_bound_tree : Code → Bool
is_bound_tree code = is_loop_tree code && list_all is_unrolled code.body
