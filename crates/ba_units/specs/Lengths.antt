-- The arrays that the variables of a frame name.

use Rattle.std.specs.Prelude.{ℕ, ◌==◌, cond, Option, Some, List, [], ◌∷◌, map}
use Rattle.ba_numbers.specs.declared.ids.VarId.{VarId}
use Rattle.ba_tree.specs.Units.{Lengths, bound_lengths, declared_lengths, length_at}
use Rattle.ba_tree.specs.declared.tree.Arg.TheOpen.{Arg-F, Expr-F}
use Rattle.ba_tree.specs.declared.tree.Arg.TheFolds.{fold-Arg}
use Rattle.ba_tree.specs.declared.tree.Arg.{Arg}
use Rattle.ba_tree.specs.declared.tree.Program.{Program}
use Rattle.ba_units.specs.declared.frame.Frame.{Frame}
use Rattle.ba_units.specs.declared.frame.Frame.TheOpen.{Frame-F}
use Rattle.ba_units.specs.declared.frame.Frame.TheFolds.{fold-Frame}

-- how many elements the array has that an argument passes; a value has none
abbrev pub elements_step : Arg-F (Lengths → ℕ) ℕ → Lengths → ℕ
elements_step (Arg-F.Value value) lengths = 0
elements_step (Arg-F.Array array) lengths = length_at lengths array

-- an expression passes no array
abbrev pub no_elements : Expr-F (Lengths → ℕ) ℕ → ℕ
no_elements e = 0

-- the length of the array that an argument passes, 0 if it is a value
unfoldable pub elements_of : Lengths → Arg → ℕ
elements_of lengths arg = fold-Arg (Lengths → ℕ) ℕ elements_step no_elements arg lengths

-- the lengths of the arrays that the variables of a frame name
abbrev pub lengths_step : Program → Frame-F Lengths → Lengths
lengths_step p Frame-F.Main = declared_lengths p
lengths_step p (Frame-F.Called params args caller) =
    bound_lengths params.now (map (elements_of caller.now) args.now) (declared_lengths p)

-- the lengths of the arrays that variables name in a frame
unfoldable pub lengths_of : Program → Frame → Lengths
lengths_of p = fold-Frame Lengths (lengths_step p)

-- the argument for a variable among these parameters, the last one if the variable occurs more than once;
-- else the one found before
abbrev pub argument_at : List VarId → List Arg → VarId → Option Arg → Option Arg
argument_at [] args v found = found
argument_at (p ∷ ps) [] v found = found
argument_at (p ∷ ps) (arg ∷ args) v found = argument_at ps args v (cond (p.0 == v.0) (Some arg) found)
