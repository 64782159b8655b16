-- Parameters and arguments, of which the shorter list decides.
use Rattle.std.proofs.Common.{◌≡◌, List, [], ◌∷◌, length, refl, arith}
use Rattle.ba_numbers.specs.declared.ids.VarId.{VarId}
use Rattle.ba_tree.specs.Run.{bind_all}
use Rattle.ba_tree.specs.State.{State}
use Rattle.ba_tree.specs.declared.run.Argument.{Argument}

pub no_more_params : (vs : List VarId) (args : List Argument) (s : State) → length vs ≡ 0
    → bind_all vs args s ≡ s
no_more_params [] args s none = refl
no_more_params (v ∷ vs) args s none = absurd (omega arith)

pub no_more_arguments : (vs : List VarId) (args : List Argument) (s : State) → length args ≡ 0
    → bind_all vs args s ≡ s
no_more_arguments [] args s none = refl
no_more_arguments (v ∷ vs) [] s none = refl
no_more_arguments (v ∷ vs) (arg ∷ args) s none = absurd (omega arith)
