-- How the end of a part of a program relates to the end of its code.

use Rattle.std.specs.Prelude.{◌≡◌, Ok, Err}
use Rattle.ba_code.specs.State.{CodeState, CodeEnding}
use Rattle.ba_tree.specs.State.{State, Ending}

-- Both end with values that are related by this; or both end the run in the same way, with the same choices
-- left.
abbrev pub Meets : {A B : Type 0} → (A → State → B → CodeState → Type 0) → Ending A → CodeEnding B → Type 0
Meets good (Ok a, s) (Ok b, t) = good a s b t
Meets good (Err h, s) (Err k, t) = (h ≡ k) × (s.choices ≡ t.choices)
Meets good (Ok a, s) (Err k, t) = ⊥
Meets good (Err h, s) (Ok b, t) = ⊥
