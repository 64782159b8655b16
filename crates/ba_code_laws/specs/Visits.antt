-- Executions of statements that may be relaxed, with their choices.

use Rattle.std.specs.Prelude.{Bool, true, false, ◌&&◌, cond, List, [], ◌∷◌}
use Rattle.ba_choices.specs.declared.Choice.{Choice}
use Rattle.ba_choices.specs.declared.Choice.TheVariants.{Keep, Take}
use Rattle.ba_code_laws.specs.Tracing.{Relaxes, is_relaxed}
use Rattle.ba_tree.specs.declared.run.Place.{Place}

-- an execution of a statement that may be relaxed, and its choice
pub record Visit : Type 0 where
  pub place : Place
  pub choice : Choice

-- the choices at the places that may be relaxed, as a run is given them
unfoldable pub chosen : Relaxes → List Visit → List Choice
chosen relaxes [] = []
chosen relaxes (v ∷ vs) = cond (is_relaxed relaxes v.place) (v.choice ∷ chosen relaxes vs) (chosen relaxes vs)

-- the choice is Keep
abbrev pub is_keep : Choice → Bool
is_keep Keep = true
is_keep (Take values) = false

-- the choice is Keep at each place that may not be relaxed
unfoldable pub are_kept : Relaxes → List Visit → Bool
are_kept relaxes [] = true
are_kept relaxes (v ∷ vs) = cond (is_relaxed relaxes v.place) true (is_keep v.choice) && are_kept relaxes vs
