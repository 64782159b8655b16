-- Runs of code that differ in what may be relaxed, and in the choices that keep statements as written.

use Rattle.std.specs.Prelude.{◌≡◌, ℕ, true, List, map}
use Rattle.std.specs.List.{list_all}
use Rattle.ba_choices.specs.declared.Choice.{Choice}
use Rattle.ba_code.specs.Facts.{is_unrolled}
use Rattle.ba_code.specs.Run.{outcome_of_code}
use Rattle.ba_code.specs.declared.trees.Code.{Code}
use Rattle.ba_code_laws.specs.Tracing.{Relaxes, places_used}
use Rattle.ba_code_laws.specs.Visits.{Visit, are_kept, chosen}
use Rattle.ba_tree.specs.declared.run.Input.{Input}
use Rattle.ba_tree.specs.declared.run.Place.{Place}

-- the places of executions, in order
abbrev pub places_in : List Visit → List Place
places_in = map (λ (visit : Visit). visit.place)

-- the choices at all places, for a run that may relax everything
abbrev pub choices_in : List Visit → List Choice
choices_in = map (λ (visit : Visit). visit.choice)

-- The places that a run with these choices comes to, in order. The run has the same outcome if other
-- executions may be relaxed, as long as the others' choices are Keep. A choice Keep is left out if its
-- execution may not be relaxed, and put in if it may. In loop-free code the places are those that an
-- instrumented run notes.
pub record HasVisits (code : Code) (i : Input) (bound : ℕ) (relaxes : Relaxes)
    (choices : List Choice) : Type 0 where
  pub visits : List Visit
  pub kept : are_kept relaxes visits ≡ true
  pub given : chosen relaxes visits ≡ choices
  pub same : (other : Relaxes) → are_kept other visits ≡ true
      → outcome_of_code code i bound other (chosen other visits)
      ≡ outcome_of_code code i bound relaxes choices
  pub traced : list_all is_unrolled code.body ≡ true
      → places_used code i (choices_in visits) ≡ places_in visits
