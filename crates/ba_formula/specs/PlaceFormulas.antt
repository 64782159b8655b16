-- The formula of a program on an input, where single executions are relaxed.

use Rattle.std.specs.Prelude.{◌≡◌, ◌≢◌, true, []}
use Rattle.ba_derivations.specs.Encodings.{IsFaithful, false_groups}
use Rattle.ba_encode.specs.Readings.{choices_read}
use Rattle.ba_encode.specs.Softs.{softs_of}
use Rattle.ba_formula.specs.declared.by_place.PlaceFormula.{PlaceFormula}
use Rattle.ba_lits.specs.Satisfaction.{Assignment, all_true}
use Rattle.ba_places.specs.Least.{place_judge_of}
use Rattle.ba_places.specs.Numbers.{AreSuspects, judge_by, unit_weights_of}
use Rattle.ba_tree.specs.Least.{WeightList}
use Rattle.ba_tree.specs.Run.{plain_run}
use Rattle.ba_tree.specs.declared.run.Bounds.{Bounds}
use Rattle.ba_tree.specs.declared.run.Input.{Input}
use Rattle.ba_tree.specs.declared.run.Outcome.TheVariants.{Done}
use Rattle.ba_tree.specs.declared.tree.Program.{Program}

-- The places are enough. The formula encodes faithfully which runs are good where the places of some numbers
-- are relaxed. Each of its models spells the choices of such a run, for the places whose selectors are false.
-- Where the run as written isn't good, each model makes some selector false.
pub record IsPlaceFormulaOf (p : Program) (input : Input) (bounds : Bounds) (weights : WeightList)
    (made : PlaceFormula) :
    Type 0 where
  pub suspects : AreSuspects weights (place_judge_of p input bounds) made.places
  pub faithful : IsFaithful made.encoded.formula (softs_of made.encoded.groups) (unit_weights_of made.places)
      (judge_by (place_judge_of p input bounds) made.places)
  pub runs : (v : Assignment) → all_true v made.encoded.formula.clauses ≡ true
      → judge_by (place_judge_of p input bounds) made.places (false_groups v (softs_of made.encoded.groups))
      (choices_read v made.encoded.places) ≡ true
  pub some : plain_run p input bounds ≢ Done → (v : Assignment)
      → all_true v made.encoded.formula.clauses ≡ true
      → false_groups v (softs_of made.encoded.groups) ≢ []
