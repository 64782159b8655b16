-- The formula of a program on several inputs.

use Rattle.std.specs.Prelude.{◌≡◌, ◌≢◌, true, List, [], map, Contains}
use Rattle.ba_all.specs.AllRuns.{judge_of_all}
use Rattle.ba_derivations.specs.Encodings.{IsFaithful, false_groups}
use Rattle.ba_encode.specs.Readings.{choices_read}
use Rattle.ba_encode.specs.Softs.{softs_of}
use Rattle.ba_encode.specs.declared.encoded.Encoded.{Encoded}
use Rattle.ba_encode.specs.declared.encoded.Group.{Group}
use Rattle.ba_lits.specs.Satisfaction.{Assignment, all_true}
use Rattle.ba_tree.specs.Least.{WeightList, stmt_of}
use Rattle.ba_tree.specs.Run.{plain_run}
use Rattle.ba_tree.specs.declared.run.Bounds.{Bounds}
use Rattle.ba_tree.specs.declared.run.Input.{Input}
use Rattle.ba_tree.specs.declared.run.Outcome.TheVariants.{Done}
use Rattle.ba_tree.specs.declared.tree.Program.{Program}

-- The formula encodes faithfully which runs on all inputs are good. Each of its models spells the choices of
-- such runs, one run's behind the other's, for the statements whose selectors are false. Where the run as
-- written isn't good on some input, each model makes some selector false. Each group belongs to the statement
-- of its number.
pub record IsFormulaOfAll (p : Program) (inputs : List Input) (bounds : Bounds) (weights : WeightList)
    (encoded : Encoded) :
    Type 0 where
  pub faithful : IsFaithful encoded.formula (softs_of encoded.groups) weights (judge_of_all p inputs bounds)
  pub runs : (v : Assignment) → all_true v encoded.formula.clauses ≡ true
      → judge_of_all p inputs bounds (false_groups v (softs_of encoded.groups)) (choices_read v
      encoded.places)
      ≡ true
  pub some : (input : Input) → Contains inputs input → plain_run p input bounds ≢ Done → (v : Assignment)
      → all_true v encoded.formula.clauses ≡ true → false_groups v (softs_of encoded.groups) ≢ []
  pub statements : map (λ (g : Group). g.statement) encoded.groups
      ≡ map (λ (g : Group). stmt_of g.number) encoded.groups
