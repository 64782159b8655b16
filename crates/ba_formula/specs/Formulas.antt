-- The formula of a program on an input.

use Rattle.std.specs.Prelude.{◌≡◌, ◌≢◌, true, [], map}
use Rattle.ba_derivations.specs.Encodings.{IsFaithful, false_groups}
use Rattle.ba_encode.specs.Readings.{choices_read}
use Rattle.ba_encode.specs.Softs.{softs_of}
use Rattle.ba_encode.specs.declared.encoded.Encoded.{Encoded}
use Rattle.ba_encode.specs.declared.encoded.Group.{Group}
use Rattle.ba_lits.specs.Satisfaction.{Assignment, all_true}
use Rattle.ba_tree.specs.Least.{WeightList, judge_of, stmt_of}
use Rattle.ba_tree.specs.Run.{plain_run}
use Rattle.ba_tree.specs.declared.run.Bounds.{Bounds}
use Rattle.ba_tree.specs.declared.run.Input.{Input}
use Rattle.ba_tree.specs.declared.run.Outcome.TheVariants.{Done}
use Rattle.ba_tree.specs.declared.tree.Program.{Program}

-- The formula encodes the runs of the program faithfully, and each of its models spells the choices of a run
-- that is good where the statements are relaxed whose selectors are false. Where the run as written isn't
-- good there are some. Each group belongs to the statement of its number.
pub record IsFormulaOf (p : Program) (input : Input) (bounds : Bounds) (weights : WeightList)
    (encoded : Encoded) :
    Type 0 where
  pub faithful : IsFaithful encoded.formula (softs_of encoded.groups) weights (judge_of p input bounds)
  pub runs : (v : Assignment) → all_true v encoded.formula.clauses ≡ true
      → judge_of p input bounds (false_groups v (softs_of encoded.groups)) (choices_read v encoded.places)
      ≡ true
  pub some : plain_run p input bounds ≢ Done → (v : Assignment) → all_true v encoded.formula.clauses ≡ true
      → false_groups v (softs_of encoded.groups) ≢ []
  pub statements : map (λ (g : Group). g.statement) encoded.groups
      ≡ map (λ (g : Group). stmt_of g.number) encoded.groups
