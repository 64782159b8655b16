-- Programs with the same tree come to the same: their inputs, weights and runs, and the answer before any
-- search.

use Rattle.std.proofs.Common.{◌≡◌, ℕ, ℤ, ◌-◌, ◌==◌, nat_lt, cond, if◌then◌else◌, Option, None, Some, option_map, List, [], ◌∷◌, map, slice_get, refl, ap, ◌∙◌}
use Rattle.ba_bytes.specs.Lines.{lines_of}
use Rattle.ba_inputs.specs.Weights.{said_of, statement_weight, weights_in}
use Rattle.ba_numbers.specs.declared.ids.At.{At}
use Rattle.ba_numbers.specs.declared.ids.StmtId.{StmtId}
use Rattle.ba_tree.specs.Choices.{info_of}
use Rattle.ba_tree.specs.Inputs.{InputFault}
use Rattle.ba_tree.specs.Least.{judge_of}
use Rattle.ba_tree.specs.Run.{plain_run}
use Rattle.ba_tree.specs.declared.run.Allowed.TheVariants.{Statements}
use Rattle.ba_tree.specs.declared.run.Bounds.{Bounds}
use Rattle.ba_tree.specs.declared.run.Input.{Input}
use Rattle.ba_tree.specs.declared.run.Outcome.{Outcome}
use Rattle.ba_tree.specs.declared.run.Outcome.TheVariants as outcome
use Rattle.ba_tree.specs.declared.tree.Program.{Program}
use Rattle.ba_tree.specs.declared.tree.StmtInfo.{StmtInfo}
use Rattle.ba_tree_laws.specs.Equivalent.{AreEquivalent}
use Rattle.ba_answers.specs.declared.answers.Answer.{Answer}
use Rattle.ba_answers.specs.declared.answers.Answer.TheVariants as answer
use Rattle.ba_answers.specs.declared.file.File.{File}
use Rattle.ba_answers.specs.declared.file.File.TheVariants as file
use Rattle.ba_cases.specs.AtOnce.{at_once, case_answer, fault_of, first_answer, input_of, input_refusal, position_of, run_in, size_refusal, unfailing, unit_limit, weights_refusal}
use Rattle.ba_cases.specs.declared.texts.Texts.{Texts}

module _ (p q : Program) (equal : AreEquivalent p q) where
  pub inputs_alike : (text : List ℕ) → input_of p text ≡ input_of q text
  inputs_alike text = ap (λ (values : List (List ℤ)). record { values = values }) (equal.input_numbers text)

  pub weights_alike : (text : List ℕ) → weights_in p text ≡ weights_in q text
  weights_alike text = ap (map (λ (info : StmtInfo).
      statement_weight info.kind (said_of (lines_of text) info.at.line))) equal.statements

  pub judges_alike : (text : List ℕ) (bounds : Bounds) →
      judge_of p (input_of p text) bounds ≡ judge_of q (input_of q text) bounds
  judges_alike text bounds = equal.judges (input_of p text) bounds
      ∙ ap (λ (i : Input). judge_of q i bounds) (inputs_alike text)

  pub runs_alike : (text : List ℕ) (bounds : Bounds) →
      plain_run p (input_of p text) bounds ≡ plain_run q (input_of q text) bounds
  runs_alike text bounds = equal.runs (input_of p text) bounds (Statements []) []
      ∙ ap (λ (i : Input). plain_run q i bounds) (inputs_alike text)

  pub infos_alike : (stmt : StmtId) → info_of p stmt ≡ info_of q stmt
  infos_alike stmt =
      ap (λ (infos : List StmtInfo). cond (stmt.0 == 0) None (slice_get infos (stmt.0 - 1))) equal.statements

  pub positions_alike : (stmt : StmtId) → position_of p stmt ≡ position_of q stmt
  positions_alike stmt = ap (option_map (λ (info : StmtInfo). info.at)) (infos_alike stmt)

  pub ends_alike : (line : Option ℕ) (end : Outcome) → unfailing p line end ≡ unfailing q line end
  ends_alike line outcome.Done = refl
  ends_alike line (outcome.Beyond stmt) =
      ap (option_map (λ (at : At). answer.BeyondBound at line)) (positions_alike stmt)
  ends_alike line (outcome.AssertFails stmt) = refl
  ends_alike line (outcome.Trap stmt) = refl
  ends_alike line outcome.WrongChoices = refl

  pub refusals_alike : (which : File) (text : List ℕ) → input_refusal which p text ≡ input_refusal which q
      text
  refusals_alike which text = ap (option_map (λ (f : InputFault). answer.BadInput which (fault_of f) None))
      (equal.input_faults text)

  sizes_alike : (bounds : Bounds) → size_refusal p bounds ≡ size_refusal q bounds
  sizes_alike bounds =
      ap (λ n. if nat_lt unit_limit n then Some answer.TooLarge else None) (equal.units bounds)

  -- the answer before any search, if those of the inputs and of the runs are the same
  pub at_once_alike : (inputs others : Option Answer) (weights : List ℕ) (bounds : Bounds)
      (runs ends : Option Answer) → inputs ≡ others → runs ≡ ends →
      at_once inputs weights bounds runs p ≡ at_once others weights bounds ends q
  at_once_alike inputs others weights bounds runs ends of_inputs of_runs =
      ap (λ a. first_answer (a ∷ weights_refusal weights ∷ size_refusal p bounds ∷ runs ∷ [])) of_inputs
      ∙ ap (λ a. first_answer (others ∷ weights_refusal weights ∷ a ∷ runs ∷ [])) (sizes_alike bounds)
      ∙ ap (λ a. first_answer (others ∷ weights_refusal weights ∷ size_refusal q bounds ∷ a ∷ [])) of_runs

  pub case_alike : (bounds : Bounds) (x : Texts) → case_answer bounds x p ≡ case_answer bounds x q
  case_alike bounds x = at_once_alike
      (input_refusal file.Input p x.input) (input_refusal file.Input q x.input) x.weights bounds
      (unfailing p None (run_in bounds x p)) (unfailing q None (run_in bounds x q))
      (refusals_alike file.Input x.input)
      (ap (unfailing p None) (runs_alike x.input bounds) ∙ ends_alike None (run_in bounds x q))
