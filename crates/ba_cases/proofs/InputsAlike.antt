-- Programs with the same tree come to the same with several inputs: the inputs, their refusals, what their
-- runs come to, and the answer before any search.

use Rattle.std.proofs.Common.{◌≡◌, ◌*◌, nat_lt, if◌then◌else◌, ℕ, Option, None, Some, option_map, List, [], ◌∷◌, map, drop, take, length, refl, ap, ap₂, ◌∙◌}
use Rattle.std.specs.Option.{option_or}
use Rattle.ba_answers.specs.declared.answers.Answer.{Answer}
use Rattle.ba_answers.specs.declared.answers.Answer.TheVariants as answer
use Rattle.ba_answers.specs.declared.file.File.{File}
use Rattle.ba_answers.specs.declared.file.File.TheVariants as file
use Rattle.ba_cases.specs.AllCases.{all_answer, size_refusal_of_all}
use Rattle.ba_cases.specs.AtOnce.{first_answer, unfailing, unit_limit, weights_refusal}
use Rattle.ba_cases.specs.Inputs.{end_of, ends_answer, input_at, inputs_of, inputs_refusal, refusal_of}
use Rattle.ba_cases.specs.declared.texts.Texts.{Texts}
use Rattle.ba_cases.proofs.Alike.{ends_alike, inputs_alike}
use Rattle.ba_inputs.specs.InputLines.{AtLine, InputsFault, Numbered, first_fault, input_lines, too_few, too_many}
use Rattle.ba_inputs.specs.declared.inputs.InputLine.{InputLine}
use Rattle.ba_tree.specs.Run.{plain_run}
use Rattle.ba_tree.specs.declared.run.Allowed.TheVariants.{Statements}
use Rattle.ba_tree.specs.declared.run.Bounds.{Bounds}
use Rattle.ba_tree.specs.declared.run.Input.{Input}
use Rattle.ba_tree.specs.declared.tree.Program.{Program}
use Rattle.ba_tree_laws.specs.Equivalent.{AreEquivalent}

module _ (p q : Program) (equal : AreEquivalent p q) where
  -- THE INPUTS

  entries_alike : (lines : List Numbered) → map (input_at p) lines ≡ map (input_at q) lines
  entries_alike [] = refl
  entries_alike ((number, line) ∷ lines) = ap₂ (λ (e : InputLine) (es : List InputLine). e ∷ es)
      (ap (λ (i : Input). record { line = number; input = i }) (inputs_alike p q equal line))
      (entries_alike lines)

  pub all_alike : (text : List ℕ) → inputs_of p text ≡ inputs_of q text
  all_alike text = entries_alike (input_lines text)

  faults_alike : (lines : List Numbered) → first_fault p lines ≡ first_fault q lines
  faults_alike [] = refl
  faults_alike ((number, line) ∷ lines) =
      ap₂ (λ (a b : Option InputsFault). option_or a b)
      (ap (option_map (AtLine number)) (equal.input_faults line)) (faults_alike lines)

  pub all_refusals_alike : (which : File) (least : ℕ) (text : List ℕ) →
      inputs_refusal which least p text ≡ inputs_refusal which least q text
  all_refusals_alike which least text = ap (λ (fault : Option InputsFault). option_map (refusal_of which)
      (option_or (option_or fault (too_many (drop 64 (input_lines text)))) (too_few least (input_lines
      text))))
      (faults_alike (take 64 (input_lines text)))

  -- THE ANSWER BEFORE ANY SEARCH

  end_alike : (bounds : Bounds) (entry : InputLine) → end_of bounds p entry ≡ end_of bounds q entry
  end_alike bounds entry =
      ap (unfailing p (Some entry.line)) (equal.runs entry.input bounds (Statements []) [])
      ∙ ends_alike p q equal (Some entry.line) (plain_run q entry.input bounds)

  each_alike : (bounds : Bounds) (entries : List InputLine) →
      map (end_of bounds p) entries ≡ map (end_of bounds q) entries
  each_alike bounds [] = refl
  each_alike bounds (entry ∷ entries) = ap₂ (λ (a : Option Answer) (ends : List (Option Answer)). a ∷ ends)
      (end_alike bounds entry) (each_alike bounds entries)

  pub all_ends_alike : (bounds : Bounds) (text : List ℕ) →
      ends_answer bounds p (inputs_of p text) ≡ ends_answer bounds q (inputs_of q text)
  all_ends_alike bounds text = ap first_answer (each_alike bounds (inputs_of p text))
      ∙ ap (ends_answer bounds q) (all_alike text)

  -- a program that is taken once for each input
  all_sizes_alike : (bounds : Bounds) (text : List ℕ) →
      size_refusal_of_all p bounds (length (inputs_of p text))
      ≡ size_refusal_of_all q bounds (length (inputs_of q text))
  all_sizes_alike bounds text =
      ap (λ (n : ℕ). if nat_lt unit_limit (n * length (inputs_of p text)) then Some answer.TooLarge else None)
      (equal.units bounds)
      ∙ ap (λ (inputs : List InputLine). size_refusal_of_all q bounds (length inputs)) (all_alike text)

  pub all_answers_alike : (bounds : Bounds) (x : Texts) → all_answer bounds x p ≡ all_answer bounds x q
  all_answers_alike bounds x =
      ap (λ a. first_answer (a ∷ weights_refusal x.weights
      ∷ size_refusal_of_all p bounds (length (inputs_of p x.input))
      ∷ ends_answer bounds p (inputs_of p x.input) ∷ [])) (all_refusals_alike file.Inputs 1 x.input)
      ∙ ap (λ a. first_answer (inputs_refusal file.Inputs 1 q x.input ∷ weights_refusal x.weights ∷ a
      ∷ ends_answer bounds p (inputs_of p x.input) ∷ [])) (all_sizes_alike bounds x.input)
      ∙ ap (λ a. first_answer (inputs_refusal file.Inputs 1 q x.input ∷ weights_refusal x.weights
      ∷ size_refusal_of_all q bounds (length (inputs_of q x.input)) ∷ a ∷ []))
      (all_ends_alike bounds x.input)
