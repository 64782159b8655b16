-- What a word list says of a loop-free program and its input.

use Rattle.std.specs.Prelude.{◌≡◌, ℕ, ℤ, Bool, true, ◌↔◌, List, map}
use Rattle.std.specs.List.{list_all}
use Rattle.ba_choices.specs.declared.Choice.{Choice}
use Rattle.ba_code.specs.Run.{code_of_bound, outcome_of_code}
use Rattle.ba_code.specs.declared.trees.BoundTree.{BoundTree}
use Rattle.ba_code_laws.specs.Tracing.{Relaxes, places_used}
use Rattle.ba_code_laws.specs.Visits.{Visit, are_kept, chosen}
use Rattle.ba_tree.specs.declared.run.Input.{Input}
use Rattle.ba_tree.specs.declared.run.Outcome.TheVariants.{Done}
use Rattle.ba_wordlist.specs.Facts.{is_word_value}
use Rattle.ba_wordlist.specs.Meaning.{Assignment, holds, spelled, visits_of}
use Rattle.ba_wordlist.specs.declared.words.WordList.{WordList}

-- THE INPUT

-- numbers in the range of I32 or of U32
abbrev pub are_word_values : List (List ℤ) → Bool
are_word_values values = list_all (list_all is_word_value) values

-- GOOD RUNS, if these executions may be relaxed

-- the run of the tree with these choices is done
abbrev pub IsGood : BoundTree → Input → ℕ → Relaxes → List Choice → Type 0
IsGood tree input turns r choices = outcome_of_code (code_of_bound tree) input turns r choices ≡ Done

-- an assignment that meets the requirements, with Keep at each place that may not be relaxed
pub record Chosen (list : WordList) (r : Relaxes) (choices : List Choice) : Type 0 where
  pub by : Assignment
  pub holds : holds by list ≡ true
  pub kept : are_kept r (visits_of by list) ≡ true
  pub spells : chosen r (visits_of by list) ≡ choices

-- What a word list says, whatever may be relaxed. Take an assignment with Keep at each place that may not be
-- relaxed. It meets the requirements exactly if the run with its choices at the other places is good. The
-- places whose guard isn't 0 are then, in order, those that the run comes to. Each good run has the choices
-- of such an assignment.
pub record IsGuarded (tree : BoundTree) (input : Input) (list : WordList) : Type 0 where
  pub exactly : (turns : ℕ) (r : Relaxes) (f : Assignment) → are_kept r (visits_of f list) ≡ true
      → (holds f list ≡ true) ↔ IsGood tree input turns r (chosen r (visits_of f list))
  pub each : (turns : ℕ) (r : Relaxes) (choices : List Choice)
      → IsGood tree input turns r choices → Chosen list r choices
  pub places : (f : Assignment) → holds f list ≡ true
      → places_used (code_of_bound tree) input (spelled f list)
      ≡ map (λ (v : Visit). v.place) (visits_of f list)
