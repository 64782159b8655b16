-- Statements that may be relaxed: as written, or as the choice says.
use Rattle.std.proofs.Common.{◌≡◌, ℤ, Bool, true, false, Option, None, Some, option_map, Ok, List, [], ◌∷◌, refl}
use Rattle.ba_choices.specs.declared.Choice.{Choice}
use Rattle.ba_choices.specs.declared.Choice.TheVariants.{Keep, Take}
use Rattle.ba_code.specs.Meaning.{as_picked, choice_where, first_choice, if_taken, taken}
use Rattle.ba_code.specs.State.{CodeExecution, CodeState}
use Rattle.ba_code.specs.Types.{Types}
use Rattle.ba_code.specs.declared.nodes.ArrayInfo.{ArrayInfo}
use Rattle.ba_code.specs.declared.nodes.Take as code
use Rattle.ba_inline.specs.Ends.{Meets}
use Rattle.ba_inline.specs.Keeping.{Keeps}
use Rattle.ba_inline.specs.Making.{Standing}
use Rattle.ba_inline.specs.Names.{Names, seen}
use Rattle.ba_tree.specs.Acts.{then_do}
use Rattle.ba_tree.specs.Choices.{as_chosen, if_fitting, next_choice, value_by_choice}
use Rattle.ba_tree.specs.State.{State, Act}
use Rattle.ba_tree.specs.declared.run.Flow.TheVariants.{Next}

-- the state with these choices left
abbrev pub with_choices : List Choice → CodeState → CodeState
with_choices choices t = record t { choices = choices }

pub keeps-choices : (calls : Bool) (names : Names) (low : Types) (t u : CodeState) (choices : List Choice)
    → Keeps calls names low (with_choices choices t) u → Keeps calls names low t u
keeps-choices calls names low t u choices k = record {
  variables = k.variables;
  arrays = k.arrays;
  lengths = k.lengths;
}

module _ {A C : Type 0} (stands : Standing C) (names : Names) (t : CodeState) (fitting : List ℤ → Option A)
    (written : Act A) (f : A → Act C) (arrays : List ArrayInfo) (take : code.Take) (keep : CodeExecution)
    (as_written : (choices : List Choice)
    → Meets stands (then_do (written (seen names (with_choices choices t))) f) (keep (with_choices choices
    t)))
    (as_taken : (choices : List Choice) (zs : List ℤ)
    → Meets stands (then_do (if_fitting (fitting zs) (seen names (with_choices choices t))) f)
    (if_taken (taken arrays take zs (with_choices choices t)) (with_choices choices t))) where
  picks-by : (choices : List Choice)
      → Meets stands (then_do (then_do (next_choice choices (seen names t)) (as_chosen fitting written)) f)
      (then_do (first_choice choices t) (as_picked arrays take keep))
  picks-by [] = (refl, refl)
  picks-by (Keep ∷ choices) = as_written choices
  picks-by (Take zs ∷ choices) = as_taken choices zs

  pub picks : (admitted : Bool)
      → Meets stands (then_do (value_by_choice admitted fitting written (seen names t)) f)
      (then_do (choice_where admitted t) (as_picked arrays take keep))
  picks true = picks-by t.choices
  picks false = as_written t.choices

-- what fits does something, and what doesn't ends the run on both sides
pub fits-meets : {A C : Type 0} (stands : Standing C) (o : Option A) (h : A → CodeState) (f : A → Act C)
    (s : State) (t : CodeState) → s.choices ≡ t.choices
    → ((a : A) → o ≡ Some a → Meets stands (f a s) (Ok Next, h a))
    → Meets stands (then_do (if_fitting o s) f) (if_taken (option_map h o) t)
fits-meets stands None h f s t same more = (refl, same)
fits-meets stands (Some a) h f s t same more = more a refl
