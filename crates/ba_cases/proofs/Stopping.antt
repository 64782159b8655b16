-- Where a call stops, by the first answer that is there.

use Rattle.std.proofs.Common.{◌≡◌, ◌∙◌, ℕ, Option, None, Some, List, [], ◌∷◌, refl, ap}
use Rattle.ba_answers.specs.declared.answers.Answer.{Answer}
use Rattle.ba_tree.specs.declared.run.Bounds.{Bounds}
use Rattle.ba_tree.specs.declared.tree.Program.{Program}
use Rattle.ba_tree_laws.specs.Spelling.{Spells}
use Rattle.ba_cases.specs.AtOnce.{IsAtOnce, IsNoProgram, IsStopped, Tells, first_answer, no_program, of_program, size_refusal, weights_refusal}
use Rattle.ba_cases.specs.declared.stop.Stop.{Stop}
use Rattle.ba_cases.specs.declared.stop.Stop.TheVariants as stop

goes_on : (o : Option Answer) (others : List (Option Answer)) → o ≡ None →
    first_answer (o ∷ others) ≡ first_answer others
goes_on o others none = ap (λ (o : Option Answer). first_answer (o ∷ others)) none

ends_at : (o : Option Answer) (others : List (Option Answer)) (a : Answer) → o ≡ Some a →
    first_answer (o ∷ others) ≡ Some a
ends_at o others a is = ap (λ (o : Option Answer). first_answer (o ∷ others)) is

-- the text spells no program
pub stops_unspelled : (source : List ℕ) (first : Program → Option Answer) (why : Stop) →
    IsNoProgram source why → IsStopped source first why
stops_unspelled source first (stop.Answered a) (fault, is, told) = no_program fault is told
stops_unspelled source first stop.Memory none = tt

-- the answer at once, by a mode's refusals of the inputs and of the size, and by what its runs come to
abbrev pub first_by : (Program → Option Answer) → List ℕ → (Program → Option Answer) →
    (Program → Option Answer) → Program → Option Answer
first_by inputs weights sizes runs p =
    first_answer (inputs p ∷ weights_refusal weights ∷ sizes p ∷ runs p ∷ [])

-- the refusals of programs for their size
abbrev pub sizes_in : Bounds → Program → Option Answer
sizes_in bounds p = size_refusal p bounds

module _ (source : List ℕ) (inputs : Program → Option Answer) (weights : List ℕ)
    (sizes runs : Program → Option Answer) (p : Program) (spells : Spells source p) where
  stops_at : (why : Stop) (due : Option Answer) (others : List (Option Answer)) → Tells why due →
      first_by inputs weights sizes runs p ≡ first_answer (due ∷ others) →
      IsStopped source (first_by inputs weights sizes runs) why
  stops_at (stop.Answered a) due others told is = of_program p spells (is ∙ ends_at due others a told)
  stops_at stop.Memory due others told is = tt

  pub stops_inputs : (why : Stop) → Tells why (inputs p) →
      IsStopped source (first_by inputs weights sizes runs) why
  stops_inputs why told =
      stops_at why (inputs p) (weights_refusal weights ∷ sizes p ∷ runs p ∷ []) told refl

  module _ (input : inputs p ≡ None) where
    pub stops_weights : (why : Stop) → Tells why (weights_refusal weights) →
        IsStopped source (first_by inputs weights sizes runs) why
    stops_weights why told = stops_at why (weights_refusal weights) (sizes p ∷ runs p ∷ []) told
        (goes_on (inputs p) (weights_refusal weights ∷ sizes p ∷ runs p ∷ []) input)

    module _ (weight : weights_refusal weights ≡ None) where
      to_size : first_by inputs weights sizes runs p ≡ first_answer (sizes p ∷ runs p ∷ [])
      to_size = goes_on (inputs p) (weights_refusal weights ∷ sizes p ∷ runs p ∷ []) input
          ∙ goes_on (weights_refusal weights) (sizes p ∷ runs p ∷ []) weight

      pub stops_size : (why : Stop) → Tells why (sizes p) →
          IsStopped source (first_by inputs weights sizes runs) why
      stops_size why told = stops_at why (sizes p) (runs p ∷ []) told to_size

      module _ (size : sizes p ≡ None) where
        to_runs : first_by inputs weights sizes runs p ≡ first_answer (runs p ∷ [])
        to_runs = to_size ∙ goes_on (sizes p) (runs p ∷ []) size

        pub stops_runs : (why : Stop) → Tells why (runs p) →
            IsStopped source (first_by inputs weights sizes runs) why
        stops_runs why told = stops_at why (runs p) [] told to_runs

        -- its runs come to an answer
        pub answers_runs : (a : Answer) → runs p ≡ Some a →
            IsAtOnce source (first_by inputs weights sizes runs) a
        answers_runs a is = of_program p spells (to_runs ∙ ends_at (runs p) [] a is)

        -- or to none
        pub none_at_once : runs p ≡ None → first_by inputs weights sizes runs p ≡ None
        none_at_once none = to_runs ∙ goes_on (runs p) [] none
