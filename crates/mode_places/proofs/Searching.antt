-- What a search over places comes to, from what it finds and leaves.

use Rattle.std.proofs.Common.{◌≡◌, ℕ, List, [], ◌∷◌, refl, ap, subst, ◌∙◌}
use Rattle.ba_answers.specs.declared.answers.Answer.{Answer}
use Rattle.ba_cases.specs.AtOnce.{IsAtOnce, case_answer, weights_of}
use Rattle.ba_cases.specs.Cases.{IsCaseOf}
use Rattle.ba_cases.specs.Searching.{at_once, by_search}
use Rattle.ba_cases.specs.declared.cases.Case.{Case}
use Rattle.ba_cases.specs.declared.texts.Texts.{Texts}
use Rattle.ba_localise.specs.Places.{FindsPlaces, LeavesPlaces}
use Rattle.ba_localise.specs.declared.verdict.PlaceVerdict.{PlaceVerdict}
use Rattle.ba_places.specs.Least.{JudgeOfPlaces, place_judge_of}
use Rattle.ba_steps.specs.Sinks.{Told}
use Rattle.ba_tree.specs.Least.{WeightList}
use Rattle.ba_tree.specs.declared.run.Input.{Input}
use Rattle.mode_places.specs.Answers.{judge_in, verdict_answer}
use Rattle.mode_places.specs.Searches.{Concludes, Stops, in_search}
use Rattle.mode_places.specs.declared.jobs.PlacesJob.{PlacesJob}

-- an answer at once
pub answered_at_once : (j : PlacesJob) (x : Texts) (t : Told) (a : Answer) →
    IsAtOnce x.program (case_answer j.bounds x) a → Concludes j x t t a
answered_at_once j x t a is = record { handed = []; is = at_once is refl; hands = (refl, refl) }

module _ (j : PlacesJob) (x : Texts) (c : Case) (case_is : IsCaseOf j.bounds x c) where
  -- what holds of the weights and the judge of a case holds of those of its texts
  of_texts : (holds : WeightList → JudgeOfPlaces → Type 0) →
      holds c.weights.of (place_judge_of c.program c.input j.bounds) →
      holds (weights_of c.program x) (judge_in j x c.program)
  of_texts holds is = subst (λ (weights : WeightList). holds weights (judge_in j x c.program)) case_is.weights
      (subst (λ (i : Input). holds c.weights.of (place_judge_of c.program i j.bounds)) case_is.input is)

  -- a derivation was handed on that shows a verdict, and the answer tells it
  pub concluded : (source : List ℕ) (t u : Told) (found : PlaceVerdict) (a : Answer) →
      FindsPlaces c.weights.of (place_judge_of c.program c.input j.bounds) j.conflicts j.sets t u found →
      source ≡ x.program → a ≡ verdict_answer j source c.program found.places found.verdict →
      Concludes j x t u a
  concluded source t u found a finds same tells =
      let by = of_texts (λ weights good. FindsPlaces weights good j.conflicts j.sets t u found) finds in
      record {
        handed = by.finds.derivation ∷ [];
        is = by_search c.program case_is.spells case_is.undecided (record {
          places = found.places;
          suspects = by.suspects;
          derivation = by.finds.derivation;
          handed_is = refl;
          verdict = found.verdict;
          shows = by.finds.shows;
          is_verdict = by.is_verdict;
          tells = tells ∙ ap (λ source. verdict_answer j source c.program found.places found.verdict) same;
        });
        hands = (u, by.finds.hands, (refl, refl));
      }

  -- what is left where it stops
  pub stopped : (t u : Told) →
      LeavesPlaces c.weights.of (place_judge_of c.program c.input j.bounds) j.conflicts j.sets t u →
      Stops j x t u
  stopped t u left = in_search c.program case_is.spells case_is.undecided
      (of_texts (λ weights good. LeavesPlaces weights good j.conflicts j.sets t u) left)
