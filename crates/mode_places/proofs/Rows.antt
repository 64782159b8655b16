-- What is found of a program holds of each one of the same meaning, so the answers of a text agree.

use Rattle.std.proofs.Common.{◌≡◌, None, List, map, refl, ap, subst, ◌∙◌}
use Rattle.ba_answers.specs.declared.answers.Answer.{Answer}
use Rattle.ba_answers.specs.declared.answers.Answer.TheVariants as answer
use Rattle.ba_cases.proofs.Alike.{inputs_alike, weights_alike}
use Rattle.ba_cases.proofs.OneAnswer.{answers_agree, case_of_meaning, is_of_search}
use Rattle.ba_cases.specs.AtOnce.{case_answer, input_of, weights_of}
use Rattle.ba_cases.specs.Searching.{Agree, IsOfSearch}
use Rattle.ba_cases.specs.declared.texts.Texts.{Texts}
use Rattle.ba_derivations.specs.Handing.{Derivation}
use Rattle.ba_derivations.specs.declared.verdict.Verdict.{Verdict}
use Rattle.ba_derivations.specs.declared.verdict.Verdict.TheVariants.{Located, NoRepair, TooMany, Spent}
use Rattle.ba_localise.specs.Places.{IsPlaceVerdict, found_at}
use Rattle.ba_localise.specs.Verdicts.{Shows}
use Rattle.ba_places.specs.Least.{JudgeOfPlaces, place_judge_of}
use Rattle.ba_places.specs.Numbers.{AreSuspects, judge_by, unit_weights_of}
use Rattle.ba_tree.specs.Least.{WeightList}
use Rattle.ba_tree.specs.Run.{is_done}
use Rattle.ba_tree.specs.declared.run.Allowed.TheVariants.{Places}
use Rattle.ba_tree.specs.declared.run.Input.{Input}
use Rattle.ba_tree.specs.declared.run.Place.{Place}
use Rattle.ba_tree.specs.declared.tree.Program.{Program}
use Rattle.ba_tree_laws.specs.Equivalent.{AreEquivalent}
use Rattle.ba_tree_laws.specs.Spelling.{Spells}
use Rattle.mode_places.specs.Answers.{IsAnswer, IsFound, judge_in, verdict_answer}
use Rattle.mode_places.specs.declared.jobs.PlacesJob.{PlacesJob}
use Rattle.mode_places.proofs.Agreement.{found_agree, found_of_search}
use Rattle.mode_places.proofs.Reports.{report_of_same}

module _ (j : PlacesJob) (x : Texts) (p q : Program) (equal : AreEquivalent p q) where
  judges_too : judge_in j x p ≡ judge_in j x q
  judges_too = (λ i set choices. is_done (equal.runs (input_of p x.input) j.bounds (Places set) choices i))
      ∙ ap (λ (input : Input). place_judge_of q input j.bounds) (inputs_alike p q equal x.input)

  -- what holds of the weights and the judge of the one program holds of those of the other
  too : (holds : WeightList → JudgeOfPlaces → Type 0) → holds (weights_of p x) (judge_in j x p) →
      holds (weights_of q x) (judge_in j x q)
  too holds is = subst (holds (weights_of q x)) judges_too
      (subst (λ (weights : WeightList). holds weights (judge_in j x p)) (weights_alike p q equal x.weights)
      is)

  answer_too : (places : List Place) (v : Verdict) →
      verdict_answer j x.program p places v ≡ verdict_answer j x.program q places v
  answer_too places (Located members sets) =
      ap answer.Located (report_of_same p q equal x.program j.runs members (map (found_at places) sets))
  answer_too places NoRepair = refl
  answer_too places (TooMany members sets) = refl
  answer_too places Spent = refl

  found_too : (handed : List Derivation) (a : Answer) → IsFound j x p handed a → IsFound j x q handed a
  found_too handed a found = record {
    places = found.places;
    suspects = too (λ weights good. AreSuspects weights good found.places) found.suspects;
    derivation = found.derivation;
    handed_is = found.handed_is;
    verdict = found.verdict;
    shows = too (λ weights good. Shows (unit_weights_of found.places) (judge_by good found.places)
        j.conflicts j.sets found.derivation found.verdict) found.shows;
    is_verdict = too (λ weights good. IsPlaceVerdict weights good j.sets found.places found.verdict)
        found.is_verdict;
    tells = found.tells ∙ answer_too found.places found.verdict;
  }

  rows_agree : (h k : List Derivation) (a b : Answer) → IsFound j x p h a → IsFound j x q k b →
      Agree j.runs a b
  rows_agree h k a b one other = found_agree j x q h k a b (found_too h a one) other

pub one_place_answer : (j : PlacesJob) (x : Texts) (h k : List Derivation) (a b : Answer) → IsAnswer j x h a →
    IsAnswer j x k b → Agree j.runs a b
one_place_answer j x h k a b = answers_agree x.program (case_answer j.bounds x) (case_of_meaning j.bounds x)
    (IsFound j x) j.runs h k a b
    (λ p q spells spelled equal found holds. rows_agree j x p q equal h k a b found holds)

-- where the program of a text has no answer at once, its answer is of a search
pub answer_of_search : (j : PlacesJob) (x : Texts) (p : Program) → Spells x.program p →
    case_answer j.bounds x p ≡ None → (h : List Derivation) (a : Answer) → IsAnswer j x h a → IsOfSearch a
answer_of_search j x p spells none h a = is_of_search x.program (case_answer j.bounds x)
    (case_of_meaning j.bounds x) (IsFound j x) p h a spells none
    (λ q spelled found. found_of_search j x q h a found)
