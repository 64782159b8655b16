-- WHAT A JOB COMES TO, where its files have these texts. It says nothing of a world.

use Rattle.std.specs.Prelude.{◌≡◌, ℕ, None, List, [], ◌∷◌, map}
use Rattle.ba_answers.specs.declared.answers.Answer.{Answer}
use Rattle.ba_answers.specs.declared.answers.Answer.TheVariants as answer
use Rattle.ba_cases.specs.AtOnce.{case_answer, input_of, weights_of}
use Rattle.ba_cases.specs.Searching.{IsAnswerOf}
use Rattle.ba_cases.specs.declared.texts.Texts.{Texts}
use Rattle.ba_derivations.specs.Handing.{Derivation}
use Rattle.ba_derivations.specs.declared.verdict.Verdict.{Verdict}
use Rattle.ba_derivations.specs.declared.verdict.Verdict.TheVariants.{Located, NoRepair, TooMany, Spent}
use Rattle.ba_localise.specs.Places.{IsPlaceVerdict, found_at}
use Rattle.ba_localise.specs.Verdicts.{Shows}
use Rattle.ba_places.specs.Least.{JudgeOfPlaces, place_judge_of}
use Rattle.ba_places.specs.Numbers.{AreSuspects, judge_by, unit_weights_of}
use Rattle.ba_tree.specs.declared.run.Place.{Place}
use Rattle.ba_tree.specs.declared.tree.Program.{Program}
use Rattle.mode_places.specs.Report.{place_report_text}
use Rattle.mode_places.specs.declared.jobs.PlacesJob.{PlacesJob}

-- which choices make a good run on the input where a set of places is relaxed

abbrev pub judge_in : PlacesJob → Texts → Program → JudgeOfPlaces
judge_in j x p = place_judge_of p (input_of p x.input) j.bounds

-- THE ANSWER OF A VERDICT on numbers of places: the least sets; no repair; more least sets than may be
-- listed; or spent conflicts. Each least set has so many members
abbrev pub verdict_answer : PlacesJob → List ℕ → Program → List Place → Verdict → Answer
verdict_answer j source p places (Located members sets) =
    answer.Located (place_report_text source p j.runs members (map (found_at places) sets))
verdict_answer j source p places NoRepair = answer.NoRepair
verdict_answer j source p places (TooMany members sets) = answer.TooManySets members j.sets None
verdict_answer j source p places Spent = answer.BudgetSpent j.conflicts None

-- THE ROW OF A SEARCH: some list of places is enough. The derivation that was handed on shows a verdict on
-- its numbers. The verdict is true of the places, and the answer tells it
pub record IsFound (j : PlacesJob) (x : Texts) (p : Program) (handed : List Derivation) (a : Answer) : Type 0
  where
    pub places : List Place
    pub suspects : AreSuspects (weights_of p x) (judge_in j x p) places
    pub derivation : Derivation
    pub handed_is : handed ≡ derivation ∷ []
    pub verdict : Verdict
    pub shows : Shows (unit_weights_of places) (judge_by (judge_in j x p) places) j.conflicts j.sets
        derivation
        verdict
    pub is_verdict : IsPlaceVerdict (weights_of p x) (judge_in j x p) j.sets places verdict
    pub tells : a ≡ verdict_answer j x.program p places verdict

-- THE ANSWERS of texts. Those of the same texts agree (`one_place_answer`).
abbrev pub IsAnswer : PlacesJob → Texts → List Derivation → Answer → Type 0
IsAnswer j x = IsAnswerOf x.program (case_answer j.bounds x) (IsFound j x)
