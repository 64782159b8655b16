-- What is found of a program holds of each one of the same meaning, so the answers of a text agree.

use Rattle.std.proofs.Common.{◌≡◌, ℕ, None, List, refl, ap, subst, ◌∙◌}
use Rattle.ba_choices.specs.Judges.{Judge}
use Rattle.ba_derivations.specs.Handing.{Derivation}
use Rattle.ba_derivations.specs.declared.verdict.FoundSet.{FoundSet}
use Rattle.ba_derivations.specs.declared.verdict.Verdict.{Verdict}
use Rattle.ba_derivations.specs.declared.verdict.Verdict.TheVariants.{Located, NoRepair, TooMany, Spent}
use Rattle.ba_localise.specs.Verdicts.{Shows}
use Rattle.ba_tree.specs.Least.{WeightList}
use Rattle.ba_tree.specs.declared.tree.Program.{Program}
use Rattle.ba_tree_laws.specs.Equivalent.{AreEquivalent}
use Rattle.ba_tree_laws.specs.Spelling.{Spells}
use Rattle.ba_answers.specs.declared.answers.Answer.{Answer}
use Rattle.ba_answers.specs.declared.answers.Answer.TheVariants as answer
use Rattle.ba_cases.proofs.Alike.{judges_alike, weights_alike}
use Rattle.ba_cases.proofs.OneAnswer.{answers_agree, case_of_meaning, is_of_search}
use Rattle.ba_cases.specs.AtOnce.{case_answer, weights_of}
use Rattle.ba_cases.specs.Searching.{Agree, IsOfSearch}
use Rattle.ba_cases.specs.declared.texts.Texts.{Texts}
use Rattle.mode_localise.specs.Answers.{IsAnswer, IsFound, judge_in, sets_answer, shows_runs, verdict_answer}
use Rattle.mode_localise.specs.declared.jobs.LocaliseJob.{LocaliseJob}
use Rattle.mode_localise.specs.declared.jobs.Telling.{Telling}
use Rattle.mode_localise.specs.declared.jobs.Telling.TheVariants as telling
use Rattle.mode_localise.proofs.Agreement.{found_agree, found_of_search}
use Rattle.mode_localise.proofs.Reports.{report_of_same}

module _ (j : LocaliseJob) (x : Texts) (p q : Program) (equal : AreEquivalent p q) where
  shows_too : (d : Derivation) (v : Verdict) →
      Shows (weights_of p x) (judge_in j x p) j.conflicts j.sets d v →
      Shows (weights_of q x) (judge_in j x q) j.conflicts j.sets d v
  shows_too d v shows =
      subst (λ (good : Judge). Shows (weights_of q x) good j.conflicts j.sets d v)
      (judges_alike p q equal x.input j.bounds)
      (subst (λ (weights : WeightList). Shows weights (judge_in j x p) j.conflicts j.sets d v)
      (weights_alike p q equal x.weights) shows)

  sets_too : (t : Telling) (weight : ℕ) (sets : List FoundSet) →
      sets_answer t x.program p weight sets ≡ sets_answer t x.program q weight sets
  sets_too (telling.Report runs) weight sets = ap answer.Located
      (report_of_same p q equal x.program runs weight sets)
  sets_too (telling.Count additions) weight sets = refl

  verdict_too : (v : Verdict) → verdict_answer j x.program p v ≡ verdict_answer j x.program q v
  verdict_too (Located weight sets) = sets_too j.telling weight sets
  verdict_too NoRepair = refl
  verdict_too (TooMany weight sets) = refl
  verdict_too Spent = refl

  found_too : (handed : List Derivation) (a : Answer) → IsFound j x p handed a → IsFound j x q handed a
  found_too handed a found = record {
    derivation = found.derivation;
    handed_is = found.handed_is;
    verdict = found.verdict;
    shows = shows_too found.derivation found.verdict found.shows;
    tells = found.tells ∙ verdict_too found.verdict;
  }

  rows_agree : (h k : List Derivation) (a b : Answer) → IsFound j x p h a → IsFound j x q k b →
      Agree (shows_runs j.telling) a b
  rows_agree h k a b one other = found_agree j x q h k a b (found_too h a one) other

pub one_answer : (j : LocaliseJob) (x : Texts) (h k : List Derivation) (a b : Answer) → IsAnswer j x h a →
    IsAnswer j x k b → Agree (shows_runs j.telling) a b
one_answer j x h k a b = answers_agree x.program (case_answer j.bounds x) (case_of_meaning j.bounds x)
    (IsFound j x) (shows_runs j.telling) h k a b
    (λ p q spells spelled equal found holds. rows_agree j x p q equal h k a b found holds)

-- if the program of a text has no answer at once, its answer is of a search
pub answer_of_search : (j : LocaliseJob) (x : Texts) (p : Program) → Spells x.program p →
    case_answer j.bounds x p ≡ None → (h : List Derivation) (a : Answer) → IsAnswer j x h a → IsOfSearch a
answer_of_search j x p spells none h a = is_of_search x.program (case_answer j.bounds x)
    (case_of_meaning j.bounds x) (IsFound j x) p h a spells none
    (λ q spelled found. found_of_search j x q h a found)
