-- What is found of a program holds of each one of the same meaning, so the answers of a text agree.

use Rattle.std.proofs.Common.{◌≡◌, None, List, map, ap, subst, ◌∙◌}
use Rattle.ba_all.specs.AllRuns.{judge_of_all}
use Rattle.ba_all.specs.Cuts.{all_good}
use Rattle.ba_answers.specs.declared.answers.Answer.{Answer}
use Rattle.ba_cases.proofs.Alike.{weights_alike}
use Rattle.ba_cases.proofs.InputsAlike.{all_alike}
use Rattle.ba_cases.proofs.OneAnswer.{all_of_meaning, answers_agree, is_of_search}
use Rattle.ba_cases.specs.AllCases.{all_answer, inputs_in}
use Rattle.ba_cases.specs.AtOnce.{weights_of}
use Rattle.ba_cases.specs.Searching.{Agree, IsOfSearch}
use Rattle.ba_cases.specs.declared.texts.Texts.{Texts}
use Rattle.ba_choices.specs.Judges.{Judge}
use Rattle.ba_derivations.specs.Handing.{Derivation}
use Rattle.ba_derivations.specs.declared.verdict.Verdict.{Verdict}
use Rattle.ba_derivations.specs.declared.verdict.Verdict.TheVariants.{Located, NoRepair, TooMany, Spent}
use Rattle.ba_inputs.specs.declared.inputs.InputLine.{InputLine}
use Rattle.ba_localise.specs.Verdicts.{Shows}
use Rattle.ba_tree.specs.Least.{WeightList}
use Rattle.ba_tree.specs.declared.run.Input.{Input}
use Rattle.ba_tree.specs.declared.tree.Program.{Program}
use Rattle.ba_tree_laws.specs.Equivalent.{AreEquivalent}
use Rattle.ba_tree_laws.specs.Spelling.{Spells}
use Rattle.mode_all.proofs.Agreement.{found_agree, found_of_search}
use Rattle.mode_all.proofs.Reporting.{reports_too, tests_same}
use Rattle.mode_all.specs.Answers.{IsAnswer, IsFound, Reports, TellsVerdict, judge_in}
use Rattle.mode_all.specs.declared.jobs.AllJob.{AllJob}

module _ (j : AllJob) (x : Texts) (p q : Program) (equal : AreEquivalent p q) where
  inputs_too : inputs_in p x.input ≡ inputs_in q x.input
  inputs_too = ap (map (λ (entry : InputLine). entry.input)) (all_alike p q equal x.input)

  judge_too : judge_in j x p ≡ judge_in j x q
  judge_too = (λ k set. all_good (tests_same p q equal (inputs_in p x.input) j.bounds set k))
      ∙ ap (λ (inputs : List Input). judge_of_all q inputs j.bounds) inputs_too

  shows_too : (d : Derivation) (v : Verdict) → Shows (weights_of p x) (judge_in j x p) j.conflicts j.sets d v
      → Shows (weights_of q x) (judge_in j x q) j.conflicts j.sets d v
  shows_too d v shows =
      subst (λ (good : Judge). Shows (weights_of q x) good j.conflicts j.sets d v) judge_too
      (subst (λ (weights : WeightList). Shows weights (judge_in j x p) j.conflicts j.sets d v)
      (weights_alike p q equal x.weights) shows)

  tells_too : (v : Verdict) (a : Answer) → TellsVerdict j x.program p (inputs_in p x.input) v a
      → TellsVerdict j x.program q (inputs_in q x.input) v a
  tells_too (Located weight sets) a tells = (
    tells.0,
    subst (λ (inputs : List Input).
        Reports j.runs x.program q inputs j.bounds weight sets tells.0) inputs_too
        (reports_too p q equal j.runs x.program (inputs_in p x.input) j.bounds weight sets tells.0 tells.1),
    tells.2,
  )
  tells_too NoRepair a tells = tells
  tells_too (TooMany weight sets) a tells = tells
  tells_too Spent a tells = tells

  found_too : (handed : List Derivation) (a : Answer) → IsFound j x p handed a → IsFound j x q handed a
  found_too handed a found = record {
    derivation = found.derivation;
    handed_is = found.handed_is;
    verdict = found.verdict;
    shows = shows_too found.derivation found.verdict found.shows;
    tells = tells_too found.verdict a found.tells;
  }

  rows_agree : (h k : List Derivation) (a b : Answer) → IsFound j x p h a → IsFound j x q k b
      → Agree j.runs a b
  rows_agree h k a b one other = found_agree j x q h k a b (found_too h a one) other

pub one_answer_of_all : (j : AllJob) (x : Texts) (h k : List Derivation) (a b : Answer) → IsAnswer j x h a
    → IsAnswer j x k b → Agree j.runs a b
one_answer_of_all j x h k a b = answers_agree x.program (all_answer j.bounds x) (all_of_meaning j.bounds x)
    (IsFound j x) j.runs h k a b
    (λ p q spells spelled equal found holds. rows_agree j x p q equal h k a b found holds)

-- if the program of a text has no answer at once, its answer is of a search
pub answer_of_search : (j : AllJob) (x : Texts) (p : Program) → Spells x.program p
    → all_answer j.bounds x p ≡ None → (h : List Derivation) (a : Answer) → IsAnswer j x h a → IsOfSearch a
answer_of_search j x p spells none h a = is_of_search x.program (all_answer j.bounds x)
    (all_of_meaning j.bounds x) (IsFound j x) p h a spells none
    (λ q spelled found. found_of_search j x q h a found)
