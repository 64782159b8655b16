-- Two verdicts on the runs of one program agree, and so do the answers that tell them.

use Rattle.std.proofs.Common.{◌≡◌, ℕ, true, false, None, List, length, refl, sym, ap, subst, ◌∙◌}
use Rattle.ba_choices.specs.Judges.{Judge}
use Rattle.ba_derivations.specs.Derivations.{sets_of}
use Rattle.ba_derivations.specs.Handing.{Derivation}
use Rattle.ba_derivations.specs.declared.verdict.FoundSet.{FoundSet}
use Rattle.ba_derivations.specs.declared.verdict.Verdict.{Verdict}
use Rattle.ba_derivations.specs.declared.verdict.Verdict.TheVariants.{Located, NoRepair, TooMany, Spent}
use Rattle.ba_localise.proofs.OneVerdict.{all_same, all_weigh, counted_same, many_or_few, many_or_none, some_or_none, weight_same}
use Rattle.ba_localise.specs.Verdicts.{AreLocated, IsVerdict}
use Rattle.ba_report.specs.Report.{report_text}
use Rattle.ba_tree.specs.Least.{WeightList}
use Rattle.ba_tree.specs.declared.tree.Program.{Program}
use Rattle.ba_answers.specs.declared.answers.Answer.{Answer}
use Rattle.ba_answers.specs.declared.answers.Answer.TheVariants as answer
use Rattle.ba_cases.specs.AtOnce.{weights_of}
use Rattle.ba_cases.specs.Searching.{Agree, IsOfSearch, are_one, first_spent, runs_differ, second_spent}
use Rattle.ba_cases.specs.declared.texts.Texts.{Texts}
use Rattle.mode_localise.specs.Answers.{IsFound, judge_in, sets_answer, shows_runs, verdict_answer}
use Rattle.mode_localise.specs.declared.jobs.LocaliseJob.{LocaliseJob}
use Rattle.mode_localise.specs.declared.jobs.Telling.{Telling}
use Rattle.mode_localise.specs.declared.jobs.Telling.TheVariants as telling
use Rattle.mode_localise.proofs.Reports.{report_same}

-- the answer of a verdict is of a search
sets_of_search : (t : Telling) (source : List ℕ) (p : Program) (weight : ℕ) (sets : List FoundSet) →
    IsOfSearch (sets_answer t source p weight sets)
sets_of_search (telling.Report runs) source p weight sets = tt
sets_of_search (telling.Count additions) source p weight sets = tt

verdict_of_search : (j : LocaliseJob) (source : List ℕ) (p : Program) (v : Verdict) →
    IsOfSearch (verdict_answer j source p v)
verdict_of_search j source p (Located weight sets) = sets_of_search j.telling source p weight sets
verdict_of_search j source p NoRepair = tt
verdict_of_search j source p (TooMany weight sets) = tt
verdict_of_search j source p Spent = tt

pub found_of_search : (j : LocaliseJob) (x : Texts) (p : Program) (h : List Derivation) (a : Answer) →
    IsFound j x p h a → IsOfSearch a
found_of_search j x p h a found =
    subst IsOfSearch (sym found.tells) (verdict_of_search j x.program p found.verdict)

module _ (j : LocaliseJob) (x : Texts) (p : Program) where
  abbrev weights : WeightList
  weights = weights_of p x

  abbrev good : Judge
  good = judge_in j x p

  of_search : (source : List ℕ) (v : Verdict) (a : Answer) → a ≡ verdict_answer j source p v → IsOfSearch a
  of_search source v a is = subst IsOfSearch (sym is) (verdict_of_search j source p v)

  abbrev IsTrue : Derivation → Verdict → Type 0
  IsTrue d v = IsVerdict weights good j.conflicts j.sets d.steps v

  -- what is told of all least sets is one, except for their runs if these are shown
  all_agree : (t : Telling) (weight more : ℕ) (sets others : List FoundSet) (a b : Answer) →
      AreLocated weights good j.sets weight sets → AreLocated weights good j.sets more others → a ≡
      sets_answer t x.program p weight sets →
      b ≡ sets_answer t x.program p more others → Agree (shows_runs t) a b
  all_agree (telling.Report true) weight more sets others a b one other is are =
      runs_differ (report_text x.program p true weight sets) (report_text x.program p true more others) is are
      refl
  all_agree (telling.Report false) weight more sets others a b one other is are = are_one (is
      ∙ ap (λ weight. answer.Located (report_text x.program p false weight sets))
      (all_weigh weights good j.sets weight more sets others one other)
      ∙ ap answer.Located
      (report_same x.program p more sets others (all_same weights good j.sets weight more sets others one
      other)) ∙ sym are)
  all_agree (telling.Count additions) weight more sets others a b one other is are = are_one (is
      ∙ ap (λ weight. answer.Sampled additions weight (length sets)) (all_weigh weights good j.sets weight
      more sets others one
      other)
      ∙ ap (answer.Sampled additions more) (counted_same weights good j.sets weight more sets others one
      other) ∙ sym are)

  verdicts_agree : (d e : Derivation) (v w : Verdict) (a b : Answer) → IsTrue d v → IsTrue e w →
      a ≡ verdict_answer j x.program p v → b ≡ verdict_answer j x.program p w →
      Agree (shows_runs j.telling) a b
  verdicts_agree d e Spent w a b one other is are =
      first_spent j.conflicts None is (of_search x.program w b are)
  verdicts_agree d e v Spent a b one other is are =
      second_spent j.conflicts None are (of_search x.program v a is)
  verdicts_agree d e NoRepair NoRepair a b one other is are = are_one (is ∙ sym are)
  verdicts_agree d e NoRepair (Located weight sets) a b one other is are =
      absurd (some_or_none weights good j.sets weight sets other one)
  verdicts_agree d e NoRepair (TooMany weight sets) a b one other is are =
      absurd (many_or_none weights good j.sets weight sets other.0 one)
  verdicts_agree d e (Located weight sets) NoRepair a b one other is are =
      absurd (some_or_none weights good j.sets weight sets one other)
  verdicts_agree d e (Located weight sets) (Located more others) a b one other is are =
      all_agree j.telling weight more sets others a b one other is are
  verdicts_agree d e (Located weight sets) (TooMany more others) a b one other is are =
      absurd (many_or_few weights good j.sets weight more sets others one other.0)
  verdicts_agree d e (TooMany weight sets) NoRepair a b one other is are =
      absurd (many_or_none weights good j.sets weight sets one.0 other)
  verdicts_agree d e (TooMany weight sets) (Located more others) a b one other is are =
      absurd (many_or_few weights good j.sets more weight others sets other one.0)
  verdicts_agree d e (TooMany weight sets) (TooMany more others) a b one other is are = are_one (is
      ∙ ap (λ weight. answer.TooManySets weight j.sets None)
      (weight_same weights good j.sets weight more (sets_of sets) (sets_of others) one.0 other.0) ∙ sym are)

  pub found_agree : (h k : List Derivation) (a b : Answer) → IsFound j x p h a → IsFound j x p k b →
      Agree (shows_runs j.telling) a b
  found_agree h k a b one other = verdicts_agree one.derivation other.derivation one.verdict other.verdict a b
      one.shows.is_verdict other.shows.is_verdict one.tells other.tells
