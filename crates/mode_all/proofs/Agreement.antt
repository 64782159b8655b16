-- Two verdicts on the runs of one program agree, and so do the answers that tell them.

use Rattle.std.proofs.Common.{◌≡◌, ℕ, Bool, true, false, None, List, refl, sym, ap, subst, ◌∙◌}
use Rattle.ba_answers.specs.declared.answers.Answer.{Answer}
use Rattle.ba_answers.specs.declared.answers.Answer.TheVariants as answer
use Rattle.ba_cases.specs.AllCases.{inputs_in}
use Rattle.ba_cases.specs.AtOnce.{weights_of}
use Rattle.ba_cases.specs.Searching.{Agree, IsOfSearch, are_one, first_spent, runs_differ, second_spent}
use Rattle.ba_cases.specs.declared.texts.Texts.{Texts}
use Rattle.ba_choices.specs.Judges.{Judge}
use Rattle.ba_derivations.specs.Derivations.{sets_of}
use Rattle.ba_derivations.specs.Handing.{Derivation}
use Rattle.ba_derivations.specs.declared.verdict.FoundSet.{FoundSet}
use Rattle.ba_derivations.specs.declared.verdict.Verdict.{Verdict}
use Rattle.ba_derivations.specs.declared.verdict.Verdict.TheVariants.{Located, NoRepair, TooMany, Spent}
use Rattle.ba_localise.proofs.OneVerdict.{all_same, all_weigh, many_or_few, many_or_none, some_or_none, weight_same}
use Rattle.ba_localise.specs.Verdicts.{AreLocated, IsVerdict}
use Rattle.ba_tree.specs.Least.{WeightList}
use Rattle.ba_tree.specs.declared.run.Input.{Input}
use Rattle.ba_tree.specs.declared.tree.Program.{Program}
use Rattle.mode_all.proofs.Reporting.{report_same}
use Rattle.mode_all.specs.Answers.{IsFound, Reports, TellsVerdict, judge_in}
use Rattle.mode_all.specs.declared.jobs.AllJob.{AllJob}

-- the answer of a verdict is of a search
told_of_search : (j : AllJob) (source : List ℕ) (p : Program) (inputs : List Input) (v : Verdict) (a : Answer)
    → TellsVerdict j source p inputs v a → IsOfSearch a
told_of_search j source p inputs (Located weight sets) a tells = subst IsOfSearch (sym tells.2) tt
told_of_search j source p inputs NoRepair a tells = subst IsOfSearch (sym tells) tt
told_of_search j source p inputs (TooMany weight sets) a tells = subst IsOfSearch (sym tells) tt
told_of_search j source p inputs Spent a tells = subst IsOfSearch (sym tells) tt

pub found_of_search : (j : AllJob) (x : Texts) (p : Program) (h : List Derivation) (a : Answer)
    → IsFound j x p h a → IsOfSearch a
found_of_search j x p h a found =
    told_of_search j x.program p (inputs_in p x.input) found.verdict a found.tells

module _ (j : AllJob) (x : Texts) (p : Program) where
  abbrev weights : WeightList
  weights = weights_of p x

  abbrev good : Judge
  good = judge_in j x p

  abbrev inputs : List Input
  inputs = inputs_in p x.input

  abbrev Tells : Verdict → Answer → Type 0
  Tells v a = TellsVerdict j x.program p inputs v a

  of_search : (v : Verdict) (a : Answer) → Tells v a → IsOfSearch a
  of_search v a tells = told_of_search j x.program p inputs v a tells

  abbrev IsTrue : Derivation → Verdict → Type 0
  IsTrue d v = IsVerdict weights good j.conflicts j.sets d.steps v

  -- what is told of all least sets is one, except for their runs if these are shown
  all_agree : (shows : Bool) (weight more : ℕ) (sets others : List FoundSet) (bytes other : List ℕ)
      (a b : Answer) → AreLocated weights good j.sets weight sets → AreLocated weights good j.sets more others
      → Reports shows x.program p inputs j.bounds weight sets bytes → a ≡ answer.Located bytes
      → Reports shows x.program p inputs j.bounds more others other → b ≡ answer.Located other
      → Agree shows a b
  all_agree true weight more sets others bytes other a b one two reports is says are =
      runs_differ bytes other is are refl
  all_agree false weight more sets others bytes other a b one two reports is says are = are_one (is
      ∙ ap answer.Located (report_same x.program p inputs j.bounds weight more sets others bytes other
      reports says
      (all_weigh weights good j.sets weight more sets others one two)
      (all_same weights good j.sets weight more sets others one two)) ∙ sym are)

  verdicts_agree : (d e : Derivation) (v w : Verdict) (a b : Answer) → IsTrue d v → IsTrue e w
      → Tells v a → Tells w b → Agree j.runs a b
  verdicts_agree d e Spent w a b one other is are = first_spent j.conflicts None is (of_search w b are)
  verdicts_agree d e v Spent a b one other is are = second_spent j.conflicts None are (of_search v a is)
  verdicts_agree d e NoRepair NoRepair a b one other is are = are_one (is ∙ sym are)
  verdicts_agree d e NoRepair (Located weight sets) a b one other is are =
      absurd (some_or_none weights good j.sets weight sets other one)
  verdicts_agree d e NoRepair (TooMany weight sets) a b one other is are =
      absurd (many_or_none weights good j.sets weight sets other.0 one)
  verdicts_agree d e (Located weight sets) NoRepair a b one other is are =
      absurd (some_or_none weights good j.sets weight sets one other)
  verdicts_agree d e (Located weight sets) (Located more others) a b one other is are =
      all_agree j.runs weight more sets others is.0 are.0 a b one other is.1 is.2 are.1 are.2
  verdicts_agree d e (Located weight sets) (TooMany more others) a b one other is are =
      absurd (many_or_few weights good j.sets weight more sets others one other.0)
  verdicts_agree d e (TooMany weight sets) NoRepair a b one other is are =
      absurd (many_or_none weights good j.sets weight sets one.0 other)
  verdicts_agree d e (TooMany weight sets) (Located more others) a b one other is are =
      absurd (many_or_few weights good j.sets more weight others sets other one.0)
  verdicts_agree d e (TooMany weight sets) (TooMany more others) a b one other is are = are_one (is
      ∙ ap (λ weight. answer.TooManySets weight j.sets None)
      (weight_same weights good j.sets weight more (sets_of sets) (sets_of others) one.0 other.0) ∙ sym are)

  pub found_agree : (h k : List Derivation) (a b : Answer) → IsFound j x p h a → IsFound j x p k b
      → Agree j.runs a b
  found_agree h k a b one other = verdicts_agree one.derivation other.derivation one.verdict other.verdict a b
      one.shows.is_verdict other.shows.is_verdict one.tells other.tells
