-- Two verdicts on the runs of one program agree, and so do the answers that tell them.

use Rattle.std.proofs.Common.{◌≡◌, ℕ, Bool, true, false, None, List, map, refl, sym, ap, subst, ◌∙◌}
use Rattle.ba_answers.specs.declared.answers.Answer.{Answer}
use Rattle.ba_answers.specs.declared.answers.Answer.TheVariants as answer
use Rattle.ba_cases.specs.AtOnce.{weights_of}
use Rattle.ba_cases.specs.Searching.{Agree, IsOfSearch, are_one, first_spent, runs_differ, second_spent}
use Rattle.ba_cases.specs.declared.texts.Texts.{Texts}
use Rattle.ba_derivations.specs.Derivations.{sets_of}
use Rattle.ba_derivations.specs.Handing.{Derivation}
use Rattle.ba_derivations.specs.declared.verdict.Verdict.{Verdict}
use Rattle.ba_derivations.specs.declared.verdict.Verdict.TheVariants.{Located, NoRepair, TooMany, Spent}
use Rattle.ba_localise.specs.Places.{AreLocatedPlaces, FoundPlaces, IsPlaceVerdict, found_at}
use Rattle.ba_places.specs.Least.{JudgeOfPlaces}
use Rattle.ba_places.specs.Numbers.{places_at}
use Rattle.ba_tree.specs.Least.{WeightList}
use Rattle.ba_tree.specs.declared.run.Place.{Place}
use Rattle.ba_tree.specs.declared.tree.Program.{Program}
use Rattle.mode_places.specs.Answers.{IsFound, judge_in, verdict_answer}
use Rattle.mode_places.specs.Report.{place_report_text}
use Rattle.mode_places.specs.declared.jobs.PlacesJob.{PlacesJob}
use Rattle.mode_places.proofs.OneVerdict.{all_have, all_same, many_have, many_or_few, many_or_none, some_or_none}
use Rattle.mode_places.proofs.Reports.{report_same}

-- the answer of a verdict is of a search
verdict_of_search : (j : PlacesJob) (source : List ℕ) (p : Program) (places : List Place) (v : Verdict) →
    IsOfSearch (verdict_answer j source p places v)
verdict_of_search j source p places (Located members sets) = tt
verdict_of_search j source p places NoRepair = tt
verdict_of_search j source p places (TooMany members sets) = tt
verdict_of_search j source p places Spent = tt

pub found_of_search : (j : PlacesJob) (x : Texts) (p : Program) (h : List Derivation) (a : Answer) →
    IsFound j x p h a → IsOfSearch a
found_of_search j x p h a found =
    subst IsOfSearch (sym found.tells) (verdict_of_search j x.program p found.places found.verdict)

module _ (j : PlacesJob) (x : Texts) (p : Program) where
  abbrev weights : WeightList
  weights = weights_of p x

  abbrev good : JudgeOfPlaces
  good = judge_in j x p

  abbrev IsTrue : List Place → Verdict → Type 0
  IsTrue places v = IsPlaceVerdict weights good j.sets places v

  abbrev Tells : List Place → Verdict → Answer → Type 0
  Tells places v a = a ≡ verdict_answer j x.program p places v

  of_search : (places : List Place) (v : Verdict) (a : Answer) → Tells places v a → IsOfSearch a
  of_search places v a is = subst IsOfSearch (sym is) (verdict_of_search j x.program p places v)

  -- what is told of all least sets is one, but for their runs where these are shown
  all_agree : (runs : Bool) (members more : ℕ) (sets others : List FoundPlaces) (a b : Answer) →
      AreLocatedPlaces weights good j.sets members sets → AreLocatedPlaces weights good j.sets more others →
      a ≡ answer.Located (place_report_text x.program p runs members sets) →
      b ≡ answer.Located (place_report_text x.program p runs more others) → Agree runs a b
  all_agree true members more sets others a b one other is are =
      runs_differ (place_report_text x.program p true members sets)
      (place_report_text x.program p true more others) is are refl
  all_agree false members more sets others a b one other is are = are_one (is
      ∙ ap (λ members. answer.Located (place_report_text x.program p false members sets))
      (all_have weights good j.sets members more sets others one other)
      ∙ ap answer.Located (report_same x.program p more sets others
      (all_same weights good j.sets members more sets others one other)) ∙ sym are)

  verdicts_agree : (places others : List Place) (v w : Verdict) (a b : Answer) → IsTrue places v →
      IsTrue others w → Tells places v a → Tells others w b → Agree j.runs a b
  verdicts_agree places others Spent w a b one other is are =
      first_spent j.conflicts None is (of_search others w b are)
  verdicts_agree places others v Spent a b one other is are =
      second_spent j.conflicts None are (of_search places v a is)
  verdicts_agree places others NoRepair NoRepair a b one other is are = are_one (is ∙ sym are)
  verdicts_agree places others NoRepair (Located members sets) a b one other is are =
      absurd (some_or_none weights good j.sets members (map (found_at others) sets) other one)
  verdicts_agree places others NoRepair (TooMany members sets) a b one other is are =
      absurd (many_or_none weights good j.sets members (map (places_at others) (sets_of sets)) other one)
  verdicts_agree places others (Located members sets) NoRepair a b one other is are =
      absurd (some_or_none weights good j.sets members (map (found_at places) sets) one other)
  verdicts_agree places others (Located members sets) (Located more found) a b one other is are =
      all_agree j.runs members more (map (found_at places) sets) (map (found_at others) found) a b one other
      is
      are
  verdicts_agree places others (Located members sets) (TooMany more found) a b one other is are =
      absurd (many_or_few weights good j.sets members more (map (found_at places) sets)
      (map (places_at others) (sets_of found)) one other)
  verdicts_agree places others (TooMany members sets) NoRepair a b one other is are =
      absurd (many_or_none weights good j.sets members (map (places_at places) (sets_of sets)) one other)
  verdicts_agree places others (TooMany members sets) (Located more found) a b one other is are =
      absurd (many_or_few weights good j.sets more members (map (found_at others) found)
      (map (places_at places) (sets_of sets)) other one)
  verdicts_agree places others (TooMany members sets) (TooMany more found) a b one other is are = are_one (is
      ∙ ap (λ members. answer.TooManySets members j.sets None)
      (many_have weights good j.sets members more (map (places_at places) (sets_of sets))
      (map (places_at others) (sets_of found)) one other) ∙ sym are)

  pub found_agree : (h k : List Derivation) (a b : Answer) → IsFound j x p h a → IsFound j x p k b →
      Agree j.runs a b
  found_agree h k a b one other = verdicts_agree one.places other.places one.verdict other.verdict a b
      one.is_verdict other.is_verdict one.tells other.tells
