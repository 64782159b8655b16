-- Two answers of searches on one program agree.

use Rattle.std.proofs.Common.{◌≡◌, ℕ, false, None, List, sym, ap, subst, ◌∙◌}
use Rattle.ba_answers.specs.declared.answers.Answer.{Answer}
use Rattle.ba_answers.specs.declared.answers.Answer.TheVariants as answer
use Rattle.ba_cases.specs.Searching.{Agree, IsOfSearch, are_one, first_spent, second_spent}
use Rattle.ba_choices.specs.Judges.{Judge}
use Rattle.ba_derivations.specs.Derivations.{sets_of}
use Rattle.ba_derivations.specs.Handing.{Derivation}
use Rattle.ba_derivations.specs.declared.verdict.Verdict.{Verdict}
use Rattle.ba_derivations.specs.declared.verdict.Verdict.TheVariants.{Located, NoRepair, TooMany, Spent}
use Rattle.ba_localise.specs.Verdicts.{IsVerdict}
use Rattle.ba_localise.proofs.OneVerdict.{all_same, many_or_few, many_or_none, some_or_none, weight_same}
use Rattle.ba_repair.proofs.GoodEdits.{one-list}
use Rattle.ba_repair.specs.Edits.{edits_of}
use Rattle.ba_tree.specs.Least.{WeightList}
use Rattle.ba_tree.specs.Trees.{tree_of}
use Rattle.ba_tree.specs.declared.tree.Program.{Program}
use Rattle.mode_repair.specs.Answers.{IsFound, IsRepaired, TellsVerdict, judge_in, statements_in}
use Rattle.mode_repair.specs.Cases.{inputs_in, weights_of}
use Rattle.mode_repair.specs.Report.{repair_text}
use Rattle.mode_repair.specs.declared.jobs.RepairJob.{RepairJob}
use Rattle.mode_repair.specs.declared.texts.RepairTexts.{RepairTexts}

module _ (j : RepairJob) (x : RepairTexts) (p : Program) where
  of_search : (v : Verdict) (a : Answer) → TellsVerdict j x p v a → IsOfSearch a
  of_search (Located weight sets) a by = subst IsOfSearch (sym by.tells) tt
  of_search NoRepair a is = subst IsOfSearch (sym is) tt
  of_search (TooMany weight sets) a is = subst IsOfSearch (sym is) tt
  of_search Spent a is = subst IsOfSearch (sym is) tt

  pub found_of_search : (h : List Derivation) (a : Answer) → IsFound j x p h a → IsOfSearch a
  found_of_search h a found = of_search found.verdict a found.tells

  abbrev weights : WeightList
  weights = weights_of p x

  abbrev good : Judge
  good = judge_in j x p

  -- the same sets have one list of edits that pass
  repaired_same : (sets : List (List ℕ)) (a b : Answer) → IsRepaired j x p sets a → IsRepaired j x p sets b
      → a ≡ b
  repaired_same sets a b one other = one.tells
      ∙ ap (λ edits. answer.Edits (repair_text x.program p edits))
      (one-list p j.bounds (inputs_in x p) (edits_of (tree_of p) (statements_in p sets)) one.found other.found
      one.good other.good)
      ∙ sym other.tells

  verdicts_agree : (d e : Derivation) (v w : Verdict) (a b : Answer)
      → IsVerdict weights good j.conflicts j.sets d.steps v
      → IsVerdict weights good j.conflicts j.sets e.steps w
      → TellsVerdict j x p v a → TellsVerdict j x p w b → Agree false a b
  verdicts_agree d e Spent w a b one other is are = first_spent j.conflicts None is (of_search w b are)
  verdicts_agree d e v Spent a b one other is are = second_spent j.conflicts None are (of_search v a is)
  verdicts_agree d e NoRepair NoRepair a b one other is are = are_one (is ∙ sym are)
  verdicts_agree d e NoRepair (Located weight sets) a b one other is are =
      absurd (some_or_none weights good j.sets weight sets other one)
  verdicts_agree d e NoRepair (TooMany weight sets) a b one other is are =
      absurd (many_or_none weights good j.sets weight sets other.0 one)
  verdicts_agree d e (Located weight sets) NoRepair a b one other is are =
      absurd (some_or_none weights good j.sets weight sets one other)
  verdicts_agree d e (Located weight sets) (Located more others) a b one other is are =
      are_one (repaired_same (sets_of others) a b
      (subst (λ found. IsRepaired j x p found a)
      (all_same weights good j.sets weight more sets others one other) is) are)
  verdicts_agree d e (Located weight sets) (TooMany more others) a b one other is are =
      absurd (many_or_few weights good j.sets weight more sets others one other.0)
  verdicts_agree d e (TooMany weight sets) NoRepair a b one other is are =
      absurd (many_or_none weights good j.sets weight sets one.0 other)
  verdicts_agree d e (TooMany weight sets) (Located more others) a b one other is are =
      absurd (many_or_few weights good j.sets more weight others sets other one.0)
  verdicts_agree d e (TooMany weight sets) (TooMany more others) a b one other is are = are_one (is
      ∙ ap (λ weight. answer.TooManySets weight j.sets None)
      (weight_same weights good j.sets weight more (sets_of sets) (sets_of others) one.0 other.0) ∙ sym are)

  pub found_agree : (h k : List Derivation) (a b : Answer) → IsFound j x p h a → IsFound j x p k b
      → Agree false a b
  found_agree h k a b one other = verdicts_agree one.derivation other.derivation one.verdict other.verdict a b
      one.shows.is_verdict other.shows.is_verdict one.tells other.tells
