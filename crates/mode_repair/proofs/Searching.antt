-- What a search comes to, from what it finds and leaves.

use Rattle.std.proofs.Common.{◌≡◌, ◌≢◌, Option, None, Some, List, [], ◌∷◌, refl, sym, subst}
use Rattle.ba_answers.specs.declared.answers.Answer.{Answer}
use Rattle.ba_cases.specs.AtOnce.{IsAtOnce, first_answer, size_refusal, unfailing, weights_refusal}
use Rattle.ba_cases.proofs.SeveralInputs.{last_none}
use Rattle.ba_cases.specs.Searching.{at_once, by_search}
use Rattle.ba_choices.specs.Judges.{Judge}
use Rattle.ba_derivations.specs.declared.verdict.Verdict.{Verdict}
use Rattle.ba_localise.specs.Verdicts.{Finds, LeavesDerivation}
use Rattle.ba_steps.specs.Sinks.{Told}
use Rattle.ba_tree.specs.Least.{WeightList, judge_of}
use Rattle.ba_tree.specs.Run.{plain_run}
use Rattle.ba_tree.specs.declared.run.Input.{Input}
use Rattle.ba_tree.specs.declared.run.Outcome.{Outcome}
use Rattle.ba_tree.specs.declared.run.Outcome.TheVariants as outcome
use Rattle.ba_tree.specs.declared.tree.Program.{Program}
use Rattle.mode_repair.specs.Answers.{TellsVerdict, judge_in}
use Rattle.mode_repair.specs.Cases.{IsCaseOf, failing_input, inputs_answer, passing_ends, passing_inputs, repair_answer, runs_answer, weights_of}
use Rattle.mode_repair.specs.Searches.{Concludes, Stops, in_search}
use Rattle.mode_repair.specs.declared.cases.RepairCase.{RepairCase}
use Rattle.mode_repair.specs.declared.jobs.RepairJob.{RepairJob}
use Rattle.mode_repair.specs.declared.texts.RepairTexts.{RepairTexts}

-- an answer at once
pub answered_at_once : (j : RepairJob) (x : RepairTexts) (t : Told) (a : Answer)
    → IsAtOnce x.program (repair_answer j.bounds x) a → Concludes j x t t a
answered_at_once j x t a is = record { handed = []; is = at_once is refl; hands = (refl, refl) }

-- without a first answer, there is none
none_first : (a : Option Answer) (others : List (Option Answer)) → first_answer (a ∷ others) ≡ None
    → (a ≡ None) × (first_answer others ≡ None)
none_first None others e = (refl, e)
none_first (Some a) others e = absurd (let no : ⊥ = cc in no)

not_done : (p : Program) (end : Outcome) → unfailing p None end ≡ None → end ≢ outcome.Done
not_done p end none is =
    let told = subst (λ (o : Outcome). unfailing p None o ≡ None) is none in let no : ⊥ = cc in no

module _ (j : RepairJob) (x : RepairTexts) (c : RepairCase) (case_is : IsCaseOf j.bounds x c) where
  -- what holds of the weights and the judge of a case holds of those of its texts
  of_texts : (holds : WeightList → Judge → Type 0)
      → holds c.weights.of (judge_of c.program c.failing j.bounds)
      → holds (weights_of c.program x) (judge_in j x c.program)
  of_texts holds is = subst (λ (weights : WeightList). holds weights (judge_in j x c.program)) case_is.weights
      (subst (λ (i : Input). holds c.weights.of (judge_of c.program i j.bounds)) case_is.failing is)

  -- a derivation was handed on that shows a verdict, and the answer tells it
  pub concluded : (t u : Told) (v : Verdict) (a : Answer)
      → Finds c.weights.of (judge_of c.program c.failing j.bounds) j.conflicts j.sets t u v
      → TellsVerdict j x c.program v a → Concludes j x t u a
  concluded t u v a finds tells =
      let by = of_texts (λ weights good. Finds weights good j.conflicts j.sets t u v) finds in
      record {
        handed = by.derivation ∷ [];
        is = by_search c.program case_is.spells case_is.undecided (record {
          derivation = by.derivation;
          handed_is = refl;
          verdict = v;
          shows = by.shows;
          tells = tells;
        });
        hands = (u, by.hands, (refl, refl));
      }

  -- what is left where it stops
  pub stopped : (t u : Told)
      → LeavesDerivation c.weights.of (judge_of c.program c.failing j.bounds) j.conflicts j.sets t u
      → Stops j x t u
  stopped t u left = in_search c.program case_is.spells case_is.undecided
      (of_texts (λ weights good. LeavesDerivation weights good j.conflicts j.sets t u) left)

  -- the run on the failing input isn't done
  pub run_fails : plain_run c.program c.failing j.bounds ≢ outcome.Done
  run_fails =
      let runs = last_none (inputs_answer x c.program) (weights_refusal x.weights)
      (size_refusal c.program j.bounds) (runs_answer j.bounds x c.program) case_is.undecided in
      let failing = none_first (unfailing c.program None
      (plain_run c.program (failing_input x c.program) j.bounds))
      (passing_ends j.bounds c.program (passing_inputs x c.program) ∷ []) runs in
      subst (λ (i : Input). plain_run c.program i j.bounds ≢ outcome.Done) (sym case_is.failing)
      (not_done c.program (plain_run c.program (failing_input x c.program) j.bounds) failing.0)
