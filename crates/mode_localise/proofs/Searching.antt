-- What a search comes to, from what it finds and hands on.

use Rattle.std.proofs.Common.{◌≡◌, ◌≢◌, Result, Option, None, Some, [], ◌∷◌, refl, sym, ap, subst, ◌∙◌, List, ℕ}
use Rattle.ba_answers.specs.declared.answers.Answer.{Answer}
use Rattle.ba_answers.specs.declared.file.File.TheVariants as file
use Rattle.ba_cases.proofs.SeveralInputs.{last_none}
use Rattle.ba_cases.specs.AtOnce.{IsAtOnce, case_answer, input_refusal, run_in, size_refusal, unfailing, weights_of, weights_refusal}
use Rattle.ba_cases.specs.Cases.{IsCaseOf}
use Rattle.ba_cases.specs.Searching.{at_once, by_search}
use Rattle.ba_cases.specs.declared.cases.Case.{Case}
use Rattle.ba_cases.specs.declared.texts.Texts.{Texts}
use Rattle.ba_cert.specs.declared.head.CertHead.{CertHead}
use Rattle.ba_certified.specs.Certifying.{Certifies, FindsCertified}
use Rattle.ba_certified.specs.Leaving.{SearchEnds}
use Rattle.ba_choices.specs.Judges.{Judge}
use Rattle.ba_commands.specs.Modes.{Word}
use Rattle.ba_derivations.specs.declared.verdict.Verdict.{Verdict}
use Rattle.ba_encode.specs.declared.encoded.Encoded.{Encoded}
use Rattle.ba_enum.specs.Problems.{IsReadable}
use Rattle.ba_formula.specs.Formulas.{IsFormulaOf}
use Rattle.ba_localise.specs.Starting.{IsEncodedBy}
use Rattle.ba_search.specs.declared.search.SearchError.{SearchError}
use Rattle.ba_steps.specs.Sinks.{Told}
use Rattle.ba_tree.specs.Least.{WeightList, judge_of}
use Rattle.ba_tree.specs.Run.{plain_run}
use Rattle.ba_tree.specs.declared.run.Bounds.{Bounds}
use Rattle.ba_tree.specs.declared.run.Input.{Input}
use Rattle.ba_tree.specs.declared.run.Outcome.{Outcome}
use Rattle.ba_tree.specs.declared.run.Outcome.TheVariants as outcome
use Rattle.ba_tree.specs.declared.tree.Program.{Program}
use Rattle.ba_world.specs.World.{Outside}
use Rattle.mode_localise.specs.Answers.{judge_in, verdict_answer}
use Rattle.mode_localise.specs.Leaving.{Concludes, SearchLeaves, Stops, in_search}
use Rattle.mode_localise.specs.Jobs.{head_by}
use Rattle.mode_localise.specs.declared.jobs.LocaliseJob.{LocaliseJob}

-- A RUN that is searched fails: no answer at once says that it doesn't

not_done : (p : Program) (o : Outcome) → unfailing p None o ≡ None → o ≢ outcome.Done
not_done p o none done = let both = sym (ap (unfailing p None) done) ∙ none in cc

fails : (b : Bounds) (x : Texts) (c : Case) → IsCaseOf b x c
    → plain_run c.program c.input b ≢ outcome.Done
fails b x c is = subst (λ (i : Input). plain_run c.program i b ≢ outcome.Done) (sym is.input)
    (not_done c.program (run_in b x c.program)
    (last_none (input_refusal file.Input c.program x.input) (weights_refusal x.weights)
    (size_refusal c.program b) (unfailing c.program None (run_in b x c.program)) is.undecided))

module _ (j : LocaliseJob) (x : Texts) (c : Case) (is : IsCaseOf j.bounds x c) where
  -- what holds of the weights and the judge of a case holds of those of its texts
  of_texts : (holds : WeightList → Judge → Type 0)
      → holds c.weights.of (judge_of c.program c.input j.bounds)
      → holds (weights_of c.program x) (judge_in j x c.program)
  of_texts holds here =
      subst (λ (weights : WeightList). holds weights (judge_in j x c.program)) is.weights
      (subst (λ (i : Input). holds c.weights.of (judge_of c.program i j.bounds)) is.input here)

  module _ (e : Encoded) (formula : IsFormulaOf c.program c.input j.bounds c.weights.of e) (good : Judge)
      (same : good ≡ judge_of c.program c.input j.bounds) where
    pub readable : IsReadable e good
    readable = subst (IsReadable e) (sym same)
        (record { some = formula.some (fails j.bounds x c is); good_run = formula.runs })

    -- the end of a search over its formula
    pub searched : (head : CertHead) (old new : Outside) (t u : Told) (r : Result Verdict SearchError)
        → head ≡ head_by j
        → ((weights : WeightList) → IsEncodedBy weights good e
        → SearchEnds head j.cert weights good old new t u r)
        → SearchEnds (head_by j) j.cert (weights_of c.program x) (judge_in j x c.program) old new t u r
    searched head old new t u r headed ends =
        of_texts (λ weights good. SearchEnds (head_by j) j.cert weights good old new t u r)
        (subst (λ (good : Judge). SearchEnds (head_by j) j.cert c.weights.of good old new t u r) same
        (subst (λ (head : CertHead). SearchEnds head j.cert c.weights.of good old new t u r) headed
        (ends c.weights.of
        (subst (λ (good : Judge). IsEncodedBy c.weights.of good e) (sym same) formula.faithful))))

  -- AN ANSWER by what is found: a derivation was handed on that shows a verdict. It was written, if a
  -- certificate is named, and the answer tells the verdict
  pub concluded : (source : List ℕ) (old new : Outside) (t u : Told) (v : Verdict) (a : Answer)
      → FindsCertified (head_by j) j.cert (weights_of c.program x) (judge_in j x c.program) old new t u v
      → source ≡ x.program → a ≡ verdict_answer j source c.program v → Concludes j x j.cert old new t u a
  concluded source old new t u v a finds same tells = record {
    handed = finds.derivation ∷ [];
    is = by_search c.program is.spells is.undecided (record {
      derivation = finds.derivation;
      handed_is = refl;
      verdict = v;
      shows = finds.shows;
      tells = tells ∙ ap (λ source. verdict_answer j source c.program v) same;
    });
    hands = (u, finds.hands, (refl, refl));
    certifies = finds.certifies;
  }

  -- what is left of the search
  pub stopped : (old new : Outside) (t u : Told) → SearchLeaves j x c.program old new t u
      → Stops j x old new t u
  stopped old new t u left = in_search c.program is.spells is.undecided left

-- an answer at once
pub answered_at_once : (j : LocaliseJob) (x : Texts) (o : Outside) (t : Told) (a : Answer) →
    IsAtOnce x.program (case_answer j.bounds x) a → Concludes j x j.cert o o t t a
answered_at_once j x o t a is = record {
  handed = [];
  is = at_once is refl;
  hands = (refl, refl);
  certifies = nothing_written j.cert;
}
  where
    nothing_written : (cert : Option Word) → Certifies (head_by j) cert [] o o
    nothing_written None = refl
    nothing_written (Some name) = refl
