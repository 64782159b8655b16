-- What a search comes to, from what it finds and leaves.

use Rattle.std.proofs.Common.{◌≡◌, ◌≢◌, ℕ, zero, Result, Option, None, Some, List, [], ◌∷◌, refl, sym, ap, subst, ◌∙◌, arith}
use Rattle.std.proofs.lemmas.List.Elements.{All-get_or}
use Rattle.std.specs.Prelude.{All, Contains}
use Rattle.ba_all.specs.AllRuns.{judge_of_all}
use Rattle.ba_answers.specs.declared.answers.Answer.{Answer}
use Rattle.ba_cases.specs.AllCases.{IsCaseOfAll, all_answer, inputs_in}
use Rattle.ba_cases.specs.AtOnce.{IsAtOnce, weights_of}
use Rattle.ba_cases.specs.Searching.{at_once, by_search}
use Rattle.ba_cases.specs.declared.all_cases.CaseOfAll.{CaseOfAll}
use Rattle.ba_cases.specs.declared.texts.Texts.{Texts}
use Rattle.ba_cert.specs.declared.head.CertHead.{CertHead}
use Rattle.ba_certified.specs.Certifying.{Certifies, FindsCertified}
use Rattle.ba_certified.specs.Leaving.{SearchEnds}
use Rattle.ba_choices.specs.Judges.{Judge}
use Rattle.ba_commands.specs.Modes.{Word}
use Rattle.ba_derivations.specs.declared.verdict.Verdict.{Verdict}
use Rattle.ba_derivations.specs.declared.verdict.Verdict.TheVariants.{Located, NoRepair, TooMany, Spent}
use Rattle.ba_encode.specs.declared.encoded.Encoded.{Encoded}
use Rattle.ba_enum.specs.Problems.{IsReadable}
use Rattle.ba_formula.specs.AllFormulas.{IsFormulaOfAll}
use Rattle.ba_localise.specs.Starting.{IsEncodedBy}
use Rattle.ba_localise.specs.Verdicts.{IsVerdict}
use Rattle.ba_search.specs.declared.search.SearchError.{SearchError}
use Rattle.ba_steps.specs.Sinks.{Told}
use Rattle.ba_steps.specs.declared.step.CertStep.{CertStep}
use Rattle.ba_tree.specs.Least.{WeightList}
use Rattle.ba_tree.specs.Run.{plain_run}
use Rattle.ba_tree.specs.declared.run.Bounds.{Bounds}
use Rattle.ba_tree.specs.declared.run.Input.{Input}
use Rattle.ba_tree.specs.declared.run.Outcome.TheVariants as outcome
use Rattle.ba_tree.specs.declared.tree.Program.{Program}
use Rattle.ba_world.specs.World.{Outside}
use Rattle.mode_all.specs.Answers.{AreGoodIn, TellsVerdict, judge_in}
use Rattle.mode_all.specs.Jobs.{head_by}
use Rattle.mode_all.specs.Searches.{Concludes, SearchLeaves, Stops, in_search}
use Rattle.mode_all.specs.declared.jobs.AllJob.{AllJob}

-- JUDGES of the same runs
pub same_judge : (p q : Program) (is ks : List Input) (b d : Bounds) → p ≡ q → is ≡ ks → b ≡ d
    → judge_of_all p is b ≡ judge_of_all q ks d
same_judge p q is ks b d is_p is_i is_b =
    ap (λ p. judge_of_all p is b) is_p ∙ ap (λ is. judge_of_all q is b) is_i ∙ ap (judge_of_all q ks) is_b

-- THE FIRST RUN of a case fails

pub record Fails (p : Program) (b : Bounds) (inputs : List Input) : Type 0 where
  pub input : Input
  pub among : Contains inputs input
  pub failing : plain_run p input b ≢ outcome.Done

first_fails : (p : Program) (b : Bounds) (inputs : List Input) → inputs ≢ []
    → All (λ (input : Input). plain_run p input b ≢ outcome.Done) inputs → Fails p b inputs
first_fails p b [] some failing = absurd (some refl)
first_fails p b (i ∷ inputs) some failing = record {
  input = i;
  among = (zero, omega arith, refl);
  failing = All-get_or (λ (input : Input). plain_run p input b ≢ outcome.Done) (i ∷ inputs) zero i
      (omega arith) failing;
}

-- THE RUNS of sets that a true verdict lists are good
pub good_in : (weights : WeightList) (good : Judge) (conflicts most : ℕ) (steps : List CertStep)
    (v : Verdict) → IsVerdict weights good conflicts most steps v → AreGoodIn good v
good_in weights good conflicts most steps (Located weight sets) is = is.runs
good_in weights good conflicts most steps NoRepair is = tt
good_in weights good conflicts most steps (TooMany weight sets) is = tt
good_in weights good conflicts most steps Spent is = tt

-- an answer at once
pub answered_at_once : (j : AllJob) (x : Texts) (o : Outside) (t : Told) (a : Answer)
    → IsAtOnce x.program (all_answer j.bounds x) a → Concludes j x o o t t a
answered_at_once j x o t a is = record {
  handed = [];
  is = at_once is refl;
  hands = (refl, refl);
  certifies = nothing_written j.cert;
}
  where
    nothing_written : (cert : Option Word) → Certifies (head_by j) cert [] o o
    nothing_written None = refl
    nothing_written (Some name) = refl

module _ (j : AllJob) (x : Texts) (c : CaseOfAll) (is : IsCaseOfAll j.bounds x c) where
  -- what holds of the weights and the judge of a case holds of those of its texts
  of_texts : (holds : WeightList → Judge → Type 0)
      → holds c.weights.of (judge_of_all c.program c.inputs j.bounds)
      → holds (weights_of c.program x) (judge_in j x c.program)
  of_texts holds here =
      subst (λ (weights : WeightList). holds weights (judge_in j x c.program)) is.weights
      (subst (λ (inputs : List Input). holds c.weights.of (judge_of_all c.program inputs j.bounds)) is.inputs
      here)

  module _ (e : Encoded) (inputs : List Input) (listed : inputs ≡ c.inputs)
      (formula : IsFormulaOfAll c.program inputs j.bounds c.weights.of e) (good : Judge)
      (same : good ≡ judge_of_all c.program c.inputs j.bounds) where
    made : IsFormulaOfAll c.program c.inputs j.bounds c.weights.of e
    made = subst (λ (inputs : List Input). IsFormulaOfAll c.program inputs j.bounds c.weights.of e) listed
        formula

    pub readable : IsReadable e good
    readable =
        let first = first_fails c.program j.bounds c.inputs is.some is.failing in
        subst (IsReadable e) (sym same) (record {
          some = made.some first.input first.among first.failing;
          good_run = made.runs;
        })

    -- the end of a search over its formula
    pub searched : (head : CertHead) (old new : Outside) (t u : Told) (r : Result Verdict SearchError)
        → head ≡ head_by j
        → ((weights : WeightList) → IsEncodedBy weights good e
        → SearchEnds head j.cert weights good old new t u r)
        → SearchEnds (head_by j) j.cert (weights_of c.program x) (judge_in j x c.program) old new t u r
    searched head old new t u r headed ends =
        of_texts (λ weights good. SearchEnds (head_by j) j.cert weights good old new t u r)
        (subst (λ (good : Judge). SearchEnds (head_by j) j.cert c.weights.of good old new t u r) same
        (subst (λ (head : CertHead). SearchEnds head j.cert c.weights.of good old new t u r) headed
        (ends c.weights.of
        (subst (λ (good : Judge). IsEncodedBy c.weights.of good e) (sym same) made.faithful))))

  -- the runs of the sets that were found are good
  pub found_good : (old new : Outside) (t u : Told) (v : Verdict)
      → FindsCertified (head_by j) j.cert (weights_of c.program x) (judge_in j x c.program) old new t u v
      → AreGoodIn (judge_of_all c.program c.inputs j.bounds) v
  found_good old new t u v finds =
      subst (λ (inputs : List Input). AreGoodIn (judge_of_all c.program inputs j.bounds) v) (sym is.inputs)
      (good_in (weights_of c.program x) (judge_in j x c.program) j.conflicts j.sets
      finds.derivation.steps v finds.shows.is_verdict)

  -- AN ANSWER by what is found: a derivation was handed on that shows a verdict. It was written, if a
  -- certificate is named, and the answer tells the verdict
  pub concluded : (source : List ℕ) (old new : Outside) (t u : Told) (v : Verdict) (a : Answer)
      → FindsCertified (head_by j) j.cert (weights_of c.program x) (judge_in j x c.program) old new t u v
      → source ≡ x.program → TellsVerdict j source c.program c.inputs v a → Concludes j x old new t u a
  concluded source old new t u v a finds same tells = record {
    handed = finds.derivation ∷ [];
    is = by_search c.program is.spells is.undecided (record {
      derivation = finds.derivation;
      handed_is = refl;
      verdict = v;
      shows = finds.shows;
      tells = subst (λ (source : List ℕ). TellsVerdict j source c.program (inputs_in c.program x.input) v a)
          same
          (subst (λ (inputs : List Input). TellsVerdict j source c.program inputs v a) is.inputs tells);
    });
    hands = (u, finds.hands, (refl, refl));
    certifies = finds.certifies;
  }

  -- what is left of the search
  pub stopped : (old new : Outside) (t u : Told) → SearchLeaves j x c.program old new t u
      → Stops j x old new t u
  stopped old new t u left = in_search c.program is.spells is.undecided left
