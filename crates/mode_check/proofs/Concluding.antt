-- How a check ends, by the formula that was made.

use Rattle.std.proofs.Common.{◌≡◌, inl, inr, ◌∙◌, None, List, [], ◌∷◌, Result, Ok, Err, refl, sym, ap, subst, arith}
use Rattle.std.specs.Result.{IsErrAnd}
use Rattle.ba_answers.specs.declared.answers.Answer.{Answer}
use Rattle.ba_all.specs.AllRuns.{judge_of_all}
use Rattle.ba_cases.specs.AllCases.{IsCaseOfAll}
use Rattle.ba_cases.specs.AtOnce.{IsAnswered, IsStopped, weights_of}
use Rattle.ba_cases.specs.Cases.{IsCaseOf}
use Rattle.ba_cases.specs.declared.all_cases.CaseOfAll.{CaseOfAll}
use Rattle.ba_cases.specs.declared.cases.Case.{Case}
use Rattle.ba_cases.specs.declared.stop.Stop.{Stop}
use Rattle.ba_cases.specs.declared.stop.Stop.TheVariants as stop
use Rattle.ba_cases.specs.declared.texts.Texts.{Texts}
use Rattle.ba_check.specs.Answers.{problem_by}
use Rattle.ba_choices.specs.Judges.{Judge}
use Rattle.ba_check.specs.declared.settings.Settings.{Settings}
use Rattle.ba_derivations.specs.Derivations.{Problem}
use Rattle.ba_derivations.specs.Encodings.{IsFaithful}
use Rattle.ba_derivations.specs.Handing.{Derivation, problem_of}
use Rattle.ba_encode.specs.Softs.{softs_of}
use Rattle.ba_encode.specs.declared.encoded.Encoded.{Encoded}
use Rattle.ba_formula.specs.AllFormulas.{IsFormulaOfAll}
use Rattle.ba_formula.specs.Formulas.{IsFormulaOf}
use Rattle.ba_lits.specs.Formulas.{Cnf}
use Rattle.ba_lits.specs.Satisfaction.{Soft}
use Rattle.ba_search.specs.Iterations.{error_of_sink}
use Rattle.ba_search.specs.declared.search.SearchError.{SearchError}
use Rattle.ba_search.specs.declared.search.SearchError.TheVariants as error
use Rattle.ba_steps.specs.Sinks.{HasFault, MayAdd, Outlasts, Told, basis, with_told}
use Rattle.ba_steps.specs.declared.sink.SinkError.{SinkError}
use Rattle.ba_steps.specs.declared.sink.SinkError.TheVariants as refusal
use Rattle.ba_tree.specs.Least.{WeightList, judge_of}
use Rattle.ba_tree.specs.declared.run.Bounds.{Bounds}
use Rattle.ba_tree.specs.declared.run.Input.{Input}
use Rattle.ba_tree.specs.declared.tree.Program.{Program}
use Rattle.ba_tree_laws.specs.Spelling.{Spells}
use Rattle.ba_world.specs.World.{OnlyReads, Outside}
use Rattle.mode_check.specs.Certificates.{CertificateComesTo, Checking}
use Rattle.mode_check.specs.Checks.{ChecksOver, Concludes, FormulaEnds, MayHandFormula, Stops, StopsOver, Subject, TextsEnd, all_runs, one_run}
use Rattle.mode_check.specs.Checks as checks
use Rattle.mode_check.specs.Jobs.{head_by}
use Rattle.mode_check.specs.declared.jobs.CheckJob.{CheckJob}

abbrev pub settings_of : CheckJob → Settings
settings_of j = record { bounds = j.bounds; conflicts = j.conflicts; sets = j.sets }

-- the formula that was handed on, and no step
abbrev handed_of : Cnf → List Soft → Derivation
handed_of formula softs = record { begun = basis formula softs; steps = [] }

-- what is checked over an encoding
abbrev pub checking_over : CheckJob → WeightList → Judge → Encoded → Checking
checking_over j weights good encoded = record {
  name = j.cert;
  head = head_by j;
  problem = problem_by good (settings_of j) encoded;
  weights = weights;
}

-- the formula of a case encodes its runs faithfully, by the weights of its texts
pub faithful_case : (j : CheckJob) (x : Texts) (c : Case) → IsCaseOf j.bounds x c → (encoded : Encoded) →
    IsFormulaOf c.program c.input j.bounds c.weights.of encoded →
    IsFaithful encoded.formula (softs_of encoded.groups) (weights_of c.program x)
    ((one_run j).judge x c.program)
faithful_case j x c is encoded f =
    subst (λ (weights : WeightList). IsFaithful encoded.formula (softs_of encoded.groups) weights
    ((one_run j).judge x c.program)) is.weights
    (subst (λ (i : Input). IsFaithful encoded.formula (softs_of encoded.groups) c.weights.of
    (judge_of c.program i j.bounds)) is.input f.faithful)

-- and that of several inputs
pub faithful_cases : (j : CheckJob) (x : Texts) (c : CaseOfAll) → IsCaseOfAll j.bounds x c →
    (inputs : List Input) → inputs ≡ c.inputs → (encoded : Encoded) →
    IsFormulaOfAll c.program inputs j.bounds c.weights.of encoded →
    IsFaithful encoded.formula (softs_of encoded.groups) (weights_of c.program x)
    ((all_runs j).judge x c.program)
faithful_cases j x c is inputs same encoded f =
    subst (λ (weights : WeightList). IsFaithful encoded.formula (softs_of encoded.groups) weights
    ((all_runs j).judge x c.program)) is.weights
    (subst (λ (inputs : List Input). IsFaithful encoded.formula (softs_of encoded.groups) c.weights.of
    (judge_of_all c.program inputs j.bounds)) (same ∙ is.inputs) f.faithful)

-- judges of the same program, inputs and bounds are one
pub same-judge_of_all : (p q : Program) (inputs others : List Input) (b d : Bounds) → p ≡ q → inputs ≡ others
    →
    b ≡ d → judge_of_all p inputs b ≡ judge_of_all q others d
same-judge_of_all p q inputs others b d programs same bounds =
    ap (λ (p : Program). judge_of_all p inputs b) programs
    ∙ ap (λ (inputs : List Input). judge_of_all q inputs b) same ∙ ap (judge_of_all q others) bounds

pub only_same : (o : Outside) → OnlyReads o o
only_same o = record {
  no_fall = omega arith;
  held = refl;
  kept = refl;
  writing = refl;
  printed = refl;
  is_writing = refl;
  write_faults = refl;
  print_shortages = refl;
}

pub outlasts_same : (t : Told) → Outlasts t t
outlasts_same t = record { no_fall = omega arith; same_references = refl }

-- WHERE NOTHING WAS HANDED ON, and no more was read

-- by an answer, or if memory runs out
pub stopped_ends : (s : Subject) (j : CheckJob) (x : Texts) (o : Outside) (t : Told) (why : Stop)
    (result : Result Answer SearchError) → IsStopped x.program (s.answer_at_once x) why →
    IsAnswered why result → TextsEnd s j x o o t t result
stopped_ends s j x o t (stop.Answered a) result is told =
    subst (λ (result : Result Answer SearchError). TextsEnd s j x o o t t result) (sym told) (record {
      answer = record { handed = []; is = checks.IsAnswer.at_once is refl refl; hands = (refl, refl) };
      left = checks.Stops.at_once refl (refl, refl);
      cause = λ failed. let no : ⊥ = cc in absurd no;
      outlasts = outlasts_same t;
    })
stopped_ends s j x o t stop.Memory result is told =
    subst (λ (result : Result Answer SearchError). TextsEnd s j x o o t t result) (sym told) (record {
      answer = tt;
      left = checks.Stops.at_once refl (refl, refl);
      cause = λ failed. let no : ⊥ = cc in absurd no;
      outlasts = outlasts_same t;
    })

-- OVER A FORMULA of these weights and this judge
module _ (j : CheckJob) (weights : WeightList) (good : Judge) where
  -- want of memory, and a refusal of the sink
  module _ (before after : Outside) (t u : Told) (left : StopsOver weights good before after t u)
      (outlasts : Outlasts t u) where
    pub memory_ends : (result : Result Answer SearchError) → IsErrAnd result (λ e. e ≡ error.Memory) →
        FormulaEnds j weights good before after t u result
    memory_ends (Ok a) is = absurd is
    memory_ends (Err e) is = record {
      answer = tt;
      left = left;
      cause = λ failed. let no : ⊥ = cc in absurd no;
      outlasts = outlasts;
    }

    pub refusal_ends : (result : Result Answer SearchError) (why : SinkError) (r : Result Unit SinkError) →
        IsErrAnd result (λ e. e ≡ error_of_sink why) → r ≡ Err why →
        (r ≡ Err refusal.Failed → HasFault t u) → FormulaEnds j weights good before after t u result
    refusal_ends (Ok a) why r is was cause = absurd is
    refusal_ends (Err e) refusal.Failed r is was cause = record {
      answer = tt;
      left = left;
      cause = λ failed. cause was;
      outlasts = outlasts;
    }
    refusal_ends (Err e) refusal.Memory r is was cause = memory_ends (Err e) is

  -- before the formula was handed on
  pub stops_before : (o : Outside) (t : Told) → StopsOver weights good o o t t
  stops_before o t = record { reads = only_same o; formula = inl refl; logs = refl }

  -- where it may have been handed on
  module _ (encoded : Encoded) (formula : Cnf) (softs : List Soft) (formula_is : formula ≡ encoded.formula)
      (softs_are : softs ≡ softs_of encoded.groups)
      (faithful : IsFaithful encoded.formula (softs_of encoded.groups) weights good) where
    problem_same : problem_by good (settings_of j) encoded
        ≡ problem_of (handed_of formula softs) good j.conflicts j.sets
    problem_same =
        ap (λ (formula : Cnf). problem_of (handed_of formula (softs_of encoded.groups)) good j.conflicts
        j.sets)
        (sym formula_is)
        ∙ ap (λ (softs : List Soft). problem_of (handed_of formula softs) good j.conflicts j.sets)
        (sym softs_are)

    faithful_too : IsFaithful formula softs weights good
    faithful_too =
        subst (λ (formula : Cnf). IsFaithful formula softs weights good) (sym formula_is)
        (subst (λ (softs : List Soft). IsFaithful encoded.formula softs weights good) (sym softs_are)
        faithful)

    module _ (before after : Outside) (t u : Told) (logs : u.logs ≡ t.logs) where
      -- the sink may tell the formula, and no step
      pub stops_check : OnlyReads before after → MayAdd (basis formula softs) t.over u.over →
          StopsOver weights good before after t u
      stops_check only may = record { reads = only; formula = by may; logs = logs } where
        by : MayAdd (basis formula softs) t.over u.over → MayHandFormula weights good t u
        by (inl same) = inl same
        by (inr told) = inr (basis formula softs, faithful_too, told)

      -- the certificate comes to the answer
      pub check_ends : OnlyReads before after → Outlasts t u → (a : Answer) →
          u.over ≡ with_told (basis formula softs) t.over →
          CertificateComesTo (checking_over j weights good encoded) a before after →
          FormulaEnds j weights good before after t u (Ok a)
      check_ends only outlasts a over comes = record {
        answer = record {
          handed = handed_of formula softs ∷ [];
          is = record {
            over = handed_of formula softs;
            handed_is = refl;
            no_step = refl;
            faithful = faithful_too;
            comes = subst (λ (p : Problem). CertificateComesTo
                (record { name = j.cert; head = head_by j; problem = p; weights = weights }) a before after)
                problem_same comes;
          };
          hands = (u, record { over = over; logs = logs }, (refl, refl));
        };
        left = stops_check only (inr over);
        cause = λ failed. let no : ⊥ = cc in absurd no;
        outlasts = outlasts;
      }

-- FROM A FORMULA TO TEXTS whose program has no answer at once
module _ (s : Subject) (j : CheckJob) (x : Texts) (p : Program) (spells : Spells x.program p)
    (undecided : s.answer_at_once x p ≡ None) (before after : Outside) (t u : Told) where
  over_ends : (result : Result Answer SearchError) →
      FormulaEnds j (weights_of p x) (s.judge x p) before after t u result →
      TextsEnd s j x before after t u result
  over_ends (Ok a) ends = record {
    answer = record {
      handed = ends.answer.handed;
      is = checks.by_certificate p spells undecided ends.answer.is;
      hands = ends.answer.hands;
    };
    left = checks.in_check p spells undecided ends.left.reads ends.left.formula ends.left.logs;
    cause = ends.cause;
    outlasts = ends.outlasts;
  }
  over_ends (Err e) ends = record {
    answer = tt;
    left = checks.in_check p spells undecided ends.left.reads ends.left.formula ends.left.logs;
    cause = ends.cause;
    outlasts = ends.outlasts;
  }

  -- by a judge that is this one
  pub judged_ends : (good : Judge) (result : Result Answer SearchError) → good ≡ s.judge x p →
      FormulaEnds j (weights_of p x) good before after t u result → TextsEnd s j x before after t u result
  judged_ends good result same ends = over_ends result
      (subst (λ (good : Judge). FormulaEnds j (weights_of p x) good before after t u result) same ends)

-- WANT OF MEMORY before any formula
pub no_memory_ends : (s : Subject) (j : CheckJob) (x : Texts) (o : Outside) (t : Told)
    (result : Result Answer SearchError) → IsErrAnd result (λ e. e ≡ error.Memory) →
    TextsEnd s j x o o t t result
no_memory_ends s j x o t (Ok a) is = absurd is
no_memory_ends s j x o t (Err e) is = record {
  answer = tt;
  left = checks.Stops.at_once refl (refl, refl);
  cause = λ failed. let no : ⊥ = cc in absurd no;
  outlasts = outlasts_same t;
}
