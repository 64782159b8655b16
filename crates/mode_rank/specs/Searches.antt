-- WHAT THE SEARCHES of a job hand to the sink of steps, and where they end.

use Rattle.std.specs.Prelude.{◌≡◌, ◌≢◌, ℕ, true, None, Some, Result, List, [], ◌∷◌, ◌++◌, All}
use Rattle.ba_answers.specs.declared.answers.Answer.{Answer}
use Rattle.ba_cases.specs.AtOnce.{weights_of}
use Rattle.ba_cases.specs.Searching.{Ends, HandsAll}
use Rattle.ba_cases.specs.declared.texts.Texts.{Texts}
use Rattle.ba_inputs.specs.declared.inputs.InputLine.{InputLine}
use Rattle.ba_derivations.specs.declared.verdict.Verdict.{Verdict}
use Rattle.ba_derivations.specs.Handing.{Derivation, Hands}
use Rattle.ba_localise.specs.Verdicts.{LeavesDerivation}
use Rattle.ba_search.specs.declared.search.SearchError.{SearchError}
use Rattle.ba_steps.specs.Sinks.{Rose, Told}
use Rattle.ba_tree.specs.Least.{AreWeightsOf}
use Rattle.ba_tree.specs.Run.{fits, plain_run}
use Rattle.ba_tree.specs.declared.run.Outcome.TheVariants as outcome
use Rattle.ba_tree.specs.declared.tree.Program.{Program}
use Rattle.ba_tree_laws.specs.Spelling.{Spells}
use Rattle.mode_rank.specs.Answers.{AreListed, IsAnswer, IsListed, IsStoppedAt, Listed, ShowsAt, derivations_of, judge_at, lists_of, stop_answer}
use Rattle.ba_cases.specs.Inputs.{inputs_of}
use Rattle.mode_rank.specs.Inputs.{rank_answer}
use Rattle.mode_rank.specs.Jobs.{MayBeDone}
use Rattle.mode_rank.specs.declared.jobs.RankJob.{RankJob}
use Rattle.mode_rank.specs.declared.runs.Runs.{Runs}
use Rattle.mode_rank.specs.declared.searches.Found.{Found}
use Rattle.mode_rank.specs.declared.searches.Found.TheVariants as single
use Rattle.mode_rank.specs.declared.searches.Searched.{Searched}
use Rattle.mode_rank.specs.declared.searches.Searched.TheVariants as searched

-- THE FIRST INPUTS HAVE THEIR LISTS, whose derivations were handed on, in order
pub record HasListed (j : RankJob) (x : Texts) (p : Program) (inputs : List InputLine)
    (found : List (List (List ℕ))) (t u : Told) : Type 0
  where
    pub lists : List Listed
    pub listed : AreListed j x p inputs lists
    pub found_are : found ≡ lists_of lists
    pub hands : HandsAll (derivations_of lists) t u

-- THE SEARCH OVER ONE INPUT finds its list, whose derivation was handed on; or the answer of a verdict
-- without a list
pub record FindsList (j : RankJob) (x : Texts) (p : Program) (entry : InputLine) (sets : List (List ℕ))
    (t u : Told) : Type 0
  where
    pub derivation : Derivation
    pub listed : IsListed j x p entry (record { sets = sets; derivation = derivation })
    pub hands : Hands derivation t u

-- the search of one input handed on a derivation whose verdict stops the ranking with this answer
pub record FindsNone (j : RankJob) (x : Texts) (p : Program) (entry : InputLine) (a : Answer) (t u : Told) :
    Type 0
  where
    pub derivation : Derivation
    pub verdict : Verdict
    pub shows : ShowsAt j x p entry derivation verdict
    pub tells : stop_answer j entry.line verdict ≡ Some a
    pub hands : Hands derivation t u

-- the search of one input found a list, or an answer without one
abbrev pub Finds : RankJob → Texts → Program → InputLine → Told → Told → Found → Type 0
Finds j x p entry t u (single.Sets sets) = FindsList j x p entry sets t u
Finds j x p entry t u (single.Stopped a) = FindsNone j x p entry a t u

-- what the search of one input leaves after an error
abbrev pub PartLeaves : RankJob → Texts → Program → InputLine → Told → Told → Type 0
PartLeaves j x p entry = LeavesDerivation (weights_of p x) (judge_at j p entry) j.conflicts j.sets

-- how the search of one input ends
abbrev pub OneEnds : RankJob → Texts → Program → InputLine → Told → Told → Result Found SearchError → Type 0
OneEnds j x p entry t u =
    Ends (Finds j x p entry t u) (PartLeaves j x p entry t u) (Rose t.faults u.faults) t u

-- THE SEARCHES OVER ALL INPUTS find their lists, or an answer after the lists of those before
abbrev pub ComesTo : RankJob → Texts → Program → Told → Told → Searched → Type 0
ComesTo j x p t u (searched.Lists found) = HasListed j x p (inputs_of p x.input) found t u
ComesTo j x p t u (searched.Stopped a) =
    (handed : List Derivation) × IsStoppedAt j x p handed a × HandsAll handed t u

-- WHAT IS LEFT, wherever they stop: the derivations of the first inputs; and maybe what the search over the
-- next one leaves
pub data LeavesLists (j : RankJob) (x : Texts) (p : Program) (t u : Told) : Type 0 where
  between : (before others : List InputLine) (found : List (List (List ℕ))) →
      inputs_of p x.input ≡ before ++ others → HasListed j x p before found t u → LeavesLists j x p t u
  within : (before : List InputLine) (entry : InputLine) (others : List InputLine)
      (found : List (List (List ℕ))) (mid : Told) → inputs_of p x.input ≡ before ++ entry ∷ others →
      HasListed j x p before found t mid → PartLeaves j x p entry mid u → LeavesLists j x p t u

-- how all searches end
abbrev pub AllEnd : RankJob → Texts → Program → Told → Told → Result Searched SearchError → Type 0
AllEnd j x p t u = Ends (ComesTo j x p t u) (LeavesLists j x p t u) (Rose t.faults u.faults) t u

-- A JOB STOPS whose files have these texts: nothing was handed on; or in a search
pub data Stops (j : RankJob) (x : Texts) (t u : Told) : Type 0 where
  at_once : HandsAll [] t u → Stops j x t u
  in_search : (p : Program) → Spells x.program p → rank_answer j.bounds x p ≡ None → LeavesLists j x p t u →
      Stops j x t u

-- an answer of the texts, whose derivations were handed to the sink of steps
pub record Concludes (j : RankJob) (x : Texts) (t u : Told) (a : Answer) : Type 0 where
  pub handed : List Derivation
  pub is : IsAnswer j x handed a
  pub hands : HandsAll handed t u

-- the end of a job
abbrev pub TextsEnd : RankJob → Texts → Told → Told → Result Answer SearchError → Type 0
TextsEnd j x t u = Ends (Concludes j x t u) (Stops j x t u) (Rose t.faults u.faults) t u

-- WHAT IS ASKED OF RUNS whose sets are searched for: their inputs fit, and each of them fails
pub record MayBeSearched (j : RankJob) (c : Runs) : Type 0 where
  pub job : MayBeDone j
  pub fit : All (λ (entry : InputLine). fits c.program entry.input ≡ true) c.inputs
  pub weighed : AreWeightsOf c.program c.weights.of
  pub failing : All (λ (entry : InputLine). plain_run c.program entry.input j.bounds ≢ outcome.Done) c.inputs
