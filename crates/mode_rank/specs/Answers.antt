-- THE ANSWERS OF A JOB, by the texts of its files. They say nothing of a world.

use Rattle.std.specs.Prelude.{◌≡◌, ℕ, Option, None, Some, List, [], ◌∷◌, ◌++◌, map, length}
use Rattle.std.specs.List.{AllZip}
use Rattle.ba_answers.specs.declared.answers.Answer.{Answer}
use Rattle.ba_answers.specs.declared.answers.Answer.TheVariants as answer
use Rattle.ba_cases.specs.AtOnce.{weights_of}
use Rattle.ba_cases.specs.Searching.{IsAnswerOf}
use Rattle.ba_cases.specs.declared.texts.Texts.{Texts}
use Rattle.ba_choices.specs.Judges.{Judge}
use Rattle.ba_derivations.specs.Derivations.{sets_of}
use Rattle.ba_derivations.specs.declared.verdict.Verdict.{Verdict}
use Rattle.ba_derivations.specs.declared.verdict.Verdict.TheVariants.{Located, NoRepair, TooMany, Spent}
use Rattle.ba_inputs.specs.declared.inputs.InputLine.{InputLine}
use Rattle.ba_derivations.specs.Handing.{Derivation}
use Rattle.ba_localise.specs.Verdicts.{Shows}
use Rattle.ba_rank.specs.Ranking.{IsRanking}
use Rattle.ba_rank.specs.declared.ranking.Ranked.{Ranked}
use Rattle.ba_tree.specs.Least.{AreLeast, judge_of}
use Rattle.ba_tree.specs.declared.tree.Program.{Program}
use Rattle.ba_cases.specs.Inputs.{inputs_of}
use Rattle.mode_rank.specs.Inputs.{rank_answer}
use Rattle.mode_rank.specs.Report.{ranked_text}
use Rattle.mode_rank.specs.declared.jobs.RankJob.{RankJob}
use Rattle.mode_rank.specs.declared.searches.Found.{Found}
use Rattle.mode_rank.specs.declared.searches.Found.TheVariants as single

-- the judge of a program on one of the inputs
abbrev pub judge_at : RankJob → Program → InputLine → Judge
judge_at j p entry = judge_of p entry.input j.bounds

-- a derivation shows a verdict on the run on this input
abbrev pub ShowsAt : RankJob → Texts → Program → InputLine → Derivation → Verdict → Type 0
ShowsAt j x p entry = Shows (weights_of p x) (judge_at j p entry) j.conflicts j.sets

-- THE LISTS of sets that a ranking counts, each with the derivation that shows it

-- the least sets of an input, and the derivation that shows them
pub record Listed : Type 0 where
  pub sets : List (List ℕ)
  pub derivation : Derivation

-- the sets of a verdict: none if there is no repair; other verdicts have no list
abbrev pub sets_in : Verdict → Option (List (List ℕ))
sets_in (Located weight found) = Some (sets_of found)
sets_in NoRepair = Some []
sets_in (TooMany weight found) = None
sets_in Spent = None

-- these are all least sets of the run on this input, and the derivation shows it
pub record IsListed (j : RankJob) (x : Texts) (p : Program) (entry : InputLine) (l : Listed) : Type 0 where
  pub least : AreLeast (weights_of p x) (judge_at j p entry) l.sets
  pub verdict : Verdict
  pub shows : ShowsAt j x p entry l.derivation verdict
  pub sets_are : sets_in verdict ≡ Some l.sets

-- each of the inputs has its list
abbrev pub AreListed : RankJob → Texts → Program → List InputLine → List Listed → Type 0
AreListed j x p = AllZip (IsListed j x p)

-- the derivations of lists, in order
abbrev pub derivations_of : List Listed → List Derivation
derivations_of lists = map (λ (l : Listed). l.derivation) lists

-- the sets of lists, in order
abbrev pub lists_of : List Listed → List (List (List ℕ))
lists_of lists = map (λ (l : Listed). l.sets) lists

-- the answer of a verdict without a list, with the line of the input
abbrev pub stop_answer : RankJob → ℕ → Verdict → Option Answer
stop_answer j line (TooMany weight found) = Some (answer.TooManySets weight j.sets (Some line))
stop_answer j line Spent = Some (answer.BudgetSpent j.conflicts (Some line))
stop_answer j line _ = None

-- a verdict has its list, or its answer
abbrev pub TellsList : RankJob → ℕ → Verdict → Found → Type 0
TellsList j line verdict (single.Sets sets) = sets_in verdict ≡ Some sets
TellsList j line verdict (single.Stopped a) = stop_answer j line verdict ≡ Some a

-- THE ROW OF THE SEARCHES: each input has its list, and the answer is the report of their ranking
pub record IsRanked (j : RankJob) (x : Texts) (p : Program) (handed : List Derivation) (a : Answer) : Type 0
  where
    pub lists : List Listed
    pub listed : AreListed j x p (inputs_of p x.input) lists
    pub handed_are : handed ≡ derivations_of lists
    pub entries : List Ranked
    pub ranking : IsRanking (lists_of lists) entries
    pub tells : a ≡ answer.Ranked (ranked_text x.program p (length (inputs_of p x.input)) entries)

-- Or the inputs before one have their lists. The last derivation shows that this one has more least sets than
-- may be listed, or that its conflicts are spent. No search comes after it.
pub record IsStoppedAt (j : RankJob) (x : Texts) (p : Program) (handed : List Derivation) (a : Answer) :
    Type 0
  where
    pub before : List InputLine
    pub entry : InputLine
    pub others : List InputLine
    pub inputs_are : inputs_of p x.input ≡ before ++ entry ∷ others
    pub lists : List Listed
    pub listed : AreListed j x p before lists
    pub last : Derivation
    pub handed_are : handed ≡ derivations_of lists ++ last ∷ []
    pub verdict : Verdict
    pub shows : ShowsAt j x p entry last verdict
    pub tells : stop_answer j entry.line verdict ≡ Some a

-- the searches found a ranking, or stopped at a line
pub data IsFound (j : RankJob) (x : Texts) (p : Program) (handed : List Derivation) (a : Answer) : Type 0
  where
    ranked : IsRanked j x p handed a → IsFound j x p handed a
    stopped : IsStoppedAt j x p handed a → IsFound j x p handed a

-- THE ANSWERS of texts. Those of the same texts agree (`one_ranking`).
abbrev pub IsAnswer : RankJob → Texts → List Derivation → Answer → Type 0
IsAnswer j x = IsAnswerOf x.program (rank_answer j.bounds x) (IsFound j x)
