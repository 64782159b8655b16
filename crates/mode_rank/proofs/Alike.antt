-- What is said of a program with several inputs is said of each equivalent one.

use Rattle.std.proofs.Common.{◌≡◌, ℕ, List, [], ◌∷◌, ◌++◌, length, codes, decimal, flat_map, sym, ap, ◌∙◌, subst}
use Rattle.ba_answers.specs.declared.answers.Answer.{Answer}
use Rattle.ba_answers.specs.declared.answers.Answer.TheVariants as answer
use Rattle.ba_bytes.specs.Lines.{lines_of}
use Rattle.ba_answers.specs.declared.file.File.TheVariants as file
use Rattle.ba_cases.specs.AtOnce.{weights_of}
use Rattle.ba_cases.specs.declared.texts.Texts.{Texts}
use Rattle.ba_cases.proofs.Alike.{at_once_alike, infos_alike, weights_alike}
use Rattle.ba_cases.proofs.InputsAlike.{all_alike, all_ends_alike, all_refusals_alike}
use Rattle.ba_choices.specs.Judges.{Judge}
use Rattle.ba_derivations.specs.Handing.{Derivation}
use Rattle.ba_inputs.specs.declared.inputs.InputLine.{InputLine}
use Rattle.ba_localise.specs.Verdicts.{Shows}
use Rattle.ba_rank.specs.declared.ranking.Ranked.{Ranked}
use Rattle.ba_tree.specs.Least.{AreLeast, WeightList}
use Rattle.ba_tree.specs.declared.run.Bounds.{Bounds}
use Rattle.ba_tree.specs.declared.tree.Program.{Program}
use Rattle.ba_tree_laws.specs.Equivalent.{AreEquivalent}
use Rattle.mode_rank.specs.Answers.{AreListed, IsFound, Listed, judge_at, ranked, stopped}
use Rattle.ba_cases.specs.Inputs.{ends_answer, inputs_of, inputs_refusal}
use Rattle.mode_rank.specs.Inputs.{rank_answer}
use Rattle.mode_rank.specs.Report.{entry_line, line_of, ranked_text}
use Rattle.mode_rank.specs.declared.jobs.RankJob.{RankJob}

module _ (p q : Program) (equal : AreEquivalent p q) where
  -- THE ANSWER BEFORE ANY SEARCH
  pub answer_alike : (bounds : Bounds) (x : Texts) → rank_answer bounds x p ≡ rank_answer bounds x q
  answer_alike bounds x = at_once_alike p q equal
      (inputs_refusal file.Inputs 1 p x.input) (inputs_refusal file.Inputs 1 q x.input) x.weights bounds
      (ends_answer bounds p (inputs_of p x.input)) (ends_answer bounds q (inputs_of q x.input))
      (all_refusals_alike p q equal file.Inputs 1 x.input) (all_ends_alike p q equal bounds x.input)

  -- THE ROW OF THE SEARCHES
  module _ (j : RankJob) (x : Texts) where
    judged_alike : (entry : InputLine) (Holds : WeightList → Judge → Type 0) →
        Holds (weights_of p x) (judge_at j p entry) → Holds (weights_of q x) (judge_at j q entry)
    judged_alike entry Holds holds = subst (λ (weights : WeightList). Holds weights (judge_at j q entry))
        (weights_alike p q equal x.weights)
        (subst (λ (good : Judge). Holds (weights_of p x) good) (equal.judges entry.input j.bounds) holds)

    listed_alike : (entries : List InputLine) (lists : List Listed) → AreListed j x p entries lists →
        AreListed j x q entries lists
    listed_alike [] [] listed = tt
    listed_alike [] (l ∷ lists) listed = absurd listed
    listed_alike (entry ∷ entries) [] listed = absurd listed
    listed_alike (entry ∷ entries) (l ∷ lists) (first, rest) = (
      record {
        least = judged_alike entry (λ weights good. AreLeast weights good l.sets) first.least;
        verdict = first.verdict;
        shows = judged_alike entry
            (λ weights good. Shows weights good j.conflicts j.sets l.derivation first.verdict) first.shows;
        sets_are = first.sets_are;
      },
      listed_alike entries lists rest,
    )

    line_alike : (lines : List (List ℕ)) (all : ℕ) → entry_line lines p all ≡ entry_line lines q all
    line_alike lines all = λ i entry. line_of lines all entry.inputs (infos_alike p q equal entry.stmt i)

    text_alike : (source : List ℕ) (all : ℕ) (entries : List Ranked) →
        ranked_text source p all entries ≡ ranked_text source q all entries
    text_alike source all entries = ap (λ (line : Ranked → List ℕ).
        codes "ranked: inputs " ++ decimal all ++ codes "\n" ++ flat_map line entries)
        (line_alike (lines_of source) all)

    pub found_alike : (handed : List Derivation) (a : Answer) → IsFound j x p handed a →
        IsFound j x q handed a
    found_alike handed a (ranked by) = ranked (record {
      lists = by.lists;
      listed = subst (λ entries. AreListed j x q entries by.lists) (all_alike p q equal x.input)
          (listed_alike (inputs_of p x.input) by.lists by.listed);
      handed_are = by.handed_are;
      entries = by.entries;
      ranking = by.ranking;
      tells = by.tells
          ∙ ap answer.Ranked (text_alike x.program (length (inputs_of p x.input)) by.entries
          ∙ ap (λ (inputs : List InputLine). ranked_text x.program q (length inputs) by.entries)
          (all_alike p q equal x.input));
    })
    found_alike handed a (stopped by) = stopped (record {
      before = by.before;
      entry = by.entry;
      others = by.others;
      inputs_are = sym (all_alike p q equal x.input) ∙ by.inputs_are;
      lists = by.lists;
      listed = listed_alike by.before by.lists by.listed;
      last = by.last;
      handed_are = by.handed_are;
      verdict = by.verdict;
      shows = judged_alike by.entry
          (λ weights good. Shows weights good j.conflicts j.sets by.last by.verdict) by.shows;
      tells = by.tells;
    })
