-- What the searches list and hand on, one input after the other.

use Rattle.std.proofs.Common.{◌≡◌, ℕ, ◌+◌, ◌<◌, ◌≤◌, Some, List, [], ◌∷◌, ◌++◌, length, get_or, take, drop, refl, sym, ap, ◌∙◌, subst}
use Rattle.std.proofs.lemmas.List.{drop_more, map-append, take-append-drop, take_all, take_more}
use Rattle.std.proofs.lemmas.Option.{same_Some}
use Rattle.std.proofs.lemmas.Slice.Zip.{all_zipped_more}
use Rattle.ba_answers.specs.declared.answers.Answer.{Answer}
use Rattle.ba_answers.specs.declared.answers.Answer.TheVariants as answer
use Rattle.ba_cases.specs.AtOnce.{IsAtOnce, weights_of}
use Rattle.ba_cases.specs.Searching.{HandsAll}
use Rattle.ba_cases.specs.Searching as searching
use Rattle.ba_cases.specs.declared.texts.Texts.{Texts}
use Rattle.ba_cases.proofs.Handing.{hands_more}
use Rattle.ba_choices.specs.Judges.{Judge}
use Rattle.ba_derivations.specs.Derivations.{sets_of}
use Rattle.ba_derivations.specs.Handing.{Derivation}
use Rattle.ba_derivations.specs.declared.verdict.Verdict.{Verdict}
use Rattle.ba_derivations.specs.declared.verdict.Verdict.TheVariants.{Located, NoRepair, TooMany, Spent}
use Rattle.ba_inputs.specs.declared.inputs.InputLine.{InputLine}
use Rattle.ba_localise.specs.Verdicts.{IsVerdict, LeavesDerivation, Shows}
use Rattle.ba_localise.specs.Verdicts as verdicts
use Rattle.ba_rank.specs.Ranking.{IsRanking}
use Rattle.ba_rank.specs.declared.ranking.Ranked.{Ranked}
use Rattle.ba_steps.specs.Sinks.{Told}
use Rattle.ba_steps.specs.declared.step.CertStep.{CertStep}
use Rattle.ba_tree.specs.Least.{AreLeast, WeightList, judge_of}
use Rattle.ba_tree.specs.declared.tree.Program.{Program}
use Rattle.mode_rank.specs.Answers.{IsListed, IsStoppedAt, Listed, ShowsAt, TellsList, derivations_of, judge_at, ranked, sets_in, stopped}
use Rattle.ba_cases.specs.Inputs.{inputs_of}
use Rattle.mode_rank.specs.Inputs.{AreRunsOf, rank_answer}
use Rattle.mode_rank.specs.Report.{ranked_text}
use Rattle.mode_rank.specs.Searches.{ComesTo, Concludes, Finds, FindsList, FindsNone, HasListed, LeavesLists, PartLeaves, Stops, between, in_search, within}
use Rattle.mode_rank.specs.declared.jobs.RankJob.{RankJob}
use Rattle.mode_rank.specs.declared.runs.Runs.{Runs}
use Rattle.mode_rank.specs.declared.searches.Found.{Found}
use Rattle.mode_rank.specs.declared.searches.Found.TheVariants as single
use Rattle.mode_rank.specs.declared.searches.Searched.{Searched}
use Rattle.mode_rank.specs.declared.searches.Searched.TheVariants as searched

-- ONE SEARCH, by what it finds

-- the sets of a verdict that is true are all least sets
least_in : (weights : WeightList) (good : Judge) (conflicts most : ℕ) (steps : List CertStep) (v : Verdict)
    (sets : List (List ℕ)) → IsVerdict weights good conflicts most steps v → sets_in v ≡ Some sets →
    AreLeast weights good sets
least_in weights good conflicts most steps (Located weight found) sets is e =
    subst (AreLeast weights good) (same_Some (sets_of found) sets e) is.least
least_in weights good conflicts most steps NoRepair sets is e =
    subst (AreLeast weights good) (same_Some [] sets e) is
least_in weights good conflicts most steps (TooMany weight found) sets is e =
    absurd (let no : ⊥ = cc in no)
least_in weights good conflicts most steps Spent sets is e = absurd (let no : ⊥ = cc in no)

module _ (j : RankJob) (x : Texts) (c : Runs) (runs : AreRunsOf j.bounds x c) (entry : InputLine) where
  shows_at : (d : Derivation) (v : Verdict) →
      Shows c.weights.of (judge_of c.program entry.input j.bounds) j.conflicts j.sets d v →
      ShowsAt j x c.program entry d v
  shows_at d v shows =
      subst (λ (weights : WeightList). Shows weights (judge_at j c.program entry) j.conflicts j.sets d v)
      runs.weights shows

  pub finds : (t u : Told) (v : Verdict) (found : Found) →
      verdicts.Finds c.weights.of (judge_of c.program entry.input j.bounds) j.conflicts j.sets t u v →
      TellsList j entry.line v found → Finds j x c.program entry t u found
  finds t u v (single.Sets sets) by tells =
      let shows : ShowsAt j x c.program entry by.derivation v = shows_at by.derivation v by.shows in
      record {
        derivation = by.derivation;
        listed = record {
          least = least_in (weights_of c.program x) (judge_at j c.program entry) j.conflicts j.sets
              by.derivation.steps v sets shows.is_verdict tells;
          verdict = v;
          shows = shows;
          sets_are = tells;
        };
        hands = by.hands;
      }
  finds t u v (single.Stopped a) by tells = record {
    derivation = by.derivation;
    verdict = v;
    shows = shows_at by.derivation v by.shows;
    tells = tells;
    hands = by.hands;
  }

  pub part_left : (t u : Told) →
      LeavesDerivation c.weights.of (judge_of c.program entry.input j.bounds) j.conflicts j.sets t u →
      PartLeaves j x c.program entry t u
  part_left t u left =
      subst (λ (weights : WeightList).
      LeavesDerivation weights (judge_at j c.program entry) j.conflicts j.sets t u) runs.weights left

-- THE LISTS so far
module _ (j : RankJob) (x : Texts) (p : Program) where
  pub none_listed : (t : Told) → HasListed j x p [] [] t t
  none_listed t = record { lists = []; listed = tt; found_are = refl; hands = (refl, refl) }

  pub more_listed : (before : List InputLine) (entry : InputLine) (found : List (List (List ℕ)))
      (sets : List (List ℕ)) (t m u : Told) → HasListed j x p before found t m →
      FindsList j x p entry sets m u → HasListed j x p (before ++ entry ∷ []) (found ++ sets ∷ []) t u
  more_listed before entry found sets t m u h by = record {
    lists = h.lists ++ one ∷ [];
    listed = all_zipped_more (IsListed j x p) before h.lists entry one h.listed by.listed;
    found_are = ap (λ (found : List (List (List ℕ))). found ++ sets ∷ []) h.found_are
        ∙ sym (map-append (λ (l : Listed). l.sets) h.lists (one ∷ []));
    hands = subst (λ (ds : List Derivation). HandsAll ds t u)
        (sym (map-append (λ (l : Listed). l.derivation) h.lists (one ∷ [])))
        (hands_more (derivations_of h.lists) by.derivation t m u h.hands by.hands);
  }
    where
      one : Listed
      one = record { sets = sets; derivation = by.derivation }

  -- no search comes after one that stops
  pub stopped_at : (before : List InputLine) (entry : InputLine) (others : List InputLine)
      (found : List (List (List ℕ))) (a : Answer) (t m u : Told) →
      inputs_of p x.input ≡ before ++ entry ∷ others → HasListed j x p before found t m →
      FindsNone j x p entry a m u →
      (handed : List Derivation) × IsStoppedAt j x p handed a × HandsAll handed t u
  stopped_at before entry others found a t m u inputs h by = (
    derivations_of h.lists ++ by.derivation ∷ [],
    record {
      before = before;
      entry = entry;
      others = others;
      inputs_are = inputs;
      lists = h.lists;
      listed = h.listed;
      last = by.derivation;
      handed_are = refl;
      verdict = by.verdict;
      shows = by.shows;
      tells = by.tells;
    },
    hands_more (derivations_of h.lists) by.derivation t m u h.hands by.hands,
  )

-- THE SEARCHES over the inputs of runs, one after the other

-- the entry at this place of a list
pub record IsAt (entries : List InputLine) (i : ℕ) (entry : InputLine) : Type 0 where
  pub below : i < length entries
  pub read : entry ≡ get_or entries i entry

pub is_at : (entries items : List InputLine) (i : ℕ) (entry : InputLine) → items ≡ entries →
    i < length items → entry ≡ get_or items i entry → IsAt entries i entry
is_at entries items i entry same few read = record {
  below = subst (λ (es : List InputLine). i < length es) same few;
  read = read ∙ ap (λ (es : List InputLine). get_or es i entry) same;
}

taken_more : (entries : List InputLine) (i : ℕ) (entry : InputLine) → IsAt entries i entry →
    take i entries ++ entry ∷ [] ≡ take (i + 1) entries
taken_more entries i entry place = ap (λ (e : InputLine). take i entries ++ e ∷ []) place.read
    ∙ sym (take_more entries i entry place.below)

cut_at : (entries : List InputLine) (i : ℕ) (entry : InputLine) → IsAt entries i entry →
    entries ≡ take i entries ++ entry ∷ drop (i + 1) entries
cut_at entries i entry place = sym (take-append-drop i entries)
    ∙ ap (λ (rest : List InputLine). take i entries ++ rest) (drop_more entries i entry place.below)
    ∙ ap (λ (e : InputLine). take i entries ++ e ∷ drop (i + 1) entries) (sym place.read)

module _ (j : RankJob) (x : Texts) (c : Runs) (runs : AreRunsOf j.bounds x c) where
  abbrev pub Lists : ℕ → List (List (List ℕ)) → Told → Told → Type 0
  Lists i found = HasListed j x c.program (take i c.inputs) found

  pub first_listed : (found : List (List (List ℕ))) (t : Told) → found ≡ [] → Lists 0 found t t
  first_listed found t none = subst (λ (found : List (List (List ℕ))). HasListed j x c.program [] found t t)
      (sym none) (none_listed j x c.program t)

  module _ (i : ℕ) (entry : InputLine) (place : IsAt c.inputs i entry) (found : List (List (List ℕ)))
      (t m u : Told) (listed : Lists i found t m) where
    inputs_cut : inputs_of c.program x.input ≡ take i c.inputs ++ entry ∷ drop (i + 1) c.inputs
    inputs_cut = sym runs.inputs ∙ cut_at c.inputs i entry place

    -- it comes to a list
    pub next_listed : (f : Found) (sets : List (List ℕ)) (more : List (List (List ℕ))) →
        f ≡ single.Sets sets → Finds j x c.program entry m u f → more ≡ found ++ sets ∷ [] →
        Lists (i + 1) more t u
    next_listed f sets more is by pushed =
        subst (λ (more : List (List (List ℕ))). Lists (i + 1) more t u) (sym pushed)
        (subst (λ (entries : List InputLine). HasListed j x c.program entries (found ++ sets ∷ []) t u)
        (taken_more c.inputs i entry place)
        (more_listed j x c.program (take i c.inputs) entry found sets t m u listed
        (subst (λ (f : Found). Finds j x c.program entry m u f) is by)))

    -- to an answer
    pub ends_there : (f : Found) (a : Answer) → f ≡ single.Stopped a → Finds j x c.program entry m u f →
        ComesTo j x c.program t u (searched.Stopped a)
    ends_there f a is by = stopped_at j x c.program (take i c.inputs) entry (drop (i + 1) c.inputs) found a
        t m u inputs_cut listed (subst (λ (f : Found). Finds j x c.program entry m u f) is by)

    -- and leaves what it leaves
    pub left_within : PartLeaves j x c.program entry m u → LeavesLists j x c.program t u
    left_within left =
        within (take i c.inputs) entry (drop (i + 1) c.inputs) found m inputs_cut listed left

  -- the searches over all inputs
  pub left_between : (i : ℕ) (found : List (List (List ℕ))) (t u : Told) → Lists i found t u →
      LeavesLists j x c.program t u
  left_between i found t u listed = between (take i c.inputs) (drop i c.inputs) found
      (sym runs.inputs ∙ sym (take-append-drop i c.inputs)) listed

  pub all_listed : (i : ℕ) (found : List (List (List ℕ))) (t u : Told) → length c.inputs ≤ i →
      Lists i found t u → ComesTo j x c.program t u (searched.Lists found)
  all_listed i found t u end listed =
      subst (λ (entries : List InputLine). HasListed j x c.program entries found t u)
      (take_all i c.inputs end ∙ runs.inputs) listed

  -- WHAT THE TEXTS COME TO

  pub left_searching : (t u : Told) → LeavesLists j x c.program t u → Stops j x t u
  left_searching t u left = in_search c.program runs.spells runs.undecided left

  pub ranks : (t u : Told) (s : Searched) (found : List (List (List ℕ))) (source : List ℕ)
      (entries : List Ranked) (a : Answer) → s ≡ searched.Lists found → ComesTo j x c.program t u s →
      source ≡ x.program → IsRanking found entries →
      a ≡ answer.Ranked (ranked_text source c.program (length c.inputs) entries) → Concludes j x t u a
  ranks t u s found source entries a lists by same ranking is =
      let listed : HasListed j x c.program (inputs_of c.program x.input) found t u =
      subst (λ (s : Searched). ComesTo j x c.program t u s) lists by in
      record {
        handed = derivations_of listed.lists;
        is = searching.by_search c.program runs.spells runs.undecided (ranked (record {
          lists = listed.lists;
          listed = listed.listed;
          handed_are = refl;
          entries = entries;
          ranking =
              subst (λ (lists : List (List (List ℕ))). IsRanking lists entries) listed.found_are ranking;
          tells = is
              ∙ ap (λ (source : List ℕ).
              answer.Ranked (ranked_text source c.program (length c.inputs) entries)) same
              ∙ ap (λ (inputs : List InputLine).
              answer.Ranked (ranked_text x.program c.program (length inputs) entries)) runs.inputs;
        }));
        hands = listed.hands;
      }

  pub concludes_there : (t u : Told) (s : Searched) (a : Answer) → s ≡ searched.Stopped a →
      ComesTo j x c.program t u s → Concludes j x t u a
  concludes_there t u s a stops by =
      let ends : ComesTo j x c.program t u (searched.Stopped a) =
      subst (λ (s : Searched). ComesTo j x c.program t u s) stops by in
      record {
        handed = ends.0;
        is = searching.by_search c.program runs.spells runs.undecided (stopped ends.1);
        hands = ends.2;
      }

-- texts that have an answer at once
pub concludes_at_once : (j : RankJob) (x : Texts) (t : Told) (a : Answer) →
    IsAtOnce x.program (rank_answer j.bounds x) a → Concludes j x t t a
concludes_at_once j x t a is = record { handed = []; is = searching.at_once is refl; hands = (refl, refl) }
