-- The answers of texts to a job agree.

use Rattle.std.proofs.Common.{◌≡◌, ◌⊎◌, inl, inr, ℕ, false, Option, None, Some, List, [], ◌∷◌, ◌++◌, length, refl, sym, ap, ap₂, ◌∙◌, subst}
use Rattle.std.proofs.lemmas.Option.{same_Some}
use Rattle.ba_answers.specs.declared.answers.Answer.{Answer}
use Rattle.ba_answers.specs.declared.answers.Answer.TheVariants as answer
use Rattle.ba_cases.specs.AtOnce.{weights_of}
use Rattle.ba_cases.specs.Searching.{Agree, IsOfSearch, are_one, first_spent, second_spent}
use Rattle.ba_cases.specs.declared.texts.Texts.{Texts}
use Rattle.ba_cases.specs.Searching as searching
use Rattle.ba_cases.proofs.OneAnswer.{IsOfMeaning, answers_agree, none_or_one}
use Rattle.ba_derivations.specs.Derivations.{AreTooMany, sets_of}
use Rattle.ba_derivations.specs.Handing.{Derivation}
use Rattle.ba_derivations.specs.declared.verdict.Verdict.{Verdict}
use Rattle.ba_derivations.specs.declared.verdict.Verdict.TheVariants.{Located, NoRepair, TooMany, Spent}
use Rattle.ba_inputs.specs.declared.inputs.InputLine.{InputLine}
use Rattle.ba_derivations.specs.declared.verdict.FoundSet.{FoundSet}
use Rattle.ba_localise.specs.Verdicts.{IsVerdict}
use Rattle.ba_localise.proofs.OneVerdict.{many_or_few, many_or_none, weight_same}
use Rattle.ba_rank.specs.Ranking.{IsRanking}
use Rattle.ba_rank.proofs.Ordering.{one_ranking as one_order}
use Rattle.ba_tree.proofs.Sets.{AreLeast-unique}
use Rattle.ba_tree.specs.declared.tree.Program.{Program}
use Rattle.ba_tree_laws.specs.Spelling.{Spells}
use Rattle.mode_rank.specs.Answers.{AreListed, IsAnswer, IsFound, IsListed, IsRanked, IsStoppedAt, Listed, ShowsAt, judge_at, lists_of, ranked, sets_in, stop_answer, stopped}
use Rattle.ba_cases.specs.Inputs.{inputs_of}
use Rattle.mode_rank.specs.Inputs.{rank_answer}
use Rattle.mode_rank.specs.Report.{ranked_text}
use Rattle.mode_rank.specs.declared.jobs.RankJob.{RankJob}
use Rattle.mode_rank.proofs.Alike.{answer_alike, found_alike}

heads : {X : Type 0} (x y : X) (xs ys : List X) → x ∷ xs ≡ y ∷ ys → x ≡ y
heads x y xs ys e = cc

tails : {X : Type 0} (x y : X) (xs ys : List X) → x ∷ xs ≡ y ∷ ys → xs ≡ ys
tails x y xs ys e = cc

module _ (j : RankJob) (x : Texts) (p : Program) where
  -- THE LISTS of the same inputs are the same

  lists_same : (entries : List InputLine) (ls ms : List Listed) → AreListed j x p entries ls →
      AreListed j x p entries ms → lists_of ls ≡ lists_of ms
  lists_same [] [] [] one other = refl
  lists_same [] [] (m ∷ ms) one other = absurd other
  lists_same [] (l ∷ ls) ms one other = absurd one
  lists_same (e ∷ es) [] ms one other = absurd one
  lists_same (e ∷ es) (l ∷ ls) [] one other = absurd other
  lists_same (e ∷ es) (l ∷ ls) (m ∷ ms) one other =
      ap₂ (λ (sets : List (List ℕ)) (lists : List (List (List ℕ))). sets ∷ lists)
      (AreLeast-unique (weights_of p x) (judge_at j p e) l.sets m.sets one.0.least other.0.least)
      (lists_same es ls ms one.1 other.1)

  -- A SEARCH THAT STOPS: its conflicts are spent, or there are more sets than may be listed

  record IsSpent (a : Answer) : Type 0 where
    pub line : Option ℕ
    pub is : a ≡ answer.BudgetSpent j.conflicts line

  record IsMany (entry : InputLine) (a : Answer) : Type 0 where
    pub weight : ℕ
    pub found : List FoundSet
    pub many : AreTooMany (weights_of p x) (judge_at j p entry) weight j.sets (sets_of found)
    pub is : a ≡ answer.TooManySets weight j.sets (Some entry.line)

  stops : (entry : InputLine) (d : Derivation) (v : Verdict) (a : Answer) → ShowsAt j x p entry d v →
      stop_answer j entry.line v ≡ Some a → IsSpent a ⊎ IsMany entry a
  stops entry d (TooMany weight found) a shows is = inr (record {
    weight = weight;
    found = found;
    many = shows.is_verdict.0;
    is = sym (same_Some (answer.TooManySets weight j.sets (Some entry.line)) a is);
  })
  stops entry d Spent a shows is = inl (record {
    line = Some entry.line;
    is = sym (same_Some (answer.BudgetSpent j.conflicts (Some entry.line)) a is);
  })
  stops entry d NoRepair a shows is = absurd (let no : ⊥ = cc in no)
  stops entry d (Located weight found) a shows is = absurd (let no : ⊥ = cc in no)

  -- an input with more sets than may be listed has no list
  unlisted : (entry : InputLine) (a : Answer) → IsMany entry a → (l : Listed) → IsListed j x p entry l → ⊥
  unlisted entry a m l listed = by listed.verdict listed.shows.is_verdict listed.sets_are
    where
      by : (v : Verdict) → IsVerdict (weights_of p x) (judge_at j p entry) j.conflicts j.sets
          l.derivation.steps v → sets_in v ≡ Some l.sets → ⊥
      by (Located weight sets) is some = many_or_few (weights_of p x) (judge_at j p entry) j.sets weight
          m.weight sets m.found is m.many
      by NoRepair is some =
          many_or_none (weights_of p x) (judge_at j p entry) j.sets m.weight m.found m.many is
      by (TooMany weight sets) is some = cc
      by Spent is some = cc

  -- two such answers on one input are the same
  one_many : (entry : InputLine) (a b : Answer) → IsMany entry a → IsMany entry b → a ≡ b
  one_many entry a b one other = one.is
      ∙ ap (λ weight. answer.TooManySets weight j.sets (Some entry.line))
      (weight_same (weights_of p x) (judge_at j p entry) j.sets one.weight other.weight (sets_of one.found)
      (sets_of other.found) one.many other.many)
      ∙ sym other.is

  -- WHERE A SEARCH STOPS

  -- an input among those that have their lists
  listed_there : (before : List InputLine) (entry : InputLine) (others : List InputLine) (ls : List Listed) →
      AreListed j x p (before ++ entry ∷ others) ls → (l : Listed) × IsListed j x p entry l
  listed_there [] entry others [] listed = absurd listed
  listed_there [] entry others (l ∷ ls) listed = (l, listed.0)
  listed_there (e ∷ es) entry others [] listed = absurd listed
  listed_there (e ∷ es) entry others (l ∷ ls) listed = listed_there es entry others ls listed.1

  -- the first input without a list is one
  one_entry : (before : List InputLine) (entry : InputLine) (others : List InputLine) (ls : List Listed)
      (front : List InputLine) (second : InputLine) (rest : List InputLine) (ms : List Listed) →
      before ++ entry ∷ others ≡ front ++ second ∷ rest →
      AreListed j x p before ls → AreListed j x p front ms →
      ((l : Listed) → IsListed j x p entry l → ⊥) → ((l : Listed) → IsListed j x p second l → ⊥) →
      entry ≡ second
  one_entry [] entry others ls [] second rest ms same one other none lacks =
      heads entry second others rest same
  one_entry [] entry others ls (f ∷ front) second rest [] same one other none lacks = absurd other
  one_entry [] entry others ls (f ∷ front) second rest (m ∷ ms) same one other none lacks = absurd (none m
      (subst (λ (e : InputLine). IsListed j x p e m)
      (sym (heads entry f others (front ++ second ∷ rest) same)) other.0))
  one_entry (e ∷ before) entry others [] front second rest ms same one other none lacks = absurd one
  one_entry (e ∷ before) entry others (l ∷ ls) [] second rest ms same one other none lacks = absurd (lacks l
      (subst (λ (e : InputLine). IsListed j x p e l)
      (heads e second (before ++ entry ∷ others) rest same) one.0))
  one_entry (e ∷ before) entry others (l ∷ ls) (f ∷ front) second rest [] same one other none lacks =
      absurd other
  one_entry (e ∷ before) entry others (l ∷ ls) (f ∷ front) second rest (m ∷ ms) same one other none lacks =
      one_entry before entry others ls front second rest ms
      (tails e f (before ++ entry ∷ others) (front ++ second ∷ rest) same) one.1 other.1 none lacks

  -- ANSWERS AGREE

  -- an answer of the searches is of a search
  ranked_of_search : (h : List Derivation) (a : Answer) → IsRanked j x p h a → IsOfSearch a
  ranked_of_search h a by = subst IsOfSearch (sym by.tells) tt

  stop_of_search : (entry : InputLine) (a : Answer) → IsSpent a ⊎ IsMany entry a → IsOfSearch a
  stop_of_search entry a (inl spent) = subst IsOfSearch (sym spent.is) tt
  stop_of_search entry a (inr many) = subst IsOfSearch (sym many.is) tt

  stops_by : (h : List Derivation) (a : Answer) (by : IsStoppedAt j x p h a) → IsSpent a ⊎ IsMany by.entry a
  stops_by h a by = stops by.entry by.last by.verdict a by.shows by.tells

  both_ranked : (h k : List Derivation) (a b : Answer) → IsRanked j x p h a → IsRanked j x p k b → a ≡ b
  both_ranked h k a b one other = one.tells
      ∙ ap (λ entries. answer.Ranked (ranked_text x.program p (length (inputs_of p x.input)) entries))
      (one_order (lists_of other.lists) one.entries other.entries
      (subst (λ lists. IsRanking lists one.entries)
      (lists_same (inputs_of p x.input) one.lists other.lists one.listed other.listed) one.ranking)
      other.ranking)
      ∙ sym other.tells

  never_both : (h k : List Derivation) (a b : Answer) (one : IsRanked j x p h a)
      (other : IsStoppedAt j x p k b) → IsMany other.entry b → ⊥
  never_both h k a b one other many =
      let there = listed_there other.before other.entry other.others one.lists
      (subst (λ entries. AreListed j x p entries one.lists) other.inputs_are one.listed) in
      unlisted other.entry b many there.0 there.1

  both_many : (h k : List Derivation) (a b : Answer) (one : IsStoppedAt j x p h a)
      (other : IsStoppedAt j x p k b) → IsMany one.entry a → IsMany other.entry b → a ≡ b
  both_many h k a b one other many too =
      one_many one.entry a b many (subst (λ (e : InputLine). IsMany e b) (sym same) too)
    where
      same : one.entry ≡ other.entry
      same = one_entry one.before one.entry one.others one.lists other.before other.entry other.others
          other.lists
          (sym one.inputs_are ∙ other.inputs_are) one.listed other.listed (unlisted one.entry a many)
          (unlisted other.entry b too)

  ranked_stopped : (h k : List Derivation) (a b : Answer) (one : IsRanked j x p h a)
      (other : IsStoppedAt j x p k b) → IsSpent b ⊎ IsMany other.entry b → IsSpent b
  ranked_stopped h k a b one other (inl spent) = spent
  ranked_stopped h k a b one other (inr many) = absurd (never_both h k a b one other many)

  both_stopped : (h k : List Derivation) (a b : Answer) (one : IsStoppedAt j x p h a)
      (other : IsStoppedAt j x p k b) → IsSpent a ⊎ IsMany one.entry a → IsSpent b ⊎ IsMany other.entry b →
      Agree false a b
  both_stopped h k a b one other (inl spent) ends =
      first_spent j.conflicts spent.line spent.is (stop_of_search other.entry b ends)
  both_stopped h k a b one other (inr many) (inl spent) =
      second_spent j.conflicts spent.line spent.is (stop_of_search one.entry a (inr many))
  both_stopped h k a b one other (inr many) (inr too) = are_one (both_many h k a b one other many too)

  pub one_found : (h k : List Derivation) (a b : Answer) → IsFound j x p h a → IsFound j x p k b →
      Agree false a b
  one_found h k a b (ranked one) (ranked other) = are_one (both_ranked h k a b one other)
  one_found h k a b (ranked one) (stopped other) =
      let spent = ranked_stopped h k a b one other (stops_by k b other) in
      second_spent j.conflicts spent.line spent.is (ranked_of_search h a one)
  one_found h k a b (stopped one) (ranked other) =
      let spent = ranked_stopped k h b a other one (stops_by h a one) in
      first_spent j.conflicts spent.line spent.is (ranked_of_search k b other)
  one_found h k a b (stopped one) (stopped other) =
      both_stopped h k a b one other (stops_by h a one) (stops_by k b other)

-- the answers of searches over several inputs
abbrev pub IsOfRanking : Answer → Type 0
IsOfRanking (answer.Ranked bytes) = Unit {0}
IsOfRanking (answer.TooManySets weight most line) = Unit {0}
IsOfRanking (answer.BudgetSpent conflicts line) = Unit {0}
IsOfRanking _ = ⊥

stop_of_ranking : (j : RankJob) (line : ℕ) (v : Verdict) (a : Answer) → stop_answer j line v ≡ Some a →
    IsOfRanking a
stop_of_ranking j line (TooMany weight found) a is =
    subst IsOfRanking (same_Some (answer.TooManySets weight j.sets (Some line)) a is) tt
stop_of_ranking j line Spent a is =
    subst IsOfRanking (same_Some (answer.BudgetSpent j.conflicts (Some line)) a is) tt
stop_of_ranking j line NoRepair a is = absurd (let no : ⊥ = cc in no)
stop_of_ranking j line (Located weight found) a is = absurd (let no : ⊥ = cc in no)

found_of_ranking : (j : RankJob) (x : Texts) (p : Program) (h : List Derivation) (a : Answer) →
    IsFound j x p h a → IsOfRanking a
found_of_ranking j x p h a (ranked by) = subst IsOfRanking (sym by.tells) tt
found_of_ranking j x p h a (stopped by) = stop_of_ranking j by.entry.line by.verdict a by.tells

module _ (j : RankJob) (x : Texts) where
  rank_of_meaning : IsOfMeaning (rank_answer j.bounds x)
  rank_of_meaning p q equal = answer_alike p q equal j.bounds x

  pub one_answer : (h k : List Derivation) (a b : Answer) → IsAnswer j x h a → IsAnswer j x k b →
      Agree false a b
  one_answer h k a b one other =
      answers_agree x.program (rank_answer j.bounds x) rank_of_meaning (IsFound j x) false h k a b
      (λ p q spells also equal found too. one_found j x q h k a b (found_alike p q equal j x h a found) too)
      one other

  -- if the program has no answer at once, the answer is of the searches
  pub ranking_of_search : (p : Program) → Spells x.program p → rank_answer j.bounds x p ≡ None →
      (h : List Derivation) (a : Answer) → IsAnswer j x h a → IsOfRanking a
  ranking_of_search p spells undecided h a (searching.at_once now none) =
      absurd (none_or_one x.program (rank_answer j.bounds x) rank_of_meaning p a spells undecided now)
  ranking_of_search p spells undecided h a (searching.by_search q also open_too found) =
      found_of_ranking j x q h a found
