-- What a derived verdict says over a faithful encoding.
use Rattle.std.proofs.Common.{◌≡◌, ◌≢◌, ℕ, suc, ◌+◌, ◌<◌, ◌≤◌, ◌==◌, Bool, true, false, not, ◌&&◌, ◌||◌, cond, ltb, eqb, None, Some, List, [], ◌∷◌, ◌++◌, map, length, All, refl, sym, ap, ◌∙◌, subst, arith}
use Rattle.std.specs.Cmp.Lexicographic.{pointwise}
use Rattle.std.specs.List.{IsDistinct}
use Rattle.std.specs.Prelude.{Contains, nat_eq, ◌↔◌}
use Rattle.std.proofs.lemmas.Bool.{not-false, or_parts}
use Rattle.std.proofs.lemmas.Bool.Decides.{nat_tests}
use Rattle.std.proofs.lemmas.List.{append-nil}
use Rattle.std.proofs.lemmas.List.Elements.{All-contains, All-head, All-tail}
use Rattle.ba_lits.specs.Formulas.{Cnf}
use Rattle.ba_lits.specs.Hints.{has_literal}
use Rattle.ba_lits.specs.Literals.{Literal, index_of, negate}
use Rattle.ba_lits.specs.Satisfaction.{Assignment, Soft, all_true, any_true, cost, lit_true}
use Rattle.ba_lits.proofs.Members.{same_literal}
use Rattle.ba_steps.specs.Steps.{IsFormed}
use Rattle.ba_steps.specs.declared.step.CertStep.{CertStep}
use Rattle.ba_steps.specs.declared.step.CertStep.TheVariants.{Learn, Core, Delete, Block, EndLocated, EndNoRepair, EndTooMany, EndSpent}
use Rattle.ba_steps.specs.declared.step.StepError.TheVariants.{BadVariable, NotSofts, WrongCount}
use Rattle.ba_checker.specs.Blocks.{block_clause, block_clauses, set_weight}
use Rattle.ba_checker.specs.Facts.{Holds, IsBlocked, IsStart, all_lits, splits_of}
use Rattle.ba_checker.specs.StepRules.{error_if, error_of, hint_error, is_spent, lacks_soft, lacks_variable, are_too_many}
use Rattle.ba_checker.specs.Splits.{is_soft}
use Rattle.ba_checker.specs.States.{State}
use Rattle.ba_checker.proofs.FactLaws.{facts_hold, follows_true, no_error}
use Rattle.ba_choices.specs.Judges.{Judge}
use Rattle.ba_tree.specs.Least.{WeightList, AreInOrder, AreLeast, IsFeasible, IsLeastSet, IsRelaxableSet, weight_of}
use Rattle.ba_tree.proofs.Members.{here, there, contains_has}
use Rattle.ba_derivations.specs.Derivations.{AreAllLeast, AreTooMany, AreTooManyModelSets, Derives, DerivesOver, HaveSameSets, IsGood, IsLeastModelSet, Located, NoRepair, Problem, Spent, TooMany, Verdict, blocked_by, conflicts_in, sets_of, start_of, verdict_of}
use Rattle.ba_derivations.specs.Encodings.{HasModelFor, IsFaithful, false_groups}
use Rattle.ba_derivations.proofs.GroupLaws.{compare, cost_is, falsified, negate_false, relaxable, weight_same}
use Rattle.ba_derivations.proofs.StepLaws.{before_end, blocked_append, conflicts_append, conflicts_counted, front_formed, limits_stay, runs_good, sets_gathered}

-- A CLAUSE THAT NEGATES SOFT LITERALS costs at least 1 if it is true
false_soft : (v : Assignment) (softs : List Soft) (l : Literal) → All (λ (s : Soft). 1 ≤ s.1) softs →
    has_literal l (map (λ (s : Soft). s.0) softs) ≡ true → lit_true v l ≡ false → 1 ≤ cost v softs
false_soft v [] l weighty has is_false = cc
false_soft v (s ∷ ss) l weighty has is_false =
    by_case (λ found. false_soft v ss l (All-tail (λ (x : Soft). 1 ≤ x.1) s ss weighty) found is_false)
    (eqb (index_of s.0) (index_of l)) refl has
  where
    this : lit_true v s.0 ≡ false → 1 ≤ cost v (s ∷ ss)
    this e = let heavy : 1 ≤ s.1 = All-head (λ (x : Soft). 1 ≤ x.1) s ss weighty in
        subst (λ b. 1 ≤ cond b 0 s.1 + cost v ss) (sym e) (omega (arith, heavy))

    by_case : (has_literal l (map (λ (x : Soft). x.0) ss) ≡ true → 1 ≤ cost v ss) → (t : Bool) →
        eqb (index_of s.0) (index_of l) ≡ t →
        (t || has_literal l (map (λ (x : Soft). x.0) ss)) ≡ true → 1 ≤ cost v (s ∷ ss)
    by_case later true e found = this (ap (lit_true v) (same_literal s.0 l e) ∙ is_false)
    by_case later false e found = let rest = later found in omega (arith, rest)

pub costs_some : (v : Assignment) (softs : List Soft) (lits : List Literal) →
    All (λ (s : Soft). 1 ≤ s.1) softs →
    lacks_soft softs lits ≡ false → any_true v lits ≡ true → 1 ≤ cost v softs
costs_some v softs [] weighty negates holds = cc
costs_some v softs (l ∷ ls) weighty negates holds =
    let parts = or_parts (not (is_soft softs (negate l))) (lacks_soft softs ls) negates in
    by_case (costs_some v softs ls weighty parts.1) (lit_true v l) refl holds (not-false (is_soft softs
    (negate l)) parts.0)
  where
    by_case : (any_true v ls ≡ true → 1 ≤ cost v softs) → (t : Bool) → lit_true v l ≡ t →
        (t || any_true v ls) ≡ true →
        is_soft softs (negate l) ≡ true → 1 ≤ cost v softs
    by_case rest true e some soft = false_soft v softs (negate l) weighty soft (negate_false v l e)
    by_case rest false e some soft = rest some

-- A SET WITH A MODEL in a state is blocked, and so weighs the bound; or it is heavier. Or some assignment
-- satisfies all clauses, and the set weighs the bound and that assignment's cost.
pub data Stands (s : State) (set : List ℕ) (weight : ℕ) : Type 0 where
  is_blocked : Contains s.sets set → weight ≡ s.bound → Stands s set weight
  is_heavier : s.bound < weight → Stands s set weight
  is_free : (z : Assignment) → all_true z (all_lits s.clauses) ≡ true → weight ≡ s.bound + cost z s.softs →
      Stands s set weight

-- some blocked set's clause is false
record IsFalsified (v : Assignment) (softs : List Soft) (sets : List (List ℕ)) : Type 0 where
  set : List ℕ
  there : Contains sets set
  is_false : any_true v (block_clause softs set) ≡ false

one_falsified : (v : Assignment) (softs : List Soft) (sets : List (List ℕ)) →
    all_true v (block_clauses softs sets) ≡ false → IsFalsified v softs sets
one_falsified v softs [] e = cc
one_falsified v softs (set ∷ sets) e =
    by_case (one_falsified v softs sets) (any_true v (block_clause softs set)) refl e
  where
    by_case : (all_true v (block_clauses softs sets) ≡ false → IsFalsified v softs sets) → (t : Bool) →
        any_true v (block_clause softs set) ≡ t → (t && all_true v (block_clauses softs sets)) ≡ false →
        IsFalsified v softs (set ∷ sets)
    by_case later true e rest =
        let f = later rest in record {
          set = f.set;
          there = there set f.set sets f.there;
          is_false =
              f.is_false;
        }
    by_case later false e rest = record { set = set; there = here set sets; is_false = e }

-- WHAT HAS A MODEL
module _ (good : Judge) (formula : Cnf) (softs : List Soft) (splits : List (List Literal)) (s : State)
    (facts : Holds good formula softs splits s) where
  pub blocked_at : (set : List ℕ) → Contains s.sets set → IsBlocked good softs s.bound set
  blocked_at set found = All-contains (IsBlocked good softs s.bound) s.sets set facts.sets_good found

  -- the set of a model whose blocked sets' clauses hold or not
  of_model : (v : Assignment) (set : List ℕ) → all_true v formula.clauses ≡ true →
      false_groups v softs ≡ set →
      (t : Bool) → all_true v (block_clauses softs s.sets) ≡ t → Stands s set (set_weight softs set)
  of_model v set satisfies groups_are true e =
      let (z, same, split, lives, costs) = facts.extends v satisfies e in
      is_free z lives (ap (set_weight softs) (sym groups_are) ∙ (cost_is v softs ∙ costs))
  of_model v set satisfies groups_are false e = by_case (ltb s.bound (set_weight softs set)) refl
    where
      f : IsFalsified v softs s.sets
      f = one_falsified v softs s.sets e

      b : IsBlocked good softs s.bound f.set
      b = blocked_at f.set f.there

      weight_is : set_weight softs set ≡ set_weight softs (false_groups v softs)
      weight_is = ap (set_weight softs) (sym groups_are)

      more : (m n : ℕ) → ltb m n ≡ true → m < n
      more m n h = grind (arith, nat_tests)

      no_more : (m n : ℕ) → ltb m n ≡ false → n ≤ m
      no_more m n h = grind (arith, nat_tests)

      by_case : (t : Bool) → ltb s.bound (set_weight softs set) ≡ t → Stands s set (set_weight softs set)
      by_case true h = is_heavier (more s.bound (set_weight softs set) h)
      by_case false h =
          let (within, same) = compare v softs f.set b.ascends (falsified v softs f.set b.exist f.is_false) in
          let most : set_weight softs set ≤ s.bound = no_more s.bound (set_weight softs set) h in
          let own : set_weight softs f.set ≡ s.bound = b.weight in
          let is : f.set ≡ set = same (omega (arith, most, own, weight_is)) ∙ groups_are in
          is_blocked (subst (λ x. Contains s.sets x) is f.there) (omega (arith, within, most, own, weight_is))

  pub modelled : (set : List ℕ) → HasModelFor formula softs set → Stands s set (set_weight softs set)
  modelled set model =
      of_model model.assignment set model.is_model.satisfies model.is_model.groups_are
      (all_true model.assignment (block_clauses softs s.sets)) refl

  -- so no set with a model weighs less than the bound
  pub model_weighs : (set : List ℕ) → HasModelFor formula softs set → s.bound ≤ set_weight softs set
  model_weighs set model = elim (modelled set model) [
    | is_blocked found weight ↦ omega (arith, weight)
    | is_heavier more ↦ omega (arith, more)
    | is_free z lives weight ↦ omega (arith, weight)
  ]

  -- if a clause of negated soft literals follows, every other set with a model weighs more
  pub model_blocked : (lits : List Literal) (hints : List ℕ) → lacks_soft s.softs lits ≡ false →
      hint_error s lits hints ≡ None → (set : List ℕ) → HasModelFor formula softs set →
      set_weight softs set ≤ s.bound → Contains s.sets set
  model_blocked lits hints negates follows set model most = elim (modelled set model) [
    | is_blocked found weight ↦ found
    | is_heavier more ↦ absurd (omega (arith, more, most))
    | is_free z lives weight ↦
        let some = costs_some z s.softs lits facts.weighty negates (follows_true s z lits hints follows
        lives) in
        absurd (omega (arith, weight, most, some))
  ]

-- WHAT IS FEASIBLE, over a faithful encoding
module _ (good : Judge) (formula : Cnf) (softs : List Soft) (weights : WeightList) (splits : List (List
    Literal)) (s : State)
    (faithful : IsFaithful formula softs weights good) (facts : Holds good formula softs splits s) where
  pub blocked_weighs : (set : List ℕ) → Contains s.sets set → weight_of weights set ≡ s.bound
  blocked_weighs set found =
      weight_same weights softs faithful.weighs set
      ∙ (blocked_at good formula softs splits s facts set found).weight

  pub blocked_relaxable : (set : List ℕ) → Contains s.sets set → IsRelaxableSet weights set
  blocked_relaxable set found =
      let b = blocked_at good formula softs splits s facts set found in
      relaxable weights softs faithful.weighs set b.ascends b.exist

  pub blocked_feasible : (set : List ℕ) → Contains s.sets set → IsFeasible good set
  blocked_feasible set found =
      let b = blocked_at good formula softs splits s facts set found in
      record { choices = b.run; is_good = b.is_good }

  -- no feasible set weighs less than the bound
  pub at_least : (set : List ℕ) → IsRelaxableSet weights set → IsFeasible good set →
      s.bound ≤ weight_of weights set
  at_least set is_set feasible =
      let same = weight_same weights softs faithful.weighs set in
      let bound = model_weighs good formula softs splits s facts set
      ((faithful.models set is_set).1 feasible) in
      omega (arith, same, bound)

  pub blocked_least : (set : List ℕ) → Contains s.sets set → IsLeastSet weights good set
  blocked_least set found = record {
    is_set = blocked_relaxable set found;
    feasible = blocked_feasible set found;
    least = λ other is_set feasible.
        let own = blocked_weighs set found in
        let bound = at_least other is_set feasible in
        omega (arith, own, bound);
  }

  -- if a clause of negated soft literals follows, every other feasible set weighs more
  pub all_blocked : (lits : List Literal) (hints : List ℕ) → lacks_soft s.softs lits ≡ false →
      hint_error s lits hints ≡ None → (set : List ℕ) → IsRelaxableSet weights set → IsFeasible good set →
      weight_of weights set ≤ s.bound → Contains s.sets set
  all_blocked lits hints negates follows set is_set feasible most =
      let same = weight_same weights softs faithful.weighs set in
      model_blocked good formula softs splits s facts lits hints negates follows set
      ((faithful.models set is_set).1 feasible) (omega (arith, same, most))

-- a faithful encoding is a start
pub starts : {formula : Cnf} {softs : List Soft} {weights : WeightList} {good : Judge} →
    IsFaithful formula softs weights good → IsStart formula softs
starts faithful = record {
  clauses = faithful.clauses;
  softs_among = faithful.selectors.among;
  softs_differ = faithful.selectors.differ;
}

-- THE FACTS of the state before the end
facts_of : (p : Problem) (steps : List CertStep) (verdict : Verdict) → IsStart p.formula p.softs →
    (d : Derives p steps verdict) → Holds p.good p.formula p.softs (splits_of (start_of p) d.front) d.state
facts_of p steps verdict start d =
    facts_hold p.good p.formula p.softs p.conflicts p.most_sets start d.front
    (front_formed d.front (d.last ∷ []) (subst (All IsFormed) d.steps_are d.formed)) d.state d.leads

-- what an End step says tells which it is
record EndsLocated (good : Judge) (s : State) (weight : ℕ) (found : List (List ℕ)) : Type 0 where
  weight_is : s.bound ≡ weight
  found_is : s.sets ≡ found
  lits : List Literal
  hints : List ℕ
  some : ltb 0 (length s.sets) ≡ true
  negates : lacks_soft s.softs lits ≡ false
  follows : hint_error s lits hints ≡ None

located_parts : (w u : ℕ) (xs ys : List (List ℕ)) → Some (Located w xs) ≡ Some (Located u ys) →
    (w ≡ u) × (xs ≡ ys)
located_parts w u xs ys e = (cc, cc)

too_many_parts : (w u : ℕ) (xs ys : List (List ℕ)) → Some (TooMany w xs) ≡ Some (TooMany u ys) →
    (w ≡ u) × (xs ≡ ys)
too_many_parts w u xs ys e = (cc, cc)

ends_located : (good : Judge) (s : State) (last : CertStep) (weight : ℕ) (found : List (List ℕ)) →
    error_of good s last ≡ None → verdict_of s last ≡ Some (Located weight found) →
    EndsLocated good s weight found
ends_located good s (Learn lits hints) weight found none says = cc
ends_located good s (Core lits hints) weight found none says = cc
ends_located good s (Delete clauses) weight found none says = cc
ends_located good s (Block groups run) weight found none says = cc
ends_located good s (EndLocated lits hints) weight found none says =
    let negate = error_if (lacks_soft s.softs lits) NotSofts (hint_error s lits hints) in
    let exist = error_if (lacks_variable s lits) BadVariable negate in
    let first = no_error (not (ltb 0 (length s.sets))) WrongCount (error_if (is_spent s) WrongCount exist)
    (before_end good s (EndLocated lits hints) none) in
    let second = no_error (is_spent s) WrongCount exist first.1 in
    let third = no_error (lacks_variable s lits) BadVariable negate second.1 in
    let fourth = no_error (lacks_soft s.softs lits) NotSofts (hint_error s lits hints) third.1 in
    let parts = located_parts s.bound weight s.sets found says in
    record {
      weight_is = parts.0;
      found_is = parts.1;
      lits = lits;
      hints = hints;
      some = not-false (ltb 0 (length s.sets)) first.0;
      negates = fourth.0;
      follows = fourth.1;
    }
ends_located good s (EndNoRepair hints) weight found none says = cc
ends_located good s EndTooMany weight found none says = cc
ends_located good s EndSpent weight found none says = cc

-- there is a first of some
record HasFirst (sets : List (List ℕ)) : Type 0 where
  set : List ℕ
  there : Contains sets set

first_of : (sets : List (List ℕ)) → ltb 0 (length sets) ≡ true → HasFirst sets
first_of [] some = cc
first_of (set ∷ sets) some = record { set = set; there = here set sets }

located_of : (p : Problem) (weights : WeightList) (steps : List CertStep) (weight : ℕ) (found : List (List
    ℕ)) →
    IsFaithful p.formula p.softs weights p.good → Derives p steps (Located weight found) →
    AreAllLeast weights p.good weight found
located_of p weights steps weight found faithful d =
    subst (λ w. AreAllLeast weights p.good w found) e.weight_is
    (subst (λ sets. AreAllLeast weights p.good d.state.bound sets) e.found_is all)
  where
    e : EndsLocated p.good d.state weight found
    e = ends_located p.good d.state d.last weight found d.ends d.says

    facts : Holds p.good p.formula p.softs (splits_of (start_of p) d.front) d.state
    facts = facts_of p steps (Located weight found) (starts faithful) d

    first : HasFirst d.state.sets
    first = first_of d.state.sets e.some

    is_found : (set : List ℕ) → IsLeastSet weights p.good set → Contains d.state.sets set
    is_found set h =
        let least = h.least first.set
        (blocked_relaxable p.good p.formula p.softs weights (splits_of (start_of p) d.front) d.state
        faithful facts first.set first.there)
        (blocked_feasible p.good p.formula p.softs weights (splits_of (start_of p) d.front) d.state
        faithful facts first.set first.there) in
        let own = blocked_weighs p.good p.formula p.softs weights (splits_of (start_of p) d.front) d.state
        faithful facts first.set first.there in
        all_blocked p.good p.formula p.softs weights (splits_of (start_of p) d.front) d.state faithful
        facts e.lits e.hints
        e.negates e.follows set h.is_set h.feasible (omega (arith, least, own))

    never : d.state.sets ≢ []
    never none =
        let empty : ltb 0 (length d.state.sets) ≡ false = ap (λ (sets : List (List ℕ)). ltb 0 (length
        sets)) none in
        let both : false ≡ true = sym empty ∙ e.some in
        cc

    all : AreAllLeast weights p.good d.state.bound d.state.sets
    all = record {
      exactly = λ set. (
        blocked_least p.good p.formula p.softs weights (splits_of (start_of p) d.front) d.state faithful
            facts set,
        is_found set,
      );
      each_weighs = λ set has.
          blocked_weighs p.good p.formula p.softs weights (splits_of (start_of p) d.front) d.state faithful
          facts set has;
      some = never;
    }

pub ordered : (weights : WeightList) (good : Judge) (weight : ℕ) (found sets : List (List ℕ)) →
    AreAllLeast weights good weight found → HaveSameSets sets found → AreInOrder sets →
    AreLeast weights good sets
ordered weights good weight found sets all same order = record {
  in_order = order;
  exactly = λ set. (
    λ has. (all.exactly set).0 ((same set).0 has),
    λ least. (same set).1 ((all.exactly set).1 least),
  );
}

-- NO REPAIR
record EndsWithout (s : State) : Type 0 where
  hints : List ℕ
  none : s.sets ≡ []
  follows : hint_error s [] hints ≡ None

pub no_sets : (sets : List (List ℕ)) → ltb 0 (length sets) ≡ false → sets ≡ []
no_sets [] e = refl
no_sets (set ∷ sets) e = absurd (counts (length sets) e)
  where
    counts : (n : ℕ) → ltb 0 (suc n) ≡ false → ⊥
    counts n h = grind (arith, nat_tests)

ends_without : (good : Judge) (s : State) (last : CertStep) → error_of good s last ≡ None →
    verdict_of s last ≡ Some NoRepair → EndsWithout s
ends_without good s (Learn lits hints) none says = cc
ends_without good s (Core lits hints) none says = cc
ends_without good s (Delete clauses) none says = cc
ends_without good s (Block groups run) none says = cc
ends_without good s (EndLocated lits hints) none says = cc
ends_without good s (EndNoRepair hints) none says =
    let spent = error_if (is_spent s) WrongCount (hint_error s [] hints) in
    let first = no_error (ltb 0 (length s.sets)) WrongCount spent (before_end good s (EndNoRepair hints)
    none) in
    let second = no_error (is_spent s) WrongCount (hint_error s [] hints) first.1 in
    record { hints = hints; none = no_sets s.sets first.0; follows = second.1 }
ends_without good s EndTooMany none says = cc
ends_without good s EndSpent none says = cc

no_repair_of : (p : Problem) (weights : WeightList) (steps : List CertStep) →
    IsFaithful p.formula p.softs weights p.good → Derives p steps NoRepair → AreLeast weights p.good []
no_repair_of p weights steps faithful d = record {
  in_order = tt;
  exactly = λ set. (λ has. absurd (contains_has [] set has), λ h. absurd (never set h.is_set h.feasible));
}
  where
    e : EndsWithout d.state
    e = ends_without p.good d.state d.last d.ends d.says

    facts : Holds p.good p.formula p.softs (splits_of (start_of p) d.front) d.state
    facts = facts_of p steps NoRepair (starts faithful) d

    never : (set : List ℕ) → IsRelaxableSet weights set → IsFeasible p.good set → ⊥
    never set is_set feasible =
        let model = (faithful.models set is_set).1 feasible in
        let open_sets : all_true model.assignment (block_clauses p.softs d.state.sets) ≡ true =
        ap (λ sets. all_true model.assignment (block_clauses p.softs sets)) e.none in
        let (z, same, split, lives, costs) = facts.extends model.assignment model.is_model.satisfies
        open_sets in
        let empty : false ≡ true = follows_true d.state z [] e.hints e.follows lives in
        cc

-- TOO MANY
record EndsTooMany (s : State) (weight : ℕ) (found : List (List ℕ)) : Type 0 where
  weight_is : s.bound ≡ weight
  found_is : s.sets ≡ found
  count : length s.sets ≡ s.most_sets + 1

counted : (m n : ℕ) → not (m == n) ≡ false → m ≡ n
counted m n e = grind (arith, nat_tests)

ends_too_many : (good : Judge) (s : State) (last : CertStep) (weight : ℕ) (found : List (List ℕ)) →
    error_of good s last ≡ None → verdict_of s last ≡ Some (TooMany weight found) → EndsTooMany s weight found
ends_too_many good s (Learn lits hints) weight found none says = cc
ends_too_many good s (Core lits hints) weight found none says = cc
ends_too_many good s (Delete clauses) weight found none says = cc
ends_too_many good s (Block groups run) weight found none says = cc
ends_too_many good s (EndLocated lits hints) weight found none says = cc
ends_too_many good s (EndNoRepair hints) weight found none says = cc
ends_too_many good s EndTooMany weight found none says =
    let first = no_error (not (are_too_many s)) WrongCount None (before_end good s EndTooMany none) in
    let parts = too_many_parts s.bound weight s.sets found says in
    record {
      weight_is = parts.0;
      found_is = parts.1;
      count = counted (length s.sets) (s.most_sets + 1)
          first.0;
    }
ends_too_many good s EndSpent weight found none says = cc

too_many_of : (p : Problem) (weights : WeightList) (steps : List CertStep) (weight : ℕ) (found : List
    (List ℕ)) →
    IsFaithful p.formula p.softs weights p.good → Derives p steps (TooMany weight found) →
    AreTooMany weights p.good weight p.most_sets found
too_many_of p weights steps weight found faithful d =
    subst (λ w. AreTooMany weights p.good w p.most_sets found) e.weight_is
    (subst (λ sets. AreTooMany weights p.good d.state.bound p.most_sets sets) e.found_is all)
  where
    e : EndsTooMany d.state weight found
    e = ends_too_many p.good d.state d.last weight found d.ends d.says

    facts : Holds p.good p.formula p.softs (splits_of (start_of p) d.front) d.state
    facts = facts_of p steps (TooMany weight found) (starts faithful) d

    most : d.state.most_sets ≡ p.most_sets
    most = (limits_stay p.good (start_of p) d.front d.state d.leads).most_sets

    all : AreTooMany weights p.good d.state.bound p.most_sets d.state.sets
    all = record {
      each = λ set has.
          blocked_least p.good p.formula p.softs weights (splits_of (start_of p) d.front) d.state faithful
          facts set has;
      each_weighs = λ set has.
          blocked_weighs p.good p.formula p.softs weights (splits_of (start_of p) d.front) d.state faithful
          facts set has;
      differ = facts.sets_differ;
      count = e.count ∙ ap (λ n. n + 1) most;
    }

-- THE SETS OF MODELS, whatever the judge says
module _ (p : Problem) (steps : List CertStep) (weight : ℕ) (found : List (List ℕ))
    (start : IsStart p.formula p.softs) (models : All (HasModelFor p.formula p.softs) found) where
  -- in the state before the end
  found_least : (splits : List (List Literal)) (s : State) → Holds p.good p.formula p.softs splits s →
      s.bound ≡ weight → s.sets ≡ found → (set : List ℕ) → Contains found set →
      IsLeastModelSet p.formula p.softs weight set
  found_least splits s facts weight_is found_is set has = record {
    model = All-contains (HasModelFor p.formula p.softs) found set models has;
    weighs = (blocked_at p.good p.formula p.softs splits s facts set
        (subst (λ sets. Contains sets set) (sym found_is) has)).weight ∙ weight_is;
    least = λ other model.
        let bound = model_weighs p.good p.formula p.softs splits s facts other model in
        omega (arith, bound, weight_is);
  }

  pub located_models : Derives p steps (Located weight found) → (set : List ℕ) →
      Contains found set ↔ IsLeastModelSet p.formula p.softs weight set
  located_models d set = (
    found_least (splits_of (start_of p) d.front) d.state facts e.weight_is e.found_is set,
    λ least.
        let same = least.weighs in
        let weight_is = e.weight_is in
        subst (λ sets. Contains sets set) e.found_is
        (model_blocked p.good p.formula p.softs (splits_of (start_of p) d.front) d.state facts e.lits e.hints
        e.negates e.follows set least.model (omega (arith, same, weight_is))),
  )
    where
      e : EndsLocated p.good d.state weight found
      e = ends_located p.good d.state d.last weight found d.ends d.says

      facts : Holds p.good p.formula p.softs (splits_of (start_of p) d.front) d.state
      facts = facts_of p steps (Located weight found) start d

  pub too_many_models : Derives p steps (TooMany weight found) →
      AreTooManyModelSets p.formula p.softs weight p.most_sets found
  too_many_models d = record {
    each = found_least (splits_of (start_of p) d.front) d.state facts e.weight_is e.found_is;
    differ = subst (IsDistinct (pointwise nat_eq)) e.found_is facts.sets_differ;
    count = ap (λ (sets : List (List ℕ)). length sets) (sym e.found_is)
        ∙ (e.count ∙ ap (λ n. n + 1) (limits_stay p.good (start_of p) d.front d.state d.leads).most_sets);
  }
    where
      e : EndsTooMany d.state weight found
      e = ends_too_many p.good d.state d.last weight found d.ends d.says

      facts : Holds p.good p.formula p.softs (splits_of (start_of p) d.front) d.state
      facts = facts_of p steps (TooMany weight found) start d

-- BLOCKED SETS of a whole derivation
end_blocks : (s : State) (last : CertStep) (verdict : Verdict) → verdict_of s last ≡ Some verdict →
    blocked_by (last ∷ []) ≡ []
end_blocks s (Learn lits hints) verdict says = cc
end_blocks s (Core lits hints) verdict says = cc
end_blocks s (Delete clauses) verdict says = cc
end_blocks s (Block groups run) verdict says = cc
end_blocks s (EndLocated lits hints) verdict says = refl
end_blocks s (EndNoRepair hints) verdict says = refl
end_blocks s EndTooMany verdict says = refl
end_blocks s EndSpent verdict says = refl

end_conflicts : (s : State) (last : CertStep) (verdict : Verdict) → verdict_of s last ≡ Some verdict →
    conflicts_in (last ∷ []) ≡ 0
end_conflicts s (Learn lits hints) verdict says = cc
end_conflicts s (Core lits hints) verdict says = cc
end_conflicts s (Delete clauses) verdict says = cc
end_conflicts s (Block groups run) verdict says = cc
end_conflicts s (EndLocated lits hints) verdict says = refl
end_conflicts s (EndNoRepair hints) verdict says = refl
end_conflicts s EndTooMany verdict says = refl
end_conflicts s EndSpent verdict says = refl

all_blocks : (p : Problem) (steps : List CertStep) (verdict : Verdict) → (d : Derives p steps verdict) →
    blocked_by steps ≡ blocked_by d.front
all_blocks p steps verdict d =
    ap blocked_by d.steps_are ∙ (blocked_append d.front (d.last ∷ [])
    ∙ (ap (λ bs. blocked_by d.front ++ bs) (end_blocks d.state d.last verdict d.says) ∙ append-nil
    (blocked_by d.front)))

sets_are : (p : Problem) (steps : List CertStep) (verdict : Verdict) → (d : Derives p steps verdict) →
    d.state.sets ≡ sets_of (blocked_by steps)
sets_are p steps verdict d =
    sets_gathered p.good (start_of p) d.front d.state d.leads ∙ ap sets_of (sym (all_blocks p steps verdict
    d))

pub located_blocks : (p : Problem) (steps : List CertStep) (weight : ℕ) (found : List (List ℕ)) →
    Derives p steps (Located weight found) → found ≡ sets_of (blocked_by steps)
located_blocks p steps weight found d =
    sym ((ends_located p.good d.state d.last weight found d.ends d.says).found_is)
    ∙ sets_are p steps (Located weight found) d

pub too_many_blocks : (p : Problem) (steps : List CertStep) (weight : ℕ) (found : List (List ℕ)) →
    Derives p steps (TooMany weight found) → found ≡ sets_of (blocked_by steps)
too_many_blocks p steps weight found d =
    sym ((ends_too_many p.good d.state d.last weight found d.ends d.says).found_is)
    ∙ sets_are p steps (TooMany weight found) d

pub good_runs : (p : Problem) (steps : List CertStep) (verdict : Verdict) → Derives p steps verdict →
    All (IsGood p.good) (blocked_by steps)
good_runs p steps verdict d =
    subst (λ bs. All (IsGood p.good) bs) (sym (all_blocks p steps verdict d))
    (runs_good p.good (start_of p) d.front d.state d.leads)

-- SPENT
ends_spent : (good : Judge) (s : State) (last : CertStep) → error_of good s last ≡ None →
    verdict_of s last ≡ Some Spent → s.conflicts ≡ s.budget
ends_spent good s (Learn lits hints) none says = cc
ends_spent good s (Core lits hints) none says = cc
ends_spent good s (Delete clauses) none says = cc
ends_spent good s (Block groups run) none says = cc
ends_spent good s (EndLocated lits hints) none says = cc
ends_spent good s (EndNoRepair hints) none says = cc
ends_spent good s EndTooMany none says = cc
ends_spent good s EndSpent none says =
    counted s.conflicts s.budget ((no_error (not (is_spent s)) WrongCount None (before_end good s EndSpent
    none)).0)

pub spent : (p : Problem) (steps : List CertStep) → Derives p steps Spent → conflicts_in steps ≡ p.conflicts
spent p steps d =
    let all = ap conflicts_in d.steps_are ∙ conflicts_append d.front (d.last ∷ []) in
    let end = end_conflicts d.state d.last Spent d.says in
    let count = conflicts_counted p.good (start_of p) d.front d.state d.leads in
    let budget = (limits_stay p.good (start_of p) d.front d.state d.leads).budget in
    let is = ends_spent p.good d.state d.last d.ends d.says in
    omega (arith, all, end, count, budget, is)

-- over a faithful encoding
pub located : (weights : WeightList) (p : Problem) (steps : List CertStep) (weight : ℕ)
    (found : List (List ℕ)) → DerivesOver weights p steps (Located weight found) →
    AreAllLeast weights p.good weight found
located weights p steps weight found (faithful, d) = located_of p weights steps weight found faithful d

pub no_repair : (weights : WeightList) (p : Problem) (steps : List CertStep) →
    DerivesOver weights p steps NoRepair → AreLeast weights p.good []
no_repair weights p steps (faithful, d) = no_repair_of p weights steps faithful d

pub too_many : (weights : WeightList) (p : Problem) (steps : List CertStep) (weight : ℕ)
    (found : List (List ℕ)) → DerivesOver weights p steps (TooMany weight found) →
    AreTooMany weights p.good weight p.most_sets found
too_many weights p steps weight found (faithful, d) =
    too_many_of p weights steps weight found faithful d
