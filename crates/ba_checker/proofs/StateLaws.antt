-- The state of a checker after its first state is made and after a core is split.

use Rattle.std.proofs.Common.{◌≡◌, ℕ, suc, zero, ◌+◌, ◌-◌, ◌^◌, ◌<◌, ◌≤◌, ◌==◌, Bool, true, false, not, ◌&&◌, ◌||◌, ltb, unwrap_or, None, List, [], ◌∷◌, ◌++◌, map, length, All, refl, ap, ◌∙◌, arith}
use Rattle.std.proofs.lemmas.Bool.{or_parts, true≢false}
use Rattle.std.proofs.lemmas.Bool.Decides.{nat_tests}
use Rattle.std.proofs.lemmas.List.Elements.{All-append, All-weaker}
use Rattle.std.specs.List.{list_any, list_all}
use Rattle.ba_lits.specs.Literals.{Literal, negate, IsClause, lit_at}
use Rattle.ba_lits.specs.Satisfaction.{Soft}
use Rattle.ba_lits.specs.Hints.{has_literal}
use Rattle.ba_steps.specs.Steps.{AreFormedLits, AreAbove}
use Rattle.ba_checker.specs.Splits.{split_clauses, fresh_count, late_softs, is_soft, lightest, lowered}
use Rattle.ba_checker.specs.States.{Kept, kept, State, is_learnt_at, width_at, without_all, present}
use Rattle.ba_checker.specs.StepRules.{error_if, lacks_variable, is_spent, lacks_soft, hint_error, learn_error}
use Rattle.ba_checker.specs.Parts.{holds_clause}
use Rattle.ba_steps.specs.declared.step.StepError.TheVariants.{NotNew, WrongCount, BadVariable}
use Rattle.ba_checker.specs.Facts.{AreSelectors, IsState}
use Rattle.ba_checker.specs.declared.store.Origin.TheVariants as origins
use Rattle.ba_checker.proofs.FactLaws.{no_error, lowered-all, late-all, lowered-different, lowered-below, apart, among-below, lightest_weighty, present_weighty}
use Rattle.ba_checker.proofs.FormedLaws.{exist_formed, core_formed, one_formed, kept_formed, without_all_formed}
use Rattle.ba_checker.proofs.LastingLaws.{given_implied, core_implied, learn_implied, blocked_implied, deleted_implied}
use Rattle.ba_checker.specs.Blocks.{lacks_group, block_clause}
use Rattle.ba_checker.proofs.BlockLaws.{block_formed}

none_at : (p : Literal → Bool) (xs : List Literal) (k : ℕ) → list_any p xs ≡ false → k < length xs →
    p (lit_at xs k) ≡ false
none_at p [] k none lt = absurd (omega arith)
none_at p (x ∷ xs) zero none lt = (or_parts (p x) (list_any p xs) none).0
none_at p (x ∷ xs) (suc k) none lt = none_at p xs k (or_parts (p x) (list_any p xs) none).1 (omega arith)

-- a formed clause of variables that exist
pub exist_clause : (s : State) (lits : List Literal) → AreFormedLits lits → lacks_variable s lits ≡ false →
    IsClause s.variables lits
exist_clause s lits formed exists =
    exist_formed (2 ^ 62 - 1) s.variables lits formed.0
    (λ k lt. below s.variables (lit_at lits k).variable
    (none_at (λ (l : Literal). ltb s.variables l.variable) lits k exists lt))
  where
    below : (n x : ℕ) → ltb n x ≡ false → x ≤ n
    below n x e = grind (arith, nat_tests)

-- the weight of a core is at least 1
core_weight : (softs : List Soft) (lits : List Literal) → 0 < length lits → lacks_soft softs lits ≡ false →
    All (λ (s : Soft). 1 ≤ s.1) softs → 1 ≤ unwrap_or (lightest lits softs) 0
core_weight softs [] some known weighty = absurd (omega arith)
core_weight softs (b ∷ rest) some known weighty =
    lightest_weighty (b ∷ rest) softs b weighty (here b rest)
    (there (is_soft softs (negate b)) (lacks_soft softs rest) known)
  where
    here : (b : Literal) (rest : List Literal) → has_literal b (b ∷ rest) ≡ true
    here b rest = grind (arith, nat_tests)

    there : (x y : Bool) → (not x || y) ≡ false → x ≡ true
    there true y e = refl
    there false y e = absurd (cc)

pub core_state : (seen : State) (variables : ℕ) (clauses : List Kept) (groups softs : List Soft) (conflicts
    budget learnt : ℕ) (refused : Bool) (lits : List Literal) (fresh w e : ℕ) (one grown : List Kept) (more
    : List Soft) →
    IsState variables clauses groups softs conflicts budget learnt refused → variables ≡ seen.variables →
    softs ≡ seen.softs → refused ≡ false → conflicts < budget →
    AreFormedLits lits → lacks_variable seen lits ≡ false → lacks_soft seen.softs lits ≡ false →
    fresh ≡ fresh_count (length lits) → variables + fresh < 2 ^ 62 → w ≡ unwrap_or (lightest lits softs) 0 →
    e ≡ variables + 1 + (length lits - 2) →
    more ≡ lowered lits w softs ++ late_softs w e lits → one ≡ clauses ++ kept origins.Core lits ∷ [] →
    grown ≡ one ++ map (kept origins.Split) (split_clauses (variables + 1) lits) →
    IsState (variables + fresh) grown groups more (conflicts + 1) budget learnt false
core_state seen variables clauses groups softs conflicts budget learnt refused lits fresh w e one grown
    more h variables_is softs_is awake left formed exists known fresh_is few w_is e_is more_is one_is
    grown_is = record {
      few = few;
      formed = λ _. rw (grown_is, one_is) (core_formed variables (variables + fresh) clauses lits
          (h.formed awake) (rw variables_is (exist_clause seen lits formed exists))
          (omega (arith, fresh_is)));
      implied = λ _. rw (grown_is, one_is) (core_implied clauses lits (split_clauses (variables + 1) lits)
          (h.implied awake));
      groups_among = All-weaker (λ (s : Soft). (1 ≤ s.0.variable) × (s.0.variable ≤ variables))
          (λ (s : Soft). (1 ≤ s.0.variable) × (s.0.variable ≤ variables + fresh)) (λ s p. (
            p.0,
            omega (
              arith,
              p.1,
            ),
          ))
          (present groups) h.groups_among;
      groups_differ = h.groups_differ;
      among = rw more_is (All-append (λ (s : Soft). (1 ≤ s.0.variable) × (s.0.variable ≤ variables + fresh))
          (lowered lits w softs) (late_softs w e lits)
          (lowered-all (λ (s : Soft). (1 ≤ s.0.variable) × (s.0.variable ≤ variables + fresh)) w lits softs
          (λ s p lt. p) (All-weaker (λ (s : Soft). (1 ≤ s.0.variable) × (s.0.variable ≤ variables))
          (λ (s : Soft). (1 ≤ s.0.variable) × (s.0.variable ≤ variables + fresh))
          (λ s p. (p.0, omega (arith, p.1))) softs h.among))
          (late-all (λ (s : Soft). (1 ≤ s.0.variable) × (s.0.variable ≤ variables + fresh)) w e lits
          (λ x ge lt. (omega (arith, e_is), omega (arith, e_is, fresh_is)))));
      differ = rw more_is (apart (variables + 1) w e (lowered lits w softs) lits (omega (arith, e_is))
          (lowered-below (variables + 1) w lits softs (among-below variables softs h.among))
          (lowered-different w lits softs h.differ));
      weighty = rw more_is (All-append (λ (s : Soft). 1 ≤ s.1) (lowered lits w softs) (late_softs w e lits)
          (lowered-all (λ (s : Soft). 1 ≤ s.1) w lits softs (λ s p lt. omega (arith, lt)) h.weighty)
          (late-all (λ (s : Soft). 1 ≤ s.1) w e lits (λ x ge lt. heavy)));
      within = omega (arith, left);
      learnt_within = omega (arith, h.learnt_within);
    }
  where
    heavy : 1 ≤ w
    heavy =
        let k : lacks_soft softs lits ≡ false = ap (λ ss. lacks_soft ss lits) softs_is ∙ known in
        let a = core_weight softs lits formed.1 k h.weighty in
        omega (arith, a, w_is)

pub first_state_holds : (variables : ℕ) (cs : List (List Literal)) (softs given : List Soft)
    (clauses : List Kept) (conflicts : ℕ) →
    variables < 2 ^ 62 → All (IsClause variables) cs → AreSelectors variables given → clauses ≡ map (kept
    origins.Given) cs → softs ≡ present given → IsState variables clauses given softs 0 conflicts 0 false
first_state_holds variables cs softs given clauses conflicts few formed selectors clauses_is softs_is =
    rw (clauses_is, softs_is) (record {
      few = few;
      formed = λ _. kept_formed variables origins.Given cs formed;
      implied = λ _. given_implied cs;
      groups_among = selectors.among;
      groups_differ = selectors.differ;
      among = selectors.among;
      differ = selectors.differ;
      weighty = present_weighty given;
      within = omega arith;
      learnt_within = omega arith;
    })

pub first_state_as : (n variables : ℕ) (cs : List (List Literal)) (softs given : List Soft)
    (clauses : List Kept) (conflicts : ℕ) →
    variables ≡ n → variables < 2 ^ 62 → All (IsClause n) cs → AreSelectors n given → clauses ≡ map (kept
    origins.Given) cs → softs ≡ present given → IsState variables clauses given softs 0 conflicts 0 false
first_state_as n variables cs softs given clauses conflicts is few formed selectors clauses_is softs_is =
    rw is (first_state_holds n cs softs given clauses conflicts (rw (← is) few) formed selectors clauses_is
    softs_is)

-- the variables of a clause that may be learnt exist, and the conflicts aren't spent
pub may_be_learnt : (s : State) (lits : List Literal) (hints : List ℕ) → learn_error s lits hints ≡ None →
    (lacks_variable s lits ≡ false) × (is_spent s ≡ false)
may_be_learnt s lits hints none =
    let later = error_if (holds_clause s.clauses lits) NotNew (hint_error s lits hints) in
    let exists = no_error (lacks_variable s lits) BadVariable (error_if (is_spent s) WrongCount later) none in
    (exists.0, (no_error (is_spent s) WrongCount later exists.1).0)

pub some_left : (a b : ℕ) → a ≤ b → (a == b) ≡ false → a < b
some_left a b most apart = grind (arith, nat_tests)

-- a clause is learnt
pub learnt_state : (seen : State) (variables : ℕ) (clauses grown : List Kept) (groups softs : List Soft)
    (conflicts budget learnt : ℕ) (refused : Bool) (lits : List Literal) (hints : List ℕ) →
    IsState variables clauses groups softs conflicts budget learnt refused → variables ≡ seen.variables →
    clauses ≡ seen.clauses → conflicts < budget →
    AreFormedLits lits → lacks_variable seen lits ≡ false → learn_error seen lits hints ≡ None →
    grown ≡ clauses ++ kept origins.Learnt lits ∷ [] →
    IsState variables grown groups softs (conflicts + 1) budget (learnt + 1) refused
learnt_state seen variables clauses grown groups softs conflicts budget learnt refused lits hints h
    variables_is clauses_is left formed exists none grown_is = record {
      few = h.few;
      formed = λ awake. rw grown_is (one_formed variables origins.Learnt clauses lits (h.formed awake) (rw
          variables_is (exist_clause seen lits formed exists)));
      implied = λ awake. rw (grown_is, clauses_is) (learn_implied seen lits hints none
          (rw (← clauses_is) (h.implied awake)));
      groups_among = h.groups_among;
      groups_differ = h.groups_differ;
      among = h.among;
      differ = h.differ;
      weighty = h.weighty;
      within = omega (arith, left);
      learnt_within = omega (arith, h.learnt_within);
    }

-- clauses are deleted
pub deleted_state : (variables : ℕ) (clauses less : List Kept) (groups softs : List Soft) (conflicts budget
    learnt : ℕ) (refused : Bool) (numbers : List ℕ) →
    IsState variables clauses groups softs conflicts budget learnt refused → list_all (λ (n : ℕ).
    is_learnt_at clauses n && ltb 2 (width_at clauses n)) numbers ≡ true →
    less ≡ without_all clauses numbers → IsState variables less groups softs conflicts budget 0 refused
deleted_state variables clauses less groups softs conflicts budget learnt refused numbers h go less_is =
    record {
      few = h.few;
      formed = λ awake. rw less_is (without_all_formed variables clauses numbers (h.formed awake));
      implied = λ awake. rw less_is (deleted_implied clauses numbers go (h.implied awake));
      groups_among = h.groups_among;
      groups_differ = h.groups_differ;
      among = h.among;
      differ = h.differ;
      weighty = h.weighty;
      within = h.within;
      learnt_within = omega arith;
    }

-- a set is blocked
pub blocked_state : (variables : ℕ) (clauses grown : List Kept) (groups softs : List Soft) (conflicts
    budget learnt : ℕ) (refused : Bool)
    (set : List ℕ) (lits : List Literal) →
    IsState variables clauses groups softs conflicts budget learnt refused → AreAbove 0 set →
    lacks_group groups set ≡ false → lits ≡ block_clause groups set → grown ≡ clauses ++ kept
    origins.Blocked lits ∷ [] →
    IsState variables grown groups softs conflicts budget learnt refused
blocked_state variables clauses grown groups softs conflicts budget learnt refused set lits h above exist
    lits_is grown_is = record {
      few = h.few;
      formed = λ awake. rw (grown_is, lits_is) (one_formed variables origins.Blocked clauses (block_clause
          groups set) (h.formed awake)
          (block_formed variables groups set h.groups_among h.groups_differ above exist));
      implied = λ awake. rw grown_is (blocked_implied clauses lits (h.implied awake));
      groups_among = h.groups_among;
      groups_differ = h.groups_differ;
      among = h.among;
      differ = h.differ;
      weighty = h.weighty;
      within = h.within;
      learnt_within = h.learnt_within;
    }

-- a state that refuses each step may have any clauses
pub refused_state : (variables : ℕ) (clauses clauses' : List Kept) (groups softs : List Soft)
    (conflicts budget learnt : ℕ) (refused : Bool)
    → IsState variables clauses groups softs conflicts budget learnt refused
    → IsState variables clauses' groups softs conflicts budget learnt true
refused_state variables clauses clauses' groups softs conflicts budget learnt refused h = record {
  few = h.few;
  formed = λ e. absurd (true≢false e);
  implied = λ e. absurd (true≢false e);
  groups_among = h.groups_among;
  groups_differ = h.groups_differ;
  among = h.among;
  differ = h.differ;
  weighty = h.weighty;
  within = h.within;
  learnt_within = h.learnt_within;
}
