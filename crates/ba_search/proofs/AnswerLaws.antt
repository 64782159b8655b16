-- What a search answers.

use Rattle.std.proofs.Common.{◌≡◌, ◌≢◌, ℕ, suc, zero, ◌-◌, ◌<◌, ◌≤◌, Bool, true, false, not, ◌&&◌, ◌||◌, eqb, Option, None, Some, IsSome, is_none, List, [], ◌∷◌, length, get_or, take, drop, cond, refl, sym, ap, subst, ◌∙◌, arith, ◌⊎◌, inl, inr, ⊎_elim}
use Rattle.std.proofs.lemmas.Bool.{cases_lt}
use Rattle.std.proofs.lemmas.List.{take-append-drop, length_push, get_or_append_left}
use Rattle.std.proofs.Math.Seq.{get_or-append_seam}
use Rattle.std.proofs.lemmas.List.Elements.{All-from_get_or}
use Rattle.std.specs.List.Sorted.{IsPermutation}
use Rattle.ba_lits.specs.Literals.{Literal, negate, lit_at, no_literal, IsClause, positive}
use Rattle.ba_lits.specs.Satisfaction.{Assignment, signed, lit_true, any_true, assignment_of}
use Rattle.ba_lits.specs.Hints.{has_literal, FollowsByHints}
use Rattle.ba_lits.proofs.Members.{has_literal-permutation, literal_found, has_literal-at, negate-negate}
use Rattle.ba_watch.specs.Threads.{Clause}
use Rattle.ba_watch.specs.Trails.{same_sign, value_of, trail_index, reason_of, decided}
use Rattle.ba_watch.specs.Propagation.{State as Watching, falsified, is_false, clause_in, plain_lits, IsComplete, IsAsserting, KeepsFacts}
use Rattle.ba_watch.proofs.Values.{trail_index-some, lit_at-place, value_of-more, value_of-none}
use Rattle.ba_learn.specs.Live.{Follows, IsSame}
use Rattle.ba_learn.specs.Levels.{IsBacked, NegatesDecided, IsCoreOf}
use Rattle.ba_learn.specs.Backjumps.{after_backtrack}
use Rattle.ba_learn.proofs.BackLaws.{back_level, back_asserting}
use Rattle.ba_learn.proofs.FollowLaws.{false_negates}
use Rattle.ba_checker.specs.States.{State, clause_at}
use Rattle.ba_search.specs.Answers.{AreAssumptions, IsModel, IsCore}
use Rattle.ba_search.specs.Values.{is_true, values_of}
use Rattle.ba_search.specs.Iterations.{Numbering, AreTrue, IsUnderway}
use Rattle.ba_search.proofs.LearnLaws.{Formed, clause_formed, learnt_numbers}

-- where a learnt clause may be added
pub jump_level : (s t : Watching) (lits lits' : List Literal) (back : ℕ) → KeepsFacts s →
    IsBacked s lits back →
    t ≡ after_backtrack back s → lits' ≡ lits → (decided t.reasons ≡ 0) ⊎ IsAsserting t lits'
jump_level s t lits lits' back facts backed is same = ⊎_elim
    (λ none. inl (ap (λ (x : Watching). decided x.reasons) is ∙ (back_level s lits back backed ∙ none)))
    (λ some. inr (subst (λ (x : Watching). IsAsserting x lits') (sym is)
    (subst (λ (ls : List Literal). IsAsserting (after_backtrack back s) ls) (sym same)
    (back_asserting s lits back facts backed some))))
    (zero_or back)
  where
    zero_or : (n : ℕ) → (n ≡ 0) ⊎ (1 ≤ n)
    zero_or zero = inl refl
    zero_or (suc n) = inr (omega arith)

-- assumptions
pub assumed_within : (n : ℕ) (a : List Literal) (l : Literal) → AreAssumptions n a → has_literal l a ≡ true →
    l.variable ≤ n
assumed_within n a l are has = let k =
    literal_found l a has in subst (λ (x : Literal). x.variable ≤ n) k.2 (are.within k.0 k.1)

pub assumptions_within : (n v : ℕ) (a : List Literal) → AreAssumptions n a → n ≤ v → (k : ℕ) → k < length a →
    (lit_at a k).variable ≤ v
assumptions_within n v a are le k k_in = omega (arith, are.within k k_in, le)

-- two assumptions of one variable are one
one_assumption : (n : ℕ) (a : List Literal) (l m : Literal) → AreAssumptions n a → has_literal l a ≡ true →
    has_literal m a ≡ true → l.variable ≡ m.variable → l ≡ m
one_assumption n a l m are has_l has_m same =
    let j = literal_found l a has_l in
    let k = literal_found m a has_m in
    let at : (lit_at a j.0).variable ≡ (lit_at a k.0).variable = ap (λ (x : Literal). x.variable) j.2
    ∙ (same ∙ ap (λ (x : Literal). x.variable) (sym k.2)) in
    ⊎_elim
    (λ lt. absurd (are.differ j.0 k.0 lt k.1 at))
    (λ le. ⊎_elim
    (λ lt. absurd (are.differ k.0 j.0 lt j.1 (sym at)))
    (λ ge. sym j.2 ∙ (ap (lit_at a) (both j.0 k.0 le ge) ∙ k.2))
    (cases_lt k.0 j.0))
    (cases_lt j.0 k.0)
  where
    both : (j k : ℕ) → k ≤ j → j ≤ k → j ≡ k
    both j k le ge = omega arith

no_fixed : (l : Literal) → l ≡ negate l → ⊥
no_fixed l e = step l.negated (ap (λ (x : Literal). x.negated) e)
  where
    step : (b : Bool) → b ≡ not b → ⊥
    step true e = cc e
    step false e = cc e

-- what is true on a front of the trail is true on all of it
front_true : (T a : List Literal) (p : ℕ) (l : Literal) → AreTrue (take p T) a → has_literal l a ≡ true →
    value_of T l ≡ Some true
front_true T a p l are has =
    let k = literal_found l a has in
    ap (λ (ys : List Literal). value_of ys l) (sym (take-append-drop p T))
    ∙ value_of-more (take p T) (drop p T) l true (ap (value_of (take p T)) (sym k.2) ∙ are k.0 k.1)

-- where a literal that is no assumption was decided, all assumptions are true
pub branched_true : (a : List Literal) (s : Watching) (numbers : Numbering) (c : State) (p : ℕ)
    (l : Literal) →
    IsUnderway a s numbers c → p < length s.trail → get_or s.reasons p None ≡ None → l ≡ lit_at s.trail p →
    has_literal l a ≡ false → AreTrue s.trail a
branched_true a s numbers c p l u within decided is none =
    let front : AreTrue (take p s.trail) a = ⊎_elim
    (λ has. absurd (cc (sym has ∙ (ap (λ (x : Literal). has_literal x a) (sym is) ∙ none))))
    (λ are. are)
    (u.decisions p within decided).given in
    λ k k_in. front_true s.trail a p (lit_at a k) front (has_literal-at a k k_in)

-- a core
module _ (a : List Literal) (s : Watching) (numbers : Numbering) (c : State) (facts : KeepsFacts s)
    (u : IsUnderway a s numbers c) (are : AreAssumptions c.variables a) (l : Literal) (one : has_literal l a
    ≡ true) (false_ : value_of s.trail l ≡ Some false) where
  not_all : (p : ℕ) → AreTrue (take p s.trail) a → ⊥
  not_all p t = cc (sym (front_true s.trail a p l t one) ∙ false_)

  -- what was decided is an assumption
  decided_assumption : (p : ℕ) → p < length s.trail → get_or s.reasons p None ≡ None →
      has_literal (lit_at s.trail p) a ≡ true
  decided_assumption p within none = ⊎_elim (λ h. h) (λ t. absurd (not_all p t))
      (u.decisions p within none).given

  pub core_reason_some : IsSome (reason_of s.trail s.reasons l.variable)
  core_reason_some = step (get_or s.reasons (trail_index s.trail l.variable) None) refl
    where
      step : (o : Option ℕ) → get_or s.reasons (trail_index s.trail l.variable) None ≡ o →
          IsSome (get_or s.reasons (trail_index s.trail l.variable) None)
      step (Some r) is = subst (λ (x : Option ℕ). IsSome x) (sym is) refl
      step None is =
          let p : ℕ = trail_index s.trail l.variable in
          let within : p < length s.trail = trail_index-some s.trail l false false_ in
          let m : Literal = lit_at s.trail p in
          let same : l ≡ m = one_assumption c.variables a l m are one (decided_assumption p within is)
          (sym (lit_at-place s.trail l.variable within)) in
          absurd (no_fixed l (false_negates s.trail l false_ ∙ ap negate (sym same)))

  negates_one : (x : Literal) → (x ≡ negate l) ⊎ NegatesDecided s x → has_literal (negate x) a ≡ true
  negates_one x (inl is) = subst (λ (y : Literal). has_literal y a ≡ true)
      (sym (ap negate is ∙ negate-negate l)) one
  negates_one x (inr d) = subst (λ (y : Literal). has_literal y a ≡ true)
      (sym (ap negate d.3 ∙ negate-negate (lit_at s.trail d.0))) (decided_assumption d.0 d.1 d.2)

  pub core_answer : (lits : List Literal) (hints : List ℕ) (back : ℕ) → IsClause s.variables lits →
      Follows s.clauses lits hints → IsCoreOf s l lits → back ≡ 0 → c.conflicts < c.budget →
      IsCore c a lits hints back
  core_answer lits hints back clause follows core none left = record {
    clause = record {
      ascends = clause.ascends;
      counted = clause.counted;
      within = λ k k_in. assumed_within c.variables a (negate (lit_at lits k)) are
          (negates_one (lit_at lits k) (core k k_in));
    };
    follows = follows (clause_at c.clauses) u.live;
    numbers = learnt_numbers c lits hints u.few (follows (clause_at c.clauses) u.live);
    negates = λ k k_in. negates_one (lit_at lits k) (core k k_in);
    level = none;
    left = left;
  }

pub empty_core : (a : List Literal) (s : Watching) (numbers : Numbering) (c : State) (lits : List Literal)
    (hints given : List ℕ) →
    IsUnderway a s numbers c → lits ≡ [] → hints ≡ given → Follows s.clauses [] given →
    c.conflicts < c.budget →
    IsCore c a lits hints 0
empty_core a s numbers c lits hints given u none same follows left =
    subst (λ (ls : List Literal). IsCore c a ls hints 0) (sym none) (record {
      clause = record {
        ascends = λ j k lt k_in. absurd (omega arith);
        counted = λ k k_in. absurd (omega arith);
        within = λ k k_in. absurd (omega arith);
      };
      follows = empty_follows;
      numbers = learnt_numbers c [] hints u.few empty_follows;
      negates = λ k k_in. absurd (omega arith);
      level = refl;
      left = left;
    })
  where
    empty_follows : FollowsByHints (clause_at c.clauses) [] hints
    empty_follows =
        subst (λ (hs : List ℕ). FollowsByHints (clause_at c.clauses) [] hs) (sym same)
        (follows (clause_at c.clauses) u.live)

-- a model
pub values_length : (T : List Literal) (n : ℕ) → length (values_of T n) ≡ n
values_length T zero = refl
values_length T (suc n) = omega (
  arith,
  length_push (values_of T n)
      (is_true (value_of T (positive (suc n)))),
  values_length T n,
)

values_at : (T : List Literal) (n k : ℕ) → k < n →
    get_or (values_of T n) k false ≡ is_true (value_of T (positive (suc k)))
values_at T zero k lt = absurd (omega arith)
values_at T (suc n) k lt = ⊎_elim
    (λ before. get_or_append_left (values_of T n) (is_true (value_of T (positive (suc n))) ∷ []) false k
    (omega (arith, values_length T n, before)) ∙ values_at T n k before)
    (λ after.
    let at : k ≡ n = omega (arith, lt, after) in
    let seam : k ≡ length (values_of T n) = omega (arith, at, values_length T n) in
    ap (λ (i : ℕ). get_or (values_of T (suc n)) i false) seam
    ∙ (get_or-append_seam (values_of T n) (is_true (value_of T (positive (suc n)))) [] false
    ∙ ap (λ (i : ℕ). is_true (value_of T (positive (suc i)))) (sym at)))
    (cases_lt k n)

-- a literal that is true gives its variable the value
signed_value : (T : List Literal) (l : Literal) → value_of T l ≡ Some true →
    signed l.negated (is_true (value_of T (positive l.variable))) ≡ true
signed_value [] l is = absurd (cc is)
signed_value (t ∷ ts) l is = step (eqb t.variable l.variable) t.negated l.negated (value_of ts l)
    (value_of ts (positive l.variable)) (signed_value ts l) is
  where
    step : (b s n : Bool) (v w : Option Bool) → (v ≡ Some true → signed n (is_true w) ≡ true) →
        cond b (Some (same_sign s n)) v ≡ Some true →
        signed n (is_true (cond b (Some (same_sign s false)) w)) ≡ true
    step true true true v w rest e = refl
    step true true false v w rest e = absurd (cc e)
    step true false true v w rest e = absurd (cc e)
    step true false false v w rest e = refl
    step false s n v w rest e = rest e

true_literal : (T : List Literal) (n : ℕ) (l : Literal) → 1 ≤ l.variable → l.variable ≤ n →
    value_of T l ≡ Some true →
    lit_true (assignment_of (values_of T n)) l ≡ true
true_literal T n l counted within is =
    ap (signed l.negated) (values_at T n (l.variable - 1) (omega (arith, counted, within))
    ∙ ap (λ (x : ℕ). is_true (value_of T (positive x))) (later l.variable counted))
    ∙ signed_value T l is
  where
    later : (x : ℕ) → 1 ≤ x → suc (x - 1) ≡ x
    later x some = omega (arith, some)

-- a clause that isn't false and whose literals have values has one that is true
some_true : (value : Literal → Option Bool) (xs : List Literal) → is_false value xs ≡ false →
    ((k : ℕ) → k < length xs → value (lit_at xs k) ≢ None) →
    (k : ℕ) × (k < length xs) × (value (lit_at xs k) ≡ Some true)
some_true value [] open_ all = absurd (cc open_)
some_true value (x ∷ xs) open_ all = step (value x) refl
    (λ e. some_true value xs e (λ k k_in. all (suc k) (omega (arith, k_in)))) open_
  where
    step : (o : Option Bool) → value x ≡ o →
        (is_false value xs ≡ false → (k : ℕ) × (k < length xs) × (value (lit_at xs k) ≡ Some true)) →
        (falsified o && is_false value xs) ≡ false →
        (k : ℕ) × (k < suc (length xs)) × (value (lit_at (x ∷ xs) k) ≡ Some true)
    step None is rest e = absurd (all 0 (omega arith) is)
    step (Some true) is rest e = (0, omega arith, is)
    step (Some false) is rest e = let r = rest e in (suc r.0, omega (arith, r.1), r.2)

any_at : (v : Assignment) (xs : List Literal) (k : ℕ) → k < length xs → lit_true v (lit_at xs k) ≡ true →
    any_true v xs ≡ true
any_at v [] k k_in is = absurd (omega arith)
any_at v (x ∷ xs) zero k_in is = ap (λ (b : Bool). b || any_true v xs) is
any_at v (x ∷ xs) (suc k) k_in is = step (lit_true v x) (any_at v xs k (omega (arith, k_in)) is)
  where
    step : (b : Bool) → any_true v xs ≡ true → (b || any_true v xs) ≡ true
    step true e = refl
    step false e = e

clause_holds : (T : List Literal) (n : ℕ) (given lits : List Literal) → IsPermutation given lits →
    IsClause n given →
    is_false (value_of T) lits ≡ false → ((l : Literal) → 1 ≤ l.variable → l.variable ≤ n →
    value_of T l ≢ None) →
    any_true (assignment_of (values_of T n)) given ≡ true
clause_holds T n given lits perm form open_ valued =
    let t = some_true (value_of T) lits open_ (λ k k_in. let j = place k k_in in
    valued (lit_at lits k) (subst (λ (l : Literal). 1 ≤ l.variable) j.2 (form.counted j.0 j.1))
    (subst (λ (l : Literal). l.variable ≤ n) j.2 (form.within j.0 j.1))) in
    let j = place t.0 t.1 in
    any_at (assignment_of (values_of T n)) given j.0 j.1
    (true_literal T n (lit_at given j.0) (form.counted j.0 j.1) (form.within j.0 j.1)
    (ap (value_of T) j.2 ∙ t.2))
  where
    place : (k : ℕ) → k < length lits → (j : ℕ) × (j < length given) × (lit_at given j ≡ lit_at lits k)
    place k k_in = literal_found (lit_at lits k) given
        (has_literal-permutation (lit_at lits k) given lits perm ∙ has_literal-at lits k k_in)

open_clause : (clauses : List (Option Clause)) (T : List Literal) (r : ℕ) (x : Clause) →
    IsComplete clauses T →
    clause_in clauses r ≡ Some x → is_false (value_of T) x.lits ≡ false
open_clause clauses T r x complete is =
    subst (λ (ls : List Literal). is_false (value_of T) ls ≡ false) (ap plain_lits is)
    (complete.none_false r (subst (λ (o : Option Clause). IsSome o) (sym is) refl))

module _ (a : List Literal) (s : Watching) (numbers : Numbering) (c : State) (formed : Formed c)
    (u : IsUnderway a s numbers c) (complete : IsComplete s.clauses s.trail) (all : (v : ℕ) → 1 ≤ v →
    v ≤ c.variables → is_none (value_of s.trail (positive v)) ≡ false) where
  has_value : (l : Literal) → 1 ≤ l.variable → l.variable ≤ c.variables → value_of s.trail l ≢ None
  has_value l counted within none = step (value_of s.trail (positive l.variable))
      (value_of-none s.trail l (positive l.variable) refl none) (all l.variable counted within)
    where
      step : (o : Option Bool) → o ≡ None → is_none o ≡ false → ⊥
      step None e f = cc f
      step (Some b) e f = cc e

  clause_true : (number : ℕ) (given : List Literal) → clause_at c.clauses number ≡ Some given →
      any_true (assignment_of (values_of s.trail c.variables)) given ≡ true
  clause_true number given is =
      let live = u.live in
      let r = live.all number given is in
      clause_holds s.trail c.variables given r.1.lits
      (subst (λ (o : Option (List Literal)). IsSame o r.1.lits) (ap (clause_at c.clauses) r.3
      ∙ is) (live.each r.0 r.1 r.2))
      (clause_formed c number given formed u.awake is) (open_clause s.clauses s.trail r.0 r.1 complete r.2)
      has_value

  pub model_answer : (values : List Bool) → AreAssumptions c.variables a → AreTrue s.trail a →
      values ≡ values_of s.trail c.variables → IsModel c a values
  model_answer values are true_ is = subst (λ (vs : List Bool). IsModel c a vs) (sym is) (record {
    all = values_length s.trail c.variables;
    clauses = clause_true;
    assumed = All-from_get_or (λ (l : Literal). lit_true (assignment_of (values_of s.trail c.variables)) l
        ≡ true) a no_literal
        (λ k k_in. true_literal s.trail c.variables (lit_at a k) (are.counted k k_in) (are.within k k_in)
        (true_ k k_in));
  })
