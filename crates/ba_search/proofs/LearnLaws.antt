-- A learnt clause makes a step that is allowed.

use Rattle.std.proofs.Common.{◌≡◌, ◌≢◌, ℕ, suc, zero, ◌^◌, ◌<◌, ◌≤◌, Bool, true, false, ltb, if◌then◌else◌, Option, None, Some, IsSome, List, [], ◌∷◌, ◌++◌, length, get_or, All, refl, sym, ap, subst, ◌∙◌, arith, ◌⊎◌, inl, inr, ⊎_elim}
use Rattle.std.proofs.lemmas.Bool.{and_parts}
use Rattle.std.proofs.lemmas.Bool.Decides.{nat_tests}
use Rattle.std.proofs.lemmas.Option.{slice_get-get_or}
use Rattle.std.proofs.lemmas.List.Elements.{All-cons, All-nil, All-get_or, All-from_get_or}
use Rattle.std.proofs.lemmas.List.Folds.{list_any_none, list_all_at}
use Rattle.std.specs.List.{slice_get, list_any}
use Rattle.std.specs.List.Sorted.{IsPermutation}
use Rattle.ba_lits.specs.Literals.{Literal, negate, lit_at, no_literal, IsClause}
use Rattle.ba_lits.specs.Hints.{Standing, IsFalse, IsUnit, IsOpen, Replay, Refutes, has_literal, standing, is_last, after_clause, after_hint, replay, FollowsByHints}
use Rattle.ba_lits.proofs.Members.{same_from_index, has_literal-permutation, literal_found}
use Rattle.ba_watch.specs.Threads.{Clause, AreApart}
use Rattle.ba_watch.specs.Trails.{value_of, trail_index}
use Rattle.ba_watch.specs.Propagation.{State as Watching, plain_lits, clause_in, lits_in, is_false, KeepsFacts}
use Rattle.ba_watch.proofs.Values.{trail_index-some, lit_at-place}
use Rattle.ba_learn.specs.Live.{AreLive, IsNew, IsPartOf}
use Rattle.ba_learn.proofs.FollowLaws.{false_at}
use Rattle.ba_learn.proofs.ReasonLaws.{reason_live}
use Rattle.ba_learn.proofs.NewLaws.{contains_none}
use Rattle.ba_steps.specs.Steps.{AreNumbers, AreFormedLits}
use Rattle.ba_steps.specs.declared.step.CertStep.TheVariants.{Learn}
use Rattle.ba_checker.specs.Facts.{IsState}
use Rattle.ba_checker.specs.Parts.{is_part, is_live_part, holds_clause}
use Rattle.ba_checker.specs.States.{Kept, kept, State, live_lits, is_live_origin, clause_at}
use Rattle.ba_checker.specs.declared.store.Origin.TheVariants.{Given}
use Rattle.ba_choices.specs.Judges.{Judge}
use Rattle.ba_checker.specs.StepRules.{error_of, lacks_variable, is_spent, error_of_replay, error_if}
use Rattle.ba_search.specs.Iterations.{Numbering, IsUnderway}
use Rattle.ba_search.proofs.TakenLaws.{number_within, same_some}

-- a record for what holds of a checker
abbrev pub Formed : State → Type 0
Formed c = IsState c.variables c.clauses c.groups c.softs c.conflicts c.budget c.learnt c.refused

-- a live clause is one of the entries
pub lits_live : (x : Kept) (c : List Literal) → live_lits (Some x) ≡ Some c → x.lits ≡ c
lits_live x c is = step (is_live_origin x.origin) is
  where
    step : (b : Bool) → (if b then Some x.lits else None) ≡ Some c → x.lits ≡ c
    step true is = cc is
    step false is = absurd (cc is)

-- the clause of a number is formed
at_formed : (n : ℕ) (cs : List Kept) (k : ℕ) (c : List Literal) → All (λ (x : Kept). IsClause n x.lits) cs →
    live_lits (slice_get cs k) ≡ Some c → k < length cs → IsClause n c
at_formed n cs k c all is within =
    let d : Kept = kept Given [] in
    let e : live_lits (Some (get_or cs k d)) ≡ Some c = sym (ap live_lits (slice_get-get_or cs k d within))
    ∙ is in
    subst (λ (x : List Literal). IsClause n x) (lits_live (get_or cs k d) c e)
    (All-get_or (λ (x : Kept). IsClause n x.lits) cs k d within all)

pub clause_formed : (c : State) (number : ℕ) (lits : List Literal) → Formed c → c.refused ≡ false →
    clause_at c.clauses number ≡ Some lits → IsClause c.variables lits
clause_formed c zero lits f awake is = absurd (cc is)
clause_formed c (suc k) lits f awake is = at_formed c.variables c.clauses k lits (f.formed awake) is
    (omega (arith, (number_within c.clauses (suc k) lits is).1))

-- no literal occurs twice in it
pub clause_apart : (n : ℕ) (lits : List Literal) → IsClause n lits → AreApart lits
clause_apart n lits c j k j_in k_in ne e =
    let same : (lit_at lits j).variable ≡ (lit_at lits k).variable =
    ap (λ (l : Literal). l.variable) (same_from_index (lit_at lits j) (lit_at lits k) e) in
    ⊎_elim
    (λ lt. omega (arith, c.ascends j k lt k_in, same))
    (λ gt. omega (arith, c.ascends k j gt j_in, same))
    (apart j k ne)
  where
    apart : (j k : ℕ) → j ≢ k → (j < k) ⊎ (k < j)
    apart j k ne = ⊎_elim (λ lt. inl lt) (λ le. inr (omega (arith, le, ne)))
        (Rattle.std.proofs.lemmas.Bool.cases_lt j k)

-- the clause of a reference is the checker's, in some order
pub same_clause : (clauses : List (Option Clause)) (c : State) (r : ℕ) →
    AreLive clauses (clause_at c.clauses) → IsSome (clause_in clauses r) →
    (number : ℕ) × (given : List Literal) × (clause_at c.clauses number ≡ Some given)
    × IsPermutation given (lits_in clauses r)
same_clause clauses c r are some = step (clause_in clauses r) refl some
  where
    step : (o : Option Clause) → clause_in clauses r ≡ o → IsSome o →
        (number : ℕ) × (given : List Literal) × (clause_at c.clauses number ≡ Some given)
        × IsPermutation given (plain_lits o)
    step None is some = absurd (cc some)
    step (Some x) is some = let s = same_some (clause_at c.clauses x.number) x.lits (are.each r x is) in
        (x.number, s.0, s.1, s.2)

-- each variable of the trail exists
module _ (a : List Literal) (s : Watching) (numbers : Numbering) (c : State) (facts : KeepsFacts s)
    (formed : Formed c) (u : IsUnderway a s numbers c) where
  reason_within : (p r : ℕ) → p < length s.trail → get_or s.reasons p None ≡ Some r →
      (lit_at s.trail p).variable ≤ c.variables
  reason_within p r within is =
      let g = same_clause s.clauses c r u.live (reason_live s p r facts within is) in
      let has : has_literal (lit_at s.trail p) (lits_in s.clauses r) ≡ true =
      (facts.reasons p r within is).has in
      let k = literal_found (lit_at s.trail p) g.1
      (has_literal-permutation (lit_at s.trail p) g.1 (lits_in s.clauses r) g.3 ∙ has) in
      subst (λ (l : Literal). l.variable ≤ c.variables) k.2
      ((clause_formed c g.0 g.1 formed u.awake g.2).within k.0 k.1)

  pub trail_within : (p : ℕ) → p < length s.trail → (lit_at s.trail p).variable ≤ c.variables
  trail_within p within = step (get_or s.reasons p None) refl
    where
      step : (o : Option ℕ) → get_or s.reasons p None ≡ o → (lit_at s.trail p).variable ≤ c.variables
      step None is = (u.decisions p within is).within
      step (Some r) is = reason_within p r within is

  pub valued_within : (l : Literal) (b : Bool) → value_of s.trail l ≡ Some b → l.variable ≤ c.variables
  valued_within l b has =
      let p = trail_index-some s.trail l b has in
      omega (arith, trail_within (trail_index s.trail l.variable) p, lit_at-place s.trail l.variable p)

  pub learnt_clause : (lits : List Literal) → IsClause s.variables lits →
      is_false (value_of s.trail) lits ≡ true →
      IsClause c.variables lits
  learnt_clause lits clause false_ = record {
    ascends = clause.ascends;
    counted = clause.counted;
    within = λ k k_in. valued_within (lit_at lits k) false (false_at (value_of s.trail) lits false_ k k_in);
  }

-- the numbers of hints
ended : (P : ℕ → Type 0) (hints : List ℕ) (next : Literal → Replay) →
    after_clause IsFalse (is_last hints) next ≡ Refutes → All P hints
ended P [] next e = All-nil P
ended P (h ∷ hs) next e = absurd (cc e)

after_one : (P : ℕ → Type 0) (st : Standing) (hints : List ℕ) (next : Literal → Replay) →
    ((l : Literal) → next l ≡ Refutes → All P hints) → after_clause st (is_last hints) next ≡ Refutes →
    All P hints
after_one P IsFalse hints next rest e = ended P hints next e
after_one P (IsUnit l) hints next rest e = rest l e
after_one P IsOpen hints next rest e = absurd (cc e)

numbers_of : (live : ℕ → Option (List Literal)) (P : ℕ → Type 0) →
    ((n : ℕ) (c : List Literal) → live n ≡ Some c → P n) → (falses : List Literal) (hints : List ℕ) →
    replay live falses hints ≡ Refutes → All P hints
numbers_of live P each falses [] e = absurd (cc e)
numbers_of live P each falses (h ∷ hs) e = first (live h) refl
    (λ l e. numbers_of live P each (falses ++ negate l ∷ []) hs e) e
  where
    first : (o : Option (List Literal)) → live h ≡ o →
        ((l : Literal) → replay live (falses ++ negate l ∷ []) hs ≡ Refutes → All P hs) →
        after_hint o falses (is_last hs) (λ l. replay live (falses ++ negate l ∷ []) hs) ≡ Refutes →
        All P (h ∷ hs)
    first None is rest e = absurd (cc e)
    first (Some c) is rest e = All-cons P h hs (each h c is)
        (after_one P (standing falses c) hs (λ l. replay live (falses ++ negate l ∷ []) hs) rest e)

pub learnt_numbers : (c : State) (lits : List Literal) (hints : List ℕ) → length c.clauses < 2 ^ 62 →
    FollowsByHints (clause_at c.clauses) lits hints → AreNumbers hints
learnt_numbers c lits hints few follows =
    numbers_of (clause_at c.clauses) (λ n. (1 ≤ n) × (n < 2 ^ 62))
    (λ n given is. let w = number_within c.clauses n given is in (w.0, omega (arith, w.1, few)))
    lits hints follows

-- the literals of a step
pub learnt_formed : (n : ℕ) (lits : List Literal) → n < 2 ^ 62 → IsClause n lits → 0 < length lits →
    AreFormedLits lits
learnt_formed n lits few clause some = (
  record {
    ascends = clause.ascends;
    counted = clause.counted;
    within = λ k k_in. omega (arith, clause.within k k_in, few);
  },
  some,
)

-- no error
no_lack : (n : ℕ) (lits : List Literal) → IsClause n lits →
    list_any (λ (l : Literal). ltb n l.variable) lits ≡ false
no_lack n lits clause = list_any_none (λ (l : Literal). ltb n l.variable) lits
    (All-from_get_or (λ (l : Literal). ltb n l.variable ≡ false) lits no_literal
    (λ k k_in. test n (lit_at lits k).variable (clause.within k k_in)))
  where
    test : (n v : ℕ) → v ≤ n → ltb n v ≡ false
    test n v le = grind (arith, nat_tests)

part_of : (part lits : List Literal) → is_part part lits ≡ true → IsPartOf part lits
part_of part lits all k k_in = step (has_literal (lit_at part k) lits) refl
  where
    step : (b : Bool) → has_literal (lit_at part k) lits ≡ b → has_literal (lit_at part k) lits ≡ true
    step true is = is
    step false is = absurd (cc (sym all ∙ list_all_at (λ (l : Literal). has_literal l lits) part k
        no_literal k_in is))

no_part : (c : State) (lits : List Literal) → Formed c → c.refused ≡ false →
    IsNew (clause_at c.clauses) lits →
    holds_clause c.clauses lits ≡ false
no_part c lits formed awake new = list_any_none (λ (x : Kept). is_live_part x lits) c.clauses
    (All-from_get_or (λ (x : Kept). is_live_part x lits ≡ false) c.clauses (kept Given [])
    (λ k k_in. step k k_in (is_live_part (get_or c.clauses k (kept Given [])) lits) refl))
  where
    lits_of_live : (x : Kept) → is_live_origin x.origin ≡ true → live_lits (Some x) ≡ Some x.lits
    lits_of_live x is = ap (λ b. if b then Some x.lits else None) is

    step : (k : ℕ) → k < length c.clauses → (b : Bool) →
        is_live_part (get_or c.clauses k (kept Given [])) lits ≡ b →
        is_live_part (get_or c.clauses k (kept Given [])) lits ≡ false
    step k k_in false is = is
    step k k_in true is =
        let y : Kept = get_or c.clauses k (kept Given []) in
        let x : List Literal = y.lits in
        let parts = and_parts (is_live_origin y.origin) (is_part x lits) is in
        let at : clause_at c.clauses (suc k) ≡ Some x =
        ap live_lits (slice_get-get_or c.clauses k (kept Given []) k_in) ∙ lits_of_live y parts.0 in
        absurd (contains_none (clause_at c.clauses) lits new (suc k) x at
        (clause_apart c.variables x (clause_formed c (suc k) x formed awake at)) (part_of x lits parts.1))

pub learn_allowed : (good : Judge) (c : State) (lits : List Literal) (hints : List ℕ) → Formed c →
    c.ended ≡ false →
    c.refused ≡ false → c.conflicts < c.budget → IsClause c.variables lits
    → FollowsByHints (clause_at c.clauses) lits hints → IsNew (clause_at c.clauses) lits →
    error_of good c (Learn lits hints) ≡ None
learn_allowed good c lits hints formed begun awake left clause follows new =
    none c.refused c.ended (lacks_variable c lits) (is_spent c) (holds_clause c.clauses lits)
    (replay (clause_at c.clauses) lits hints) awake begun
    (no_lack c.variables lits clause) (unspent c.conflicts c.budget left) (no_part c lits formed awake new)
    follows
  where
    unspent : (m n : ℕ) → m < n → Rattle.std.specs.Prelude.eqb m n ≡ false
    unspent m n lt = grind (arith, nat_tests)

    none : (r e l s h : Bool) (p : Replay) → r ≡ false → e ≡ false → l ≡ false → s ≡ false → h ≡ false →
        p ≡ Refutes
        → error_if r Rattle.ba_steps.specs.declared.step.StepError.TheVariants.Memory
        (error_if e Rattle.ba_steps.specs.declared.step.StepError.TheVariants.AfterEnd
        (error_if l Rattle.ba_steps.specs.declared.step.StepError.TheVariants.BadVariable
        (error_if s Rattle.ba_steps.specs.declared.step.StepError.TheVariants.WrongCount
        (error_if h Rattle.ba_steps.specs.declared.step.StepError.TheVariants.NotNew
        (error_of_replay p))))) ≡ None
    none false false false false false p r e l s h follows = ap error_of_replay follows
    none true e l s h p i j k m n o = absurd (cc i)
    none false true l s h p i j k m n o = absurd (cc j)
    none false false true s h p i j k m n o = absurd (cc k)
    none false false false true h p i j k m n o = absurd (cc m)
    none false false false false true p i j k m n o = absurd (cc n)
