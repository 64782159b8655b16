-- What is deleted, and what that leaves.

use Rattle.std.proofs.Common.{◌≡◌, ◌≢◌, ℕ, suc, zero, ◌^◌, ◌<◌, ◌≤◌, Bool, true, false, not, ltb, ◌&&◌, if◌then◌else◌, Option, None, Some, List, [], ◌∷◌, ◌++◌, length, get_or, set, All, refl, sym, ap, subst, ◌∙◌, arith}
use Rattle.std.proofs.lemmas.Bool.{and_parts, and_from}
use Rattle.std.proofs.lemmas.Bool.Decides.{nat_tests}
use Rattle.std.proofs.lemmas.List.{length-set}
use Rattle.std.proofs.lemmas.List.Elements.{All-append, All-cons, All-nil, All-weaker}
use Rattle.std.specs.List.{list_all, slice_get}
use Rattle.ba_lits.specs.Literals.{Literal}
use Rattle.ba_steps.specs.Steps.{AreAbove}
use Rattle.ba_steps.specs.declared.step.CertStep.TheVariants.{Delete}
use Rattle.ba_steps.specs.declared.step.StepError.TheVariants.{AfterEnd, DeadClause, TooSoon, Memory}
use Rattle.ba_checker.specs.States.{Kept, State, live_lits, lits_of, is_live_origin, clause_at, is_learnt_at, is_learnt_entry, width_at, without, without_all}
use Rattle.ba_choices.specs.Judges.{Judge}
use Rattle.ba_checker.specs.StepRules.{error_if, error_of, may_go, after_delete}
use Rattle.ba_watch.specs.Threads.{Clause}
use Rattle.ba_watch.specs.Propagation.{State as Watching, clause_in}
use Rattle.ba_learn.specs.Resolving.{number_of, reason_number, number_at}
use Rattle.ba_search.specs.Searching.{IsDiscarded}
use Rattle.ba_search.specs.Iterations.{AreDiscarded, MarksReasons, IsNoReason}

length-without : (cs : List Kept) (n : ℕ) → length (without cs n) ≡ length cs
length-without cs zero = refl
length-without cs (suc k) = length-set cs k _

pub length-without_all : (cs : List Kept) (ns : List ℕ) → length (without_all cs ns) ≡ length cs
length-without_all cs [] = refl
length-without_all cs (n ∷ ns) = length-without_all (without cs n) ns ∙ length-without cs n

-- ascending numbers go on with a greater one
pub above_push : (last : ℕ) (ns : List ℕ) (n m : ℕ) → AreAbove last (ns ++ n ∷ []) → n < m →
    AreAbove last ((ns ++ n ∷ []) ++ m ∷ [])
above_push last [] n m above more = (above.0, (more, tt))
above_push last (k ∷ ks) n m above more = (above.0, above_push k ks n m above.1 more)

-- the numbers that are collected
pub all_push : (P : ℕ → Type 0) (ns : List ℕ) (n : ℕ) → All P ns → P n → All P (ns ++ n ∷ [])
all_push P ns n all is = All-append P ns (n ∷ []) all (All-cons P n [] is (All-nil P))

pub list_all_push : (p : ℕ → Bool) (ns : List ℕ) (n : ℕ) → list_all p ns ≡ true → p n ≡ true →
    list_all p (ns ++ n ∷ []) ≡ true
list_all_push p [] n all is = ap (λ b. b && true) is
list_all_push p (k ∷ ks) n all is =
    let parts = and_parts (p k) (list_all p ks) all in
    rw (parts.0, list_all_push p ks n parts.1 is) refl

-- the width of a live clause
pub width_live : (cs : List Kept) (n : ℕ) (lits : List Literal) → clause_at cs n ≡ Some lits →
    width_at cs n ≡ length lits
width_live cs n lits is = at (Rattle.ba_checker.specs.States.kept_at cs n) is
  where
    at : (o : Option Kept) → live_lits o ≡ Some lits → length (lits_of o) ≡ length lits
    at None is = absurd (cc is)
    at (Some x) is = ap (λ (ls : List Literal). length ls) (step (is_live_origin x.origin) is)
      where
        step : (b : Bool) → (if b then Some x.lits else None) ≡ Some lits → x.lits ≡ lits
        step true e = cc e
        step false e = absurd (cc e)

-- a learnt clause that the keep rule discards has at least three literals
pub goes : (s : State) (n width : ℕ) → is_learnt_at s.clauses n ≡ true → width ≡ width_at s.clauses n →
    2 < width → may_go s n ≡ true
goes s n width learnt is wide =
    and_from (is_learnt_at s.clauses n) (ltb 2 (width_at s.clauses n)) learnt
    (test (width_at s.clauses n) (omega (arith, is, wide)))
  where
    test : (w : ℕ) → 2 < w → ltb 2 w ≡ true
    test w lt = grind (arith, nat_tests)

-- so the step is allowed
pub delete_allowed : (good : Judge) (s : State) (numbers : List ℕ) → s.ended ≡ false → s.refused ≡ false →
    list_all (may_go s) numbers ≡ true → 1000 ≤ s.learnt → error_of good s (Delete numbers) ≡ None
delete_allowed good s numbers begun awake goes enough =
    none s.refused s.ended (list_all (may_go s) numbers) (ltb s.learnt 1000) awake begun goes
    (test s.learnt enough)
  where
    test : (n : ℕ) → 1000 ≤ n → ltb n 1000 ≡ false
    test n le = grind (arith, nat_tests)

    none : (r e g t : Bool) → r ≡ false → e ≡ false → g ≡ true → t ≡ false →
        error_if r Memory (error_if e AfterEnd (error_if (not g) DeadClause (error_if t TooSoon None))) ≡ None
    none r e g t a b c d = rw (a, b, c, d) refl

-- a number that may go is that of a clause
go_within : (s : State) (n : ℕ) → may_go s n ≡ true → n ≤ length s.clauses
go_within s n goes = within s.clauses n (and_parts (is_learnt_at s.clauses n) (ltb 2 (width_at s.clauses n))
    goes).0
  where
    at : (cs : List Kept) (k : ℕ) → is_learnt_entry (slice_get cs k) ≡ true → k < length cs
    at [] k is = absurd (cc is)
    at (c ∷ cs) zero is = omega arith
    at (c ∷ cs) (suc k) is = omega (arith, at cs k is)

    within : (cs : List Kept) (n : ℕ) → is_learnt_at cs n ≡ true → n ≤ length cs
    within cs zero is = omega arith
    within cs (suc k) is = omega (arith, at cs k is)

-- numbers that were gathered, up to the last one
pub record AreGathered (gives : ℕ → ℕ → Bool →
    Type 0) (s : State) (marks : List Bool) (learnt numbers : List ℕ) (last : ℕ) : Type 0 where
  pub are : AreDiscarded gives s marks learnt numbers
  pub above : (m : ℕ) → last < m → AreAbove 0 (numbers ++ m ∷ [])

pub gathered_none : (gives : ℕ → ℕ → Bool → Type 0) (s : State) (marks : List Bool)
    (learnt numbers : List ℕ) → numbers ≡ [] →
    AreGathered gives s marks learnt numbers 0
gathered_none gives s marks learnt numbers none =
    subst (λ (ns : List ℕ). AreGathered gives s marks learnt ns 0) (sym none) (record {
      are = record {
        numbers_are = All-nil (λ n. (1 ≤ n) × (n < 2 ^ 62));
        ascends = tt;
        go = refl;
        discarded = All-nil (IsDiscarded gives s learnt);
        no_reasons = All-nil (λ n. get_or marks n true ≡ false);
      };
      above = λ m more. (more, tt);
    })

pub pushed : (b : Bool) (old new : List ℕ) (number : ℕ) →
    new ≡ (if b then old ++ number ∷ [] else old) → b ≡ true → new ≡ old ++ number ∷ []
pushed b old new number is there = is ∙ ap (λ (c : Bool). if c then old ++ number ∷ [] else old) there

pub gathered_more : (gives : ℕ → ℕ → Bool → Type 0) (s : State) (marks : List Bool)
    (learnt numbers more : List ℕ) (last number : ℕ) →
    more ≡ numbers ++ number ∷ [] → last < number → length s.clauses < 2 ^ 62 → may_go s number ≡ true →
    IsDiscarded gives s learnt number → get_or marks number true ≡ false →
    AreGathered gives s marks learnt numbers last →
    AreGathered gives s marks learnt more number
gathered_more gives s marks learnt numbers more last number is above few goes given unmarked g =
    subst (λ (ns : List ℕ). AreGathered gives s marks learnt ns number) (sym is) (record {
      are = record {
        numbers_are = all_push (λ n. (1 ≤ n) × (n < 2 ^ 62)) numbers number g.are.numbers_are
            (omega (arith, above), omega (arith, go_within s number goes, few));
        ascends = g.above number above;
        go = list_all_push (may_go s) numbers number g.are.go goes;
        discarded = all_push (IsDiscarded gives s learnt) numbers number g.are.discarded given;
        no_reasons = all_push (λ n. get_or marks n true ≡ false) numbers number g.are.no_reasons unmarked;
      };
      above = λ m higher. above_push 0 numbers number m (g.above number above) higher;
    })

-- what is unmarked is no reason
pub no_reasons_are : (s : Watching) (marks : List Bool) (numbers : List ℕ) →
    MarksReasons s (length s.reasons) marks →
    All (λ n. get_or marks n true ≡ false) numbers → All (IsNoReason s) numbers
no_reasons_are s marks numbers marked unmarked =
    All-weaker (λ n. get_or marks n true ≡ false) (IsNoReason s)
    (λ n none p r c within is at named. cc (sym none
    ∙ (ap (λ m. get_or marks m true) (sym (reason_named s p r c is at ∙ named)) ∙ marked p within)))
    numbers unmarked
  where
    reason_named : (s : Watching) (p r : ℕ) (c : Clause) → get_or s.reasons p None ≡ Some r →
        clause_in s.clauses r ≡ Some c → number_at s p ≡ c.number
    reason_named s p r c is at = ap (reason_number s) is ∙ ap number_of at

-- what an allowed deletion names
pub all_go : (good : Judge) (s : State) (numbers : List ℕ) → error_of good s (Delete numbers) ≡ None →
    list_all (may_go s) numbers ≡ true
all_go good s numbers allowed = step s.refused s.ended (list_all (may_go s) numbers) (ltb s.learnt 1000)
    allowed
  where
    step : (r e g t : Bool) → error_if r Memory (error_if e AfterEnd
        (error_if (not g) DeadClause (error_if t TooSoon None))) ≡ None → g ≡ true
    step true e g t is = absurd (cc is)
    step false true g t is = absurd (cc is)
    step false false true t is = refl
    step false false false t is = absurd (cc is)

-- a narrow clause isn't named
spared_one : (s : State) (n m : ℕ) (lits : List Literal) → clause_at s.clauses n ≡ Some lits →
    length lits ≤ 2 → may_go s m ≡ true → n ≢ m
spared_one s n m lits is narrow goes e =
    wide (is_learnt_at s.clauses m) (width_at s.clauses m) goes
    (omega (arith, ap (width_at s.clauses) (sym e) ∙ width_live s.clauses n lits is, narrow))
  where
    wide : (b : Bool) (w : ℕ) → (b && ltb 2 w) ≡ true → w ≤ 2 → ⊥
    wide true w go le = cc (sym go ∙ small w le)
      where
        small : (w : ℕ) → w ≤ 2 → ltb 2 w ≡ false
        small w le = grind (arith, nat_tests)
    wide false w go le = cc go

-- and stays if others go
set_other : (cs : List Kept) (j k : ℕ) (x : Kept) → j ≢ k → slice_get (set cs k x) j ≡ slice_get cs j
set_other [] j k x ne = refl
set_other (c ∷ cs) zero zero x ne = absurd (ne refl)
set_other (c ∷ cs) zero (suc k) x ne = refl
set_other (c ∷ cs) (suc j) zero x ne = refl
set_other (c ∷ cs) (suc j) (suc k) x ne = set_other cs j k x (λ e. ne (ap suc e))

pub without_other : (cs : List Kept) (n m : ℕ) → n ≢ m → clause_at (without cs m) n ≡ clause_at cs n
without_other cs zero m ne = refl
without_other cs (suc j) zero ne = refl
without_other cs (suc j) (suc k) ne = ap live_lits (set_other cs j k _ (λ e. ne (ap suc e)))

apart_all : (p : ℕ → Bool) (cs : List Kept) (ns : List ℕ) (n : ℕ) → list_all p ns ≡ true →
    ((m : ℕ) → p m ≡ true → n ≢ m) →
    clause_at (without_all cs ns) n ≡ clause_at cs n
apart_all p cs [] n all apart = refl
apart_all p cs (m ∷ ms) n all apart =
    let parts = and_parts (p m) (list_all p ms) all in
    apart_all p (without cs m) ms n parts.1 apart ∙ without_other cs n m (apart m parts.0)

pub stays_without : (s : State) (numbers : List ℕ) (n : ℕ) (lits : List Literal) →
    clause_at s.clauses n ≡ Some lits →
    length lits ≤ 2 → list_all (may_go s) numbers ≡ true →
    clause_at (after_delete s numbers).clauses n ≡ Some lits
stays_without s numbers n lits is narrow all =
    apart_all (may_go s) s.clauses numbers n all (λ m goes. spared_one s n m lits is narrow goes) ∙ is
