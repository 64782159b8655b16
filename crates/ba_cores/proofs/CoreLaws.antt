-- A core under the present soft literals makes an allowed step.

use Rattle.std.proofs.Common.{◌≡◌, ◌≢◌, ℕ, suc, zero, ◌+◌, ◌-◌, ◌^◌, ◌<◌, ◌≤◌, Bool, false, not, ltb, eqb, Option, None, Some, List, [], ◌∷◌, ◌++◌, map, length, refl, sym, ap, ◌∙◌, arith, subst}
use Rattle.std.proofs.lemmas.Bool.{or_from, le-ltb}
use Rattle.std.proofs.lemmas.Bool.Decides.{nat_tests}
use Rattle.std.proofs.lemmas.List.Elements.{All-head, All-tail}
use Rattle.std.specs.List.{slice_get, list_any}
use Rattle.ba_lits.specs.Literals.{Literal, negate, lit_at}
use Rattle.ba_lits.specs.Satisfaction.{Soft}
use Rattle.ba_lits.specs.Hints.{Replay, Refutes, replay}
use Rattle.ba_lits.proofs.ClauseLaws.{IsClause-more}
use Rattle.ba_learn.specs.Live.{IsSame, AreLive}
use Rattle.ba_steps.specs.Steps.{IsFormed}
use Rattle.ba_steps.specs.declared.step.CertStep.TheVariants.{Core}
use Rattle.ba_steps.specs.declared.step.StepError.TheVariants.{AfterEnd, NotSofts, CoreAfterSet, WrongCount, BadVariable, Memory}
use Rattle.ba_checker.specs.Splits.{is_soft, split_clauses}
use Rattle.ba_checker.specs.States.{Kept, kept, State, clause_at, live_lits}
use Rattle.ba_checker.specs.declared.store.Origin.TheVariants as origins
use Rattle.ba_choices.specs.Judges.{Judge}
use Rattle.ba_checker.specs.StepRules.{error_if, lacks_variable, is_spent, lacks_soft, error_of_replay, error_of, after}
use Rattle.ba_checker.specs.Facts.{Differs, AreDifferent, AreAmong}
use Rattle.ba_search.specs.Searching.{ArePart}
use Rattle.ba_search.specs.Answers.{AreAssumptions, IsCore}
use Rattle.ba_cores.specs.Rounds.{literals_of, IsReady}

-- THE SOFT LITERALS ARE ASSUMPTIONS
among_at : (n : ℕ) (softs : List Soft) (k : ℕ) → AreAmong n softs → k < length (literals_of softs) →
    (1 ≤ (lit_at (literals_of softs) k).variable) × ((lit_at (literals_of softs) k).variable ≤ n)
among_at n [] k all lt = absurd (omega arith)
among_at n (s ∷ ss) zero all lt = All-head (λ (s : Soft). (1 ≤ s.0.variable) × (s.0.variable ≤ n)) s ss all
among_at n (s ∷ ss) (suc k) all lt = among_at n ss k
    (All-tail (λ (s : Soft). (1 ≤ s.0.variable) × (s.0.variable ≤ n)) s ss all) (omega (arith, lt))

differs_at : (x : ℕ) (softs : List Soft) (k : ℕ) → Differs x softs → k < length (literals_of softs) →
    x ≢ (lit_at (literals_of softs) k).variable
differs_at x [] k d lt = absurd (omega arith)
differs_at x (s ∷ ss) zero d lt = λ e. d.0 (sym e)
differs_at x (s ∷ ss) (suc k) d lt = differs_at x ss k d.1 (omega (arith, lt))

different_at : (softs : List Soft) (j k : ℕ) → AreDifferent softs → j < k → k < length (literals_of softs) →
    (lit_at (literals_of softs) j).variable ≢ (lit_at (literals_of softs) k).variable
different_at [] j k d jk lt = absurd (omega arith)
different_at (s ∷ ss) zero zero d jk lt = absurd (omega arith)
different_at (s ∷ ss) zero (suc k) d jk lt = differs_at s.0.variable ss k d.0 (omega (arith, lt))
different_at (s ∷ ss) (suc j) zero d jk lt = absurd (omega arith)
different_at (s ∷ ss) (suc j) (suc k) d jk lt =
    different_at ss j k d.1 (omega (arith, jk)) (omega (arith, lt))

all_assumed : (n : ℕ) (softs : List Soft) → AreAmong n softs → AreDifferent softs →
    AreAssumptions n (literals_of softs)
all_assumed n softs among differ = record {
  counted = λ k lt. (among_at n softs k among lt).0;
  within = λ k lt. (among_at n softs k among lt).1;
  differ = λ j k jk lt. different_at softs j k differ jk lt;
}

pub softs_assumed : (n m : ℕ) (softs : List Soft) (lits : List Literal) → lits ≡ literals_of softs → m ≡ n →
    AreAmong m softs → AreDifferent softs → AreAssumptions n lits
softs_assumed n m softs lits is same among differ =
    let P : ℕ → Type 0 = λ k. AreAssumptions k lits in
    let Q : List Literal → Type 0 = λ ls. AreAssumptions m ls in
    subst P same (subst Q (sym is) (all_assumed m softs among differ))

-- THE STEP IS FORMED
pub core_formed : (s : State) (assumptions lits : List Literal) (hints : List ℕ) (back : ℕ) →
    IsCore s assumptions lits hints back → s.variables < 2 ^ 62 → 0 < length lits → IsFormed (Core lits hints)
core_formed s assumptions lits hints back core few some =
    ((IsClause-more s.variables (2 ^ 62 - 1) lits (omega (arith, few)) core.clause, some), core.numbers)

-- THE STEP IS ALLOWED
pub none_of : (p : Literal → Bool) (xs : List Literal) → ((k : ℕ) → k < length xs → p (lit_at xs k) ≡ false) →
    list_any p xs ≡ false
none_of p [] each = refl
none_of p (x ∷ xs) each =
    or_from (p x) (list_any p xs) (each 0 (omega arith))
    (none_of p xs (λ k lt. each (suc k) (omega (arith, lt))))

no_error : (refused ended lacks spent blocked others : Bool) (r : Replay) → refused ≡ false → ended ≡ false →
    lacks ≡ false → spent ≡ false → blocked ≡ false → others ≡ false → r ≡ Refutes →
    error_if refused Memory (error_if ended AfterEnd
    (error_if lacks BadVariable (error_if spent WrongCount
    (error_if blocked CoreAfterSet (error_if others NotSofts (error_of_replay r)))))) ≡ None
no_error refused ended lacks spent blocked others r e f g h i j k = rw (e, f, g, h, i, j, k) refl

pub core_allowed : (good : Judge) (s : State) (lits : List Literal) (hints : List ℕ) (back : ℕ) →
    IsCore s (literals_of s.softs) lits hints back → IsReady s →
    error_of good s (Core lits hints) ≡ None
core_allowed good s lits hints back core ready =
    no_error s.refused s.ended (lacks_variable s lits) (is_spent s) (ltb 0 (length s.sets))
    (lacks_soft s.softs lits) (replay (clause_at s.clauses) lits hints)
    ready.awake ready.begun
    (none_of (λ (l : Literal). ltb s.variables l.variable) lits
    (λ k lt. le-ltb s.variables (lit_at lits k).variable (core.clause.within k lt)))
    (left s.conflicts s.budget core.left)
    (ap (λ sets. ltb 0 (length sets)) ready.none_blocked)
    (none_of (λ (l : Literal). not (is_soft s.softs (negate l))) lits (λ k lt. ap not (core.negates k lt)))
    core.follows
  where
    left : (m n : ℕ) → m < n → eqb m n ≡ false
    left m n lt = grind (arith, nat_tests)

-- THE SEARCH'S CLAUSES stay part of the checker's
kept_at-more : (xs ys : List Kept) (k : ℕ) (c : List Literal) →
    live_lits (slice_get xs k) ≡ Some c → live_lits (slice_get (xs ++ ys) k) ≡ Some c
kept_at-more [] ys k c is = absurd (cc is)
kept_at-more (x ∷ xs) ys zero c is = is
kept_at-more (x ∷ xs) ys (suc k) c is = kept_at-more xs ys k c is

clause_at-more : (xs ys : List Kept) (number : ℕ) (c : List Literal) → clause_at xs number ≡ Some c →
    clause_at (xs ++ ys) number ≡ Some c
clause_at-more xs ys zero c is = absurd (cc is)
clause_at-more xs ys (suc k) c is = kept_at-more xs ys k c is

same_more : (old new : Option (List Literal)) (lits : List Literal) →
    ((c : List Literal) → old ≡ Some c → new ≡ Some c) → IsSame old lits → IsSame new lits
same_more None new lits more same = absurd same
same_more (Some c) new lits more same = subst (λ (o : Option (List Literal)). IsSame o lits)
    (sym (more c refl)) same

pub part_of_same : (live : ℕ → Option (List Literal)) {clauses : _} → AreLive clauses live →
    ArePart clauses live
part_of_same live are = are.each

pub part_after_core : (s t : State) (lits : List Literal) (hints : List ℕ) {clauses : _} →
    t ≡ after s (Core lits hints) → AreLive clauses (clause_at s.clauses) →
    ArePart clauses (clause_at t.clauses)
part_after_core s t lits hints taken are = λ reference c is.
    same_more (clause_at s.clauses c.number) (clause_at t.clauses c.number) c.lits (grows c.number)
    (are.each reference c is)
  where
    grows : (number : ℕ) (d : List Literal) → clause_at s.clauses number ≡ Some d →
        clause_at t.clauses number ≡ Some d
    grows number d at =
        ap (λ (u : State). clause_at u.clauses number) taken
        ∙ clause_at-more s.clauses (kept origins.Core lits
        ∷ map (kept origins.Split) (split_clauses (s.variables + 1) lits)) number d at
