-- Each End step is allowed if the search ends, and says what was found.

use Rattle.std.proofs.Common.{◌≡◌, ℕ, suc, ◌+◌, ◌-◌, ◌^◌, ◌<◌, Bool, true, false, not, ltb, eqb, None, List, [], ◌∷◌, length, refl, sym, ap, ◌∙◌, arith}
use Rattle.std.proofs.lemmas.Bool.{eq-eqb, le-ltb}
use Rattle.std.proofs.lemmas.Bool.Decides.{nat_tests}
use Rattle.ba_derivations.specs.Derivations.{sets_of}
use Rattle.ba_derivations.specs.Derivations as derived
use Rattle.ba_derivations.specs.declared.verdict.FoundSet.{FoundSet}
use Rattle.ba_derivations.specs.declared.verdict.Verdict.TheVariants.{Located}
use Rattle.ba_cores.proofs.CoreLaws.{none_of}
use Rattle.ba_enum.specs.Enumerating.{EndsWith, HaveSame}
use Rattle.ba_enum.specs.Leading.{IsReady}
use Rattle.ba_enum.specs.Turning.{IsLast}
use Rattle.ba_lits.specs.Hints.{Replay, Refutes, FollowsByHints, replay}
use Rattle.ba_lits.specs.Literals.{Literal, negate, lit_at}
use Rattle.ba_lits.proofs.ClauseLaws.{IsClause-more}
use Rattle.ba_steps.specs.Sinks.{with_step}
use Rattle.ba_steps.specs.Steps.{IsFormed}
use Rattle.ba_steps.specs.declared.step.CertStep.TheVariants.{EndLocated, EndNoRepair, EndTooMany, EndSpent}
use Rattle.ba_steps.specs.declared.step.StepError.TheVariants.{AfterEnd, Memory, BadVariable, NotSofts, WrongCount}
use Rattle.ba_checker.specs.Puts.{Checking}
use Rattle.ba_choices.specs.Judges.{Judge}
use Rattle.ba_checker.specs.StepRules.{error_if, lacks_variable, is_spent, lacks_soft, error_of_replay, are_too_many, error_of, after}
use Rattle.ba_checker.specs.Splits.{is_soft}
use Rattle.ba_checker.specs.States.{State, clause_at}
use Rattle.ba_tree.specs.Least.{AreInOrder}

sets_long : (found : List FoundSet) → length (sets_of found) ≡ length found
sets_long [] = refl
sets_long (b ∷ bs) = ap suc (sets_long bs)

left : (m n : ℕ) → m < n → eqb m n ≡ false
left m n lt = grind (arith, nat_tests)

-- THE LAST CORE
pub last_formed : (s : State) (found : List FoundSet) (lits : List Literal) (hints : List ℕ) (back : ℕ) →
    IsLast s found lits hints back → s.variables < 2 ^ 62 → IsFormed (EndLocated lits hints)
last_formed s found lits hints back last few =
    (IsClause-more s.variables (2 ^ 62 - 1) lits (omega (arith, few)) last.core.clause, last.core.numbers)

no_error : (refused ended none spent lacks others : Bool) (r : Replay) → refused ≡ false → ended ≡ false →
    none ≡ false → spent ≡ false → lacks ≡ false → others ≡ false → r ≡ Refutes →
    error_if refused Memory (error_if ended AfterEnd
    (error_if none WrongCount (error_if spent WrongCount
    (error_if lacks BadVariable (error_if others NotSofts (error_of_replay r)))))) ≡ None
no_error refused ended none spent lacks others r e f g h i j k = rw (e, f, g, h, i, j, k) refl

pub last_allowed : (good : Judge) (s : State) (found : List FoundSet) (lits : List Literal) (hints : List ℕ)
    (back : ℕ) →
    IsLast s found lits hints back → s.sets ≡ sets_of found → IsReady s →
    error_of good s (EndLocated lits hints) ≡ None
last_allowed good s found lits hints back last sets ready =
    no_error s.refused s.ended (not (ltb 0 (length s.sets))) (is_spent s) (lacks_variable s lits)
    (lacks_soft s.softs lits) (replay (clause_at s.clauses) lits hints)
    ready.awake ready.begun
    (some (length s.sets) (length found) (ap (λ (ss : List (List ℕ)). length ss) sets
    ∙ sets_long found) last.some)
    (left s.conflicts s.budget last.core.left)
    (none_of (λ (l : Literal). ltb s.variables l.variable) lits
    (λ k lt. le-ltb s.variables (lit_at lits k).variable (last.core.clause.within k lt)))
    (none_of (λ (l : Literal). not (is_soft s.softs (negate l))) lits
    (λ k lt. ap not (last.core.negates k lt)))
    last.core.follows
  where
    some : (m n : ℕ) → m ≡ n → 0 < n → not (ltb 0 m) ≡ false
    some m n e lt = grind (arith, nat_tests)

pub last_ends : (old new : Checking) (found sets : List FoundSet) (lits : List Literal) (hints : List ℕ)
    (back weight : ℕ) →
    IsLast old.checker found lits hints back → old.checker.sets ≡ sets_of found → IsReady old.checker →
    weight ≡ old.checker.bound → HaveSame sets found → AreInOrder (sets_of sets) → length sets ≡ length found
    →
    IsFormed (EndLocated lits hints) → new.checker ≡ after old.checker (EndLocated lits hints) →
    new.told.logs ≡ with_step (EndLocated lits hints) old.told.logs →
    EndsWith found old new (Located weight sets)
last_ends old new found sets lits hints back weight last are ready is same order count formed taken told =
    let s = old.checker in
    record {
      last = EndLocated lits hints;
      said = derived.Located s.bound s.sets;
      formed = formed;
      allowed = last_allowed old.accepts s found lits hints back last are ready;
      says = refl;
      fits = (
        ap (λ w. derived.Located w s.sets) (sym is) ∙ ap (λ (ss : List (List ℕ)). derived.Located weight ss)
            are,
        same,
        order,
        let few = last.few in omega (arith, few, count),
      );
      taken = taken;
      told = told;
    }

-- TOO MANY
count_error : (refused ended right : Bool) → refused ≡ false → ended ≡ false → right ≡ true →
    error_if refused Memory (error_if ended AfterEnd (error_if (not right) WrongCount None)) ≡ None
count_error refused ended right e f g = rw (e, f, g) refl

pub many_allowed : (good : Judge) (s : State) (found : List FoundSet) → length found ≡ s.most_sets + 1 →
    s.sets ≡ sets_of found → IsReady s → error_of good s EndTooMany ≡ None
many_allowed good s found many are ready =
    count_error s.refused s.ended (are_too_many s) ready.awake ready.begun
    (eq-eqb (length s.sets) (s.most_sets + 1) (ap (λ (ss : List (List ℕ)). length ss) are
    ∙ (sets_long found ∙ many)))

-- SPENT
pub spent_allowed : (good : Judge) (s : State) → s.conflicts ≡ s.budget → IsReady s →
    error_of good s EndSpent ≡ None
spent_allowed good s spent ready =
    count_error s.refused s.ended (is_spent s) ready.awake ready.begun (eq-eqb s.conflicts s.budget spent)

-- NO MODEL
model_error : (refused ended some spent : Bool) (r : Replay) → refused ≡ false → ended ≡ false →
    some ≡ false →
    spent ≡ false → r ≡ Refutes →
    error_if refused Memory (error_if ended AfterEnd
    (error_if some WrongCount (error_if spent WrongCount (error_of_replay r)))) ≡ None
model_error refused ended some spent r e f g h i = rw (e, f, g, h, i) refl

pub none_allowed : (good : Judge) (s : State) (found : List FoundSet) (hints : List ℕ) →
    FollowsByHints (clause_at s.clauses) [] hints → s.conflicts < s.budget → found ≡ [] →
    s.sets ≡ sets_of found →
    IsReady s → error_of good s (EndNoRepair hints) ≡ None
none_allowed good s found hints follows more none are ready =
    model_error s.refused s.ended (ltb 0 (length s.sets)) (is_spent s) (replay (clause_at s.clauses) [] hints)
    ready.awake ready.begun
    (ap (λ (ss : List (List ℕ)). ltb 0 (length ss)) are
    ∙ ap (λ (fs : List FoundSet). ltb 0 (length (sets_of fs))) none)
    (left s.conflicts s.budget more) follows
