-- No clause of at most two literals is learnt twice, whatever steps come between.

use Rattle.std.proofs.Common.{◌≡◌, ℕ, suc, zero, ◌+◌, ◌<◌, ◌≤◌, leb, ltb, Bool, true, false, not, ◌&&◌, ◌||◌, None, Some, List, [], ◌∷◌, ◌++◌, map, length, refl, sym, ap, ◌∙◌, arith}
use Rattle.std.proofs.lemmas.Bool.{and_parts, and_from, or_right}
use Rattle.std.proofs.lemmas.Bool.Decides.{nat_tests}
use Rattle.std.proofs.lemmas.List.Folds.{list_any-append}
use Rattle.std.specs.List.{list_any, list_all}
use Rattle.ba_lits.specs.Literals.{Literal, lit_at}
use Rattle.ba_lits.specs.Hints.{has_literal}
use Rattle.ba_lits.proofs.Members.{has_literal-at}
use Rattle.ba_steps.specs.declared.step.CertStep.{CertStep}
use Rattle.ba_steps.specs.declared.step.CertStep.TheVariants.{Learn, Core, Delete, Block, EndLocated, EndNoRepair, EndTooMany, EndSpent}
use Rattle.ba_steps.specs.declared.step.StepError.TheVariants.{AfterEnd, DeadClause, NotNew, TooSoon, WrongCount, BadVariable, Memory}
use Rattle.ba_checker.specs.States.{Kept, kept, State, width_at, is_learnt_at, without, without_all}
use Rattle.ba_checker.specs.Splits.{split_clauses}
use Rattle.ba_checker.specs.Blocks.{block_clause}
use Rattle.ba_checker.specs.Parts.{is_part, is_live_part, holds_clause}
use Rattle.ba_choices.specs.Judges.{Judge}
use Rattle.ba_checker.specs.StepRules.{error_if, lacks_variable, is_spent, hint_error, learn_error, delete_error, may_go, apart_by, error_of, after, after_all}
use Rattle.ba_checker.specs.declared.store.Origin.TheVariants as origins
use Rattle.ba_checker.proofs.FactLaws.{no_error, allowed}

-- a live clause of at most two literals has all of them in these
abbrev narrow : List Literal → Kept → Bool
narrow lits k = is_live_part k lits && leb (length k.lits) 2

abbrev holds_narrow : List Kept → List Literal → Bool
holds_narrow clauses lits = list_any (narrow lits) clauses

-- so these are not new
not_new : (clauses : List Kept) (lits : List Literal) → holds_narrow clauses lits ≡ true →
    holds_clause clauses lits ≡ true
not_new [] lits h = absurd (cc h)
not_new (x ∷ xs) lits h = pick (is_live_part x lits) (leb (length x.lits) 2) (holds_narrow xs lits)
    (holds_clause xs lits) (not_new xs lits) h
  where
    pick : (a b r q : Bool) → (r ≡ true → q ≡ true) → ((a && b) || r) ≡ true → (a || q) ≡ true
    pick true b r q f e = refl
    pick false b r q f e = f e

-- it stays if clauses are added
more : (clauses added : List Kept) (lits : List Literal) → holds_narrow clauses lits ≡ true →
    holds_narrow (clauses ++ added) lits ≡ true
more clauses added lits h = list_any-append (narrow lits) clauses added
    ∙ ap (λ b. b || list_any (narrow lits) added) h

-- and if a wider one is deleted
too_wide : (b : Bool) (n : ℕ) → ltb 2 n ≡ true → (b && leb n 2) ≡ false
too_wide true n wide = small
  where
    small : leb n 2 ≡ false
    small = grind (arith, nat_tests, wide)
too_wide false n wide = refl

without_wide : (lits : List Literal) (clauses : List Kept) (m : ℕ) → ltb 2 (width_at clauses m) ≡ true →
    holds_narrow (without clauses m) lits ≡ holds_narrow clauses lits
without_wide lits clauses zero wide = refl
without_wide lits [] (suc k) wide = refl
without_wide lits (x ∷ xs) (suc zero) wide =
    ap (λ b. b || holds_narrow xs lits) (sym (too_wide (is_live_part x lits) (length x.lits) wide))
without_wide lits (x ∷ xs) (suc (suc k)) wide =
    ap (λ b. narrow lits x || b) (without_wide lits xs (suc k) wide)

same_width : (clauses : List Kept) (m n : ℕ) → width_at (without clauses m) n ≡ width_at clauses n
same_width clauses zero n = refl
same_width clauses (suc j) zero = refl
same_width [] (suc j) (suc k) = refl
same_width (x ∷ xs) (suc zero) (suc zero) = refl
same_width (x ∷ xs) (suc zero) (suc (suc k)) = refl
same_width (x ∷ xs) (suc (suc j)) (suc zero) = refl
same_width (x ∷ xs) (suc (suc j)) (suc (suc k)) = same_width xs (suc j) (suc k)

without_all_wide : (lits : List Literal) (s : State) (clauses : List Kept) (numbers : List ℕ) →
    ((n : ℕ) → width_at clauses n ≡ width_at s.clauses n) → list_all (may_go s) numbers ≡ true →
    holds_narrow (without_all clauses numbers) lits ≡ holds_narrow clauses lits
without_all_wide lits s clauses [] same go = refl
without_all_wide lits s clauses (m ∷ ms) same go =
    let parts = and_parts (may_go s m) (list_all (may_go s) ms) go in
    let wide = and_parts (is_learnt_at s.clauses m) (ltb 2 (width_at s.clauses m)) parts.0 in
    without_all_wide lits s (without clauses m) ms (λ n. same_width clauses m n ∙ same n) parts.1
    ∙ without_wide lits clauses m (ap (ltb 2) (same m) ∙ wide.1)

-- so it stays after each allowed step
stays : (good : Judge) (s : State) (step : CertStep) (lits : List Literal) → error_of good s step ≡ None →
    holds_narrow s.clauses lits ≡ true → holds_narrow (after s step).clauses lits ≡ true
stays good s (Learn c hints) lits none h = more s.clauses (kept origins.Learnt c ∷ []) lits h
stays good s (Core c hints) lits none h =
    more s.clauses (kept origins.Core c ∷ map (kept origins.Split) (split_clauses (s.variables + 1) c)) lits h
stays good s (Delete numbers) lits none h =
    let awake = no_error s.refused Memory (error_if s.ended AfterEnd (delete_error s numbers)) none in
    let going = no_error s.ended AfterEnd (delete_error s numbers) awake.1 in
    let goes = no_error (not (list_all (may_go s) numbers)) DeadClause
    (error_if (ltb s.learnt apart_by) TooSoon None) going.1 in
    without_all_wide lits s s.clauses numbers (λ n. refl) (not_not (list_all (may_go s) numbers) goes.0) ∙ h
  where
    not_not : (b : Bool) → not b ≡ false → b ≡ true
    not_not true e = refl
    not_not false e = absurd (cc)
stays good s (Block groups run) lits none h =
    more s.clauses (kept origins.Blocked (block_clause s.groups groups) ∷ []) lits h
stays good s (EndLocated c hints) lits none h = h
stays good s (EndNoRepair hints) lits none h = h
stays good s EndTooMany lits none h = h
stays good s EndSpent lits none h = h

-- a clause has all its literals in itself
all_within : (xs ys : List Literal) → ((k : ℕ) → k < length xs → has_literal (lit_at xs k) ys ≡ true) →
    is_part xs ys ≡ true
all_within [] ys each = refl
all_within (x ∷ xs) ys each =
    and_from (has_literal x ys) (is_part xs ys) (each zero (omega arith))
    (all_within xs ys (λ k within. each (suc k) (omega (arith, within))))

-- a clause that was learnt is there
learnt : (clauses : List Kept) (lits : List Literal) → length lits ≤ 2 →
    holds_narrow (clauses ++ kept origins.Learnt lits ∷ []) lits ≡ true
learnt clauses lits few =
    list_any-append (narrow lits) clauses (kept origins.Learnt lits ∷ [])
    ∙ or_right (holds_narrow clauses lits) (narrow lits (kept origins.Learnt lits) || false)
    (ap (λ b. b || false) (and_from (is_part lits lits) (leb (length lits) 2)
    (all_within lits lits (has_literal-at lits)) small))
  where
    small : leb (length lits) 2 ≡ true
    small = grind (arith, nat_tests, few)

-- and isn't learnt again
not_again : (good : Judge) (s t : State) (between rest : List CertStep) (lits : List Literal)
    (hints : List ℕ) →
    holds_narrow s.clauses lits ≡ true → after_all good s (between ++ Learn lits hints ∷ rest) ≡ Some t → ⊥
not_again good s t [] rest lits hints h is =
    let next = allowed (error_of good s (Learn lits hints))
    (after_all good (after s (Learn lits hints)) rest) t is in
    let awake = no_error s.refused Memory (error_if s.ended AfterEnd (learn_error s lits hints)) next.0 in
    let going = no_error s.ended AfterEnd (learn_error s lits hints) awake.1 in
    let exists = no_error (lacks_variable s lits) BadVariable
    (error_if (is_spent s) WrongCount (error_if (holds_clause s.clauses lits) NotNew
    (hint_error s lits hints))) going.1 in
    let left = no_error (is_spent s) WrongCount (error_if (holds_clause s.clauses lits) NotNew
    (hint_error s lits hints)) exists.1 in
    let new = no_error (holds_clause s.clauses lits) NotNew (hint_error s lits hints) left.1 in
    cc (sym (not_new s.clauses lits h) ∙ new.0)
not_again good s t (step ∷ between) rest lits hints h is =
    let next = allowed (error_of good s step) (after_all good (after s step) (between ++ Learn lits hints
    ∷ rest)) t is in
    not_again good (after s step) t between rest lits hints (stays good s step lits next.0 h) next.1

pub learnt_once : (good : Judge) (s t : State) (before between rest : List CertStep) (lits : List Literal)
    (first second : List ℕ) → length lits ≤ 2 →
    after_all good s (before ++ Learn lits first ∷ (between ++ Learn lits second ∷ rest)) ≡ Some t → ⊥
learnt_once good s t [] between rest lits first second few is =
    let next = allowed (error_of good s (Learn lits first))
    (after_all good (after s (Learn lits first)) (between ++ Learn lits second ∷ rest)) t is in
    not_again good (after s (Learn lits first)) t between rest lits second (learnt s.clauses lits few) next.1
learnt_once good s t (step ∷ before) between rest lits first second few is =
    let next = allowed (error_of good s step) (after_all good (after s step) (before ++ Learn lits first
    ∷ (between ++ Learn lits second ∷ rest))) t is in
    learnt_once good (after s step) t before between rest lits first second few next.1
