-- A clause that follows by hints holds wherever the live clauses do.

use Rattle.std.proofs.Common.{◌≡◌, ℕ, Bool, true, false, not, ◌||◌, cond, eqb, Option, None, Some, List, [], ◌∷◌, ◌++◌, refl, sym, ap, ◌∙◌, ⊎_elim}
use Rattle.std.proofs.lemmas.Bool.{or_cases, or_parts}
use mathlib.Core.Bool.{or-false}
use Rattle.ba_lits.specs.Literals.{Literal, negate, index_of}
use Rattle.ba_lits.specs.Satisfaction.{Assignment, lit_true, any_true}
use Rattle.ba_lits.specs.Hints.{has_literal, value_where, Standing, IsFalse, IsUnit, IsOpen, with_literal, standing, Refutes, is_last, after_clause, after_hint, replay, FollowsByHints}
use Rattle.ba_lits.proofs.Satisfied.{lit_true-negate}
use Rattle.ba_lits.proofs.Members.{same_literal, has_literal-push}

-- those of a clause that isn't satisfied are
clause_false : (v : Assignment) (c : List Literal) → any_true v c ≡ false → (l : Literal) → has_literal l c ≡ true → lit_true v l ≡ false
clause_false v [] no_true l has = absurd (cc)
clause_false v (x ∷ xs) no_true l has =
    let parts = or_parts (lit_true v x) (any_true v xs) no_true in
    ⊎_elim
    (λ here. ap (lit_true v) (sym (same_literal x l here)) ∙ parts.0)
    (λ rest. clause_false v xs parts.1 l rest)
    (or_cases (eqb (index_of x) (index_of l)) (has_literal l xs) has)

-- what it means for a clause's truth how it stands if false literals are false
abbrev Says : Assignment → Standing → Bool → Type 0
Says v IsFalse holds = holds ≡ false
Says v (IsUnit l) holds = holds ≡ lit_true v l
Says v IsOpen holds = Unit {0}

says_literal : (v : Assignment) (l : Literal) (value : Option Bool) (s : Standing) (holds : Bool) → (value ≡ Some false → lit_true v l ≡ false) → Says v s holds → Says v (with_literal l value s) (lit_true v l || holds)
says_literal v l (Some false) IsFalse holds is h = ap (λ b. b || holds) (is refl) ∙ h
says_literal v l (Some false) (IsUnit m) holds is h = ap (λ b. b || holds) (is refl) ∙ h
says_literal v l (Some false) IsOpen holds is h = tt
says_literal v l (Some true) s holds is h = tt
says_literal v l None IsFalse holds is h = ap (λ b. lit_true v l || b) h ∙ or-false (lit_true v l)
says_literal v l None (IsUnit m) holds is h = tt
says_literal v l None IsOpen holds is h = tt

value_false : (has there : Bool) → cond has (Some false) (cond there (Some true) None) ≡ Some false → has ≡ true
value_false true there e = refl
value_false false true e = absurd (cc)
value_false false false e = absurd (cc)

says_clause : (v : Assignment) (falses : List Literal) → ((l : Literal) → has_literal l falses ≡ true → lit_true v l ≡ false) → (c : List Literal) → Says v (standing falses c) (any_true v c)
says_clause v falses h [] = refl
says_clause v falses h (l ∷ ls) =
    says_literal v l (value_where falses l) (standing falses ls) (any_true v ls)
    (λ e. h l (value_false (has_literal l falses) (has_literal (negate l) falses) e)) (says_clause v falses h ls)

-- if the live clauses hold, propagation from false literals refutes nothing
not_refuted : (live : ℕ → Option (List Literal)) (v : Assignment) → ((n : ℕ) (c : List Literal) → live n ≡ Some c → any_true v c ≡ true) →
    (hints : List ℕ) (falses : List Literal) → ((l : Literal) → has_literal l falses ≡ true → lit_true v l ≡ false) → replay live falses hints ≡ Refutes → ⊥
not_refuted live v holds [] falses h refuted = absurd (cc)
not_refuted live v holds (n ∷ hints) falses h refuted =
    at_hint (live n) refl (λ l is_true e. not_refuted live v holds hints (falses ++ negate l ∷ []) (more l is_true) e) refuted
  where
    at_clause : (c : List Literal) (s : Standing) → any_true v c ≡ true → Says v s (any_true v c) → ((l : Literal) → lit_true v l ≡ true → replay live (falses ++ negate l ∷ []) hints ≡ Refutes → ⊥) →
        after_clause s (is_last hints) (λ l. replay live (falses ++ negate l ∷ []) hints) ≡ Refutes → ⊥
    at_clause c IsFalse true_ says next e = cc
    at_clause c (IsUnit l) true_ says next e = next l (sym says ∙ true_) e
    at_clause c IsOpen true_ says next e = cc

    more : (l : Literal) → lit_true v l ≡ true → (x : Literal) → has_literal x (falses ++ negate l ∷ []) ≡ true → lit_true v x ≡ false
    more l is_true x has =
        ⊎_elim (λ before. h x before)
        (λ here. ap (lit_true v) (sym here) ∙ (lit_true-negate v l ∙ ap not is_true))
        (has_literal-push x (negate l) falses has)

    at_hint : (o : Option (List Literal)) → live n ≡ o → ((l : Literal) → lit_true v l ≡ true → replay live (falses ++ negate l ∷ []) hints ≡ Refutes → ⊥) → after_hint o falses (is_last hints) (λ l. replay live (falses ++ negate l ∷ []) hints) ≡ Refutes → ⊥
    at_hint None is next e = cc
    at_hint (Some c) is next e = at_clause c (standing falses c) (holds n c is) (says_clause v falses h c) next e

-- the law
pub FollowsByHints-holds : (live : ℕ → Option (List Literal)) (v : Assignment) → ((n : ℕ) (c : List Literal) → live n ≡ Some c → any_true v c ≡ true) →
    (clause : List Literal) (hints : List ℕ) → FollowsByHints live clause hints → any_true v clause ≡ true
FollowsByHints-holds live v holds clause hints follows = cases (any_true v clause) refl
  where
    cases : (b : Bool) → any_true v clause ≡ b → b ≡ true
    cases true is = refl
    cases false is = absurd (not_refuted live v holds hints clause (clause_false v clause is) follows)
