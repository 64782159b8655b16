-- Where the first clause negates selectors alone, each model gives up some group.

use Rattle.std.proofs.Common.{◌≡◌, ◌≢◌, ℕ, suc, zero, ◌<◌, ◌==◌, Bool, true, false, not, ◌&&◌, ◌||◌, ltb, cond, List, [], ◌∷◌, length, get_or, All, ◌⊎◌, inl, inr, refl, sym, ap, ◌∙◌, subst, arith}
use Rattle.std.proofs.lemmas.Bool.{and_parts, and_from, or_cases}
use Rattle.std.proofs.lemmas.Bool.Decides.{nat_tests}
use Rattle.ba_derivations.specs.Encodings.{is_false_group, with_if, false_groups_from, false_groups}
use Rattle.ba_encode.specs.Readings.{choices_read}
use Rattle.ba_encode.specs.declared.encoded.Encoded.{Encoded}
use Rattle.ba_encode.specs.declared.encoded.PlaceReading.{PlaceReading}
use Rattle.ba_enum.specs.Problems.{IsReadable}
use Rattle.ba_encode.specs.Softs.{softs_of}
use Rattle.ba_lits.specs.Formulas.{Cnf}
use Rattle.ba_lits.specs.Literals.{Literal, IsClause}
use Rattle.ba_lits.specs.Satisfaction.{Assignment, Soft, signed, lit_true, any_true, all_true}
use Rattle.ba_checker.specs.Facts.{AreSelectors, IsStart}
use Rattle.solver_tests.specs.Runs.{is_empty_run, has_selector, negates_selectors}

false_selector : (v : Assignment) (x : ℕ) (s : Soft) → v x ≡ false →
    (ltb 0 s.1 && ((s.0.variable == x) && not s.0.negated)) ≡ true → is_false_group v s ≡ true
false_selector v x s off is =
    let parts = and_parts (ltb 0 s.1) ((s.0.variable == x) && not s.0.negated) is in
    let same = and_parts (s.0.variable == x) (not s.0.negated) parts.1 in
    and_from (ltb 0 s.1) (not (lit_true v s.0)) parts.0
    (by_case s.0.negated (v s.0.variable) same.1 (ap v (equal s.0.variable x same.0) ∙ off))
  where
    equal : (a b : ℕ) → (a == b) ≡ true → a ≡ b
    equal a b e = grind (arith, nat_tests)

    by_case : (n b : Bool) → not n ≡ true → b ≡ false → not (signed n b) ≡ true
    by_case true b e f = cc e
    by_case false b e f = ap not f

never_empty : (n : ℕ) (ns : List ℕ) → (n ∷ ns) ≢ []
never_empty n ns e = cc e

some_false : (v : Assignment) (k : ℕ) (softs : List Soft) (x : ℕ) → v x ≡ false → has_selector softs x ≡ true →
    false_groups_from k v softs ≢ []
some_false v k [] x off has = cc has
some_false v k (s ∷ ss) x off has =
    by_case (λ h. some_false v (suc k) ss x off h) (is_false_group v s) refl
  where
    first : Bool
    first = ltb 0 s.1 && ((s.0.variable == x) && not s.0.negated)

    by_case : (has_selector ss x ≡ true → false_groups_from (suc k) v ss ≢ []) → (b : Bool) → is_false_group v s ≡ b →
        with_if b (suc k) (false_groups_from (suc k) v ss) ≢ []
    by_case later true is = never_empty (suc k) (false_groups_from (suc k) v ss)
    by_case later false is = later (elim (or_cases (ltb 0 s.1 && ((s.0.variable == x) && not s.0.negated)) (has_selector ss x) has) [
      | inl h ↦ let both : true ≡ false = sym (false_selector v x s off h) ∙ is in absurd (cc both)
      | inr h ↦ h
    ])

clause_some : (v : Assignment) (softs : List Soft) (lits : List Literal) → negates_selectors softs lits ≡ true →
    any_true v lits ≡ true → false_groups v softs ≢ []
clause_some v softs [] negates holds = cc holds
clause_some v softs (l ∷ ls) negates holds =
    let parts = and_parts (l.negated && has_selector softs l.variable) (negates_selectors softs ls) negates in
    let own = and_parts l.negated (has_selector softs l.variable) parts.0 in
    by_case (λ h. clause_some v softs ls parts.1 h) own.0 own.1
    (or_cases (lit_true v l) (any_true v ls) holds)
  where
    false_if : (n b : Bool) → n ≡ true → signed n b ≡ true → b ≡ false
    false_if true true e f = cc f
    false_if true false e f = refl
    false_if false b e f = cc e

    by_case : (any_true v ls ≡ true → false_groups v softs ≢ []) → l.negated ≡ true → has_selector softs l.variable ≡ true →
        (lit_true v l ≡ true) ⊎ (any_true v ls ≡ true) → false_groups v softs ≢ []
    by_case later negated has (inl h) = some_false v 0 softs l.variable (false_if l.negated (v l.variable) negated h) has
    by_case later negated has (inr h) = later h

pub first_some : (v : Assignment) (softs : List Soft) (clauses : List (List Literal)) (first : List Literal) →
    0 < length clauses → first ≡ get_or clauses 0 [] → negates_selectors softs first ≡ true →
    all_true v clauses ≡ true → false_groups v softs ≢ []
first_some v softs [] first some is negates holds = absurd (omega arith)
first_some v softs (c ∷ cs) first some is negates holds =
    let P : List Literal → Type 0 = λ ls. negates_selectors softs ls ≡ true in
    clause_some v softs c (subst P is negates) ((and_parts (any_true v c) (all_true v cs) holds).0)

pub some_clause : (n m : ℕ) → (n ≡ 0 → ⊥) → n ≡ m → 0 < m
some_clause n m some same = grind (arith, nat_tests)

-- WHAT THE SEARCH ASSUMES of a formula without executions
pub readable_of : (encoded : Encoded) → encoded.places ≡ [] →
    ((v : Assignment) → all_true v encoded.formula.clauses ≡ true → false_groups v (softs_of encoded.groups) ≢ []) →
    IsReadable encoded is_empty_run
readable_of encoded none some = record {
  some = some;
  good_run = λ v holds. ap (λ (ps : List PlaceReading). length (choices_read v ps) == 0) none;
}

pub start_of_selectors : (formula : Cnf) (softs : List Soft) → All (IsClause formula.variables) formula.clauses →
    AreSelectors formula.variables softs → IsStart formula softs
start_of_selectors formula softs clauses selectors = record {
  clauses = clauses;
  softs_among = selectors.among;
  softs_differ = selectors.differ;
}

pub readable_as : (encoded : Encoded) (formula : Cnf) (softs : List Soft) → encoded.places ≡ [] → formula ≡ encoded.formula →
    softs ≡ softs_of encoded.groups →
    ((v : Assignment) → all_true v formula.clauses ≡ true → false_groups v softs ≢ []) → IsReadable encoded is_empty_run
readable_as encoded formula softs none same are some =
    let P : Cnf → Type 0 = λ f. (v : Assignment) → all_true v f.clauses ≡ true → false_groups v softs ≢ [] in
    let Q : List Soft → Type 0 = λ ss. (v : Assignment) → all_true v encoded.formula.clauses ≡ true → false_groups v ss ≢ [] in
    readable_of encoded none (subst Q are (subst P same some))

pub start_as : (encoded : Encoded) (formula : Cnf) (softs : List Soft) → formula ≡ encoded.formula →
    softs ≡ softs_of encoded.groups → All (IsClause formula.variables) formula.clauses →
    AreSelectors formula.variables softs → IsStart encoded.formula (softs_of encoded.groups)
start_as encoded formula softs same are clauses selectors =
    let P : Cnf → Type 0 = λ f. IsStart f (softs_of encoded.groups) in
    let Q : List Soft → Type 0 = λ ss. IsStart formula ss in
    subst P same (subst Q are (start_of_selectors formula softs clauses selectors))
