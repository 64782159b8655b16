-- Which literals form clauses: with a literal more before them, without their first, within more variables.

use Rattle.std.proofs.Common.{
  ◌≡◌,
  ℕ,
  suc,
  zero,
  ◌+◌,
  ◌-◌,
  ◌<◌,
  ◌≤◌,
  List,
  [],
  ◌∷◌,
  length,
  All,
  arith,
  ◌⊎◌,
  inl,
  inr,
  ⊎_elim,
}
use Rattle.std.proofs.lemmas.List.Elements.{All-weaker}
use Rattle.std.proofs.lemmas.Bool.{cases_eq}
use Rattle.ba_lits.specs.Literals.{Literal, lit_at, IsClause}

pub IsClause-more : (m n : ℕ) (c : List Literal) → m ≤ n → IsClause m c → IsClause n c
IsClause-more m n c le clause = record {
  ascends = clause.ascends;
  counted = clause.counted;
  within = λ k lt. let w = clause.within k lt in omega (arith, w, le);
}

pub clauses-more : (m n : ℕ) (cs : List (List Literal)) → m ≤ n → All (IsClause m) cs → All (IsClause n) cs
clauses-more m n cs le all = All-weaker (IsClause m) (IsClause n) (λ c clause. IsClause-more m n c le clause) cs all

-- literals that begin with a clause whose last variable is `last`, and go on with one that may not follow, form none
pub IsClause-ends : (n last v i : ℕ) (lits : List Literal) → i < length lits → v ≡ (lit_at lits i).variable →
    (i ≡ 0 → last ≡ 0) → ((k : ℕ) → k + 1 ≡ i → last ≡ (lit_at lits k).variable) → (v ≤ last) ⊎ (n < v) →
    IsClause n lits → ⊥
IsClause-ends n last v i lits within v_is none last_is (inr wide) clause =
    omega (arith, clause.within i within)
IsClause-ends n last v i lits within v_is none last_is (inl low) clause = ⊎_elim
    (λ first. omega (arith, none first, clause.counted i within))
    (λ later.
    let lower = clause.ascends (i - 1) i (omega arith) within in
    omega (arith, last_is (i - 1) (omega arith), lower))
    (cases_eq i 0)

pub nil_formed : (n : ℕ) → IsClause n []
nil_formed n = record {
  ascends = λ j k jk lt. absurd (omega arith);
  counted = λ k lt. absurd (omega arith);
  within = λ k lt. absurd (omega arith);
}

-- a literal before a clause of greater variables
pub cons_formed : (n : ℕ) (a : Literal) (rest : List Literal) → 1 ≤ a.variable → a.variable ≤ n →
    (0 < length rest → a.variable < (lit_at rest 0).variable) → IsClause n rest → IsClause n (a ∷ rest)
cons_formed n a rest counted within first clause =
    record { ascends = ascends; counted = each_counted; within = each_within }
  where
    after_first : (k : ℕ) → k < length rest → a.variable < (lit_at rest k).variable
    after_first zero lt = first lt
    after_first (suc k) lt = let begins = first (omega arith) in let goes_on =
        clause.ascends 0 (suc k) (omega arith) lt in omega (arith, begins, goes_on)

    ascends : (j k : ℕ) → j < k → k < suc (length rest) →
        (lit_at (a ∷ rest) j).variable < (lit_at (a ∷ rest) k).variable
    ascends zero zero jk lt = absurd (omega arith)
    ascends zero (suc k) jk lt = after_first k (omega arith)
    ascends (suc j) zero jk lt = absurd (omega arith)
    ascends (suc j) (suc k) jk lt = clause.ascends j k (omega arith) (omega arith)

    each_counted : (k : ℕ) → k < suc (length rest) → 1 ≤ (lit_at (a ∷ rest) k).variable
    each_counted zero lt = counted
    each_counted (suc k) lt = clause.counted k (omega arith)

    each_within : (k : ℕ) → k < suc (length rest) → (lit_at (a ∷ rest) k).variable ≤ n
    each_within zero lt = within
    each_within (suc k) lt = clause.within k (omega arith)

pub single_formed : (n : ℕ) (a : Literal) → 1 ≤ a.variable → a.variable ≤ n → IsClause n (a ∷ [])
single_formed n a counted within = cons_formed n a [] counted within (λ some. absurd (omega arith))
    (nil_formed n)

pub IsClause-rest : (n : ℕ) (b : Literal) (rest : List Literal) → IsClause n (b ∷ rest) → IsClause n rest
IsClause-rest n b rest clause = record {
  ascends = λ j k jk lt. clause.ascends (suc j) (suc k) (omega arith) (omega arith);
  counted = λ k lt. clause.counted (suc k) (omega arith);
  within = λ k lt. clause.within (suc k) (omega arith);
}
