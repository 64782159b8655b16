-- What may be relaxed where the groups of a set are, in a word list and in the program.
use Rattle.std.proofs.Common.{◌≡◌, ℕ, ◌==◌, Bool, true, false, not, ◌&&◌, ◌||◌, Option, None, Some, is_some, List, [], ◌∷◌, map, refl, sym, ◌∙◌, ap, subst}
use Rattle.std.proofs.lemmas.Bool.{eqb-true}
use Rattle.std.specs.List.{list_any}
use Rattle.std.specs.Prelude.{IsSome}
use Rattle.ba_encode.specs.Groups.{relaxes_in}
use Rattle.ba_encode.specs.declared.grouping.Grouping.TheVariants.{ByStatement}
use Rattle.ba_formula.proofs.Members.{is_in}
use Rattle.ba_numbers.specs.declared.ids.StmtId.{StmtId}
use Rattle.ba_tree.specs.Choices.{admits, is_assert}
use Rattle.ba_tree.specs.Least.{AreRelaxableAbove, AreWeightsOf, IsRelaxableSet, WeightList, stmt_of, weight_at}
use Rattle.ba_tree.specs.declared.run.Allowed.TheVariants.{Statements}
use Rattle.ba_tree.specs.declared.run.Step.{Step}
use Rattle.ba_tree.specs.declared.run.Weights.{Weights}
use Rattle.ba_tree.specs.declared.tree.Program.{Program}

-- WHAT MAY BE RELAXED

listed : (set : List ℕ) (n : ℕ) → list_any (λ (m : StmtId). m.0 == n) (map stmt_of set) ≡ is_in set n
listed [] n = refl
listed (m ∷ set) n = ap (λ t. (m == n) || t) (listed set n)

has-weight : (w : WeightList) (low : ℕ) (set : List ℕ) (n : ℕ) → AreRelaxableAbove w low set →
    is_in set n ≡ true
    → IsSome (weight_at w n)
has-weight w low [] n are is = absurd (cc)
has-weight w low (m ∷ set) n are is =
    by_case (m == n) refl (λ in_rest. has-weight w m set n are.2 in_rest)
  where
    by_case : (t : Bool) → (m == n) ≡ t → (is_in set n ≡ true → IsSome (weight_at w n)) →
        IsSome (weight_at w n)
    by_case true same later = subst (λ k. IsSome (weight_at w k)) (eqb-true m n same) are.1
    by_case false other later = later (ap (λ t. t || is_in set n) (sym other) ∙ is)

some-true : {A : Type 0} → (o : Option A) → IsSome o → is_some o ≡ true
some-true None some = absurd (cc)
some-true (Some a) some = refl

no-weight : {A : Type 0} → (o : Option A) → IsSome o → o ≡ None → ⊥
no-weight None some none = cc
no-weight (Some a) some none = cc

-- a statement that has a weight is no assert
pub not-assert : (p : Program) (w : WeightList) → AreWeightsOf p w → (stmt : StmtId)
    → IsSome (weight_at w stmt.0) → not (is_assert p stmt) ≡ true
not-assert p w are_weights stmt some = by_case (is_assert p stmt) refl where
  by_case : (t : Bool) → is_assert p stmt ≡ t → not (is_assert p stmt) ≡ true
  by_case true is = absurd (no-weight (weight_at w stmt.0) some (are_weights.no_assert stmt.0 is))
  by_case false is = ap not is

-- an execution may be relaxed in the program exactly where it may in the list
module _ (p : Program) (weights : Weights) (are_weights : AreWeightsOf p weights.of) (set : List ℕ)
    (relaxable : IsRelaxableSet weights.of set) where
  at-statement : (path : List Step) (stmt : StmtId)
      → relaxes_in (ByStatement weights) (is_in set) path stmt
      ≡ admits p (Statements (map stmt_of set)) path stmt
  unfolding admits
  at-statement path stmt = by_case (is_in set stmt.0) refl where
    by_case : (t : Bool) → is_in set stmt.0 ≡ t → relaxes_in (ByStatement weights) (is_in set) path stmt
        ≡ list_any (λ (m : StmtId). m.0 == stmt.0) (map stmt_of set) && not (is_assert p stmt)
    by_case true is =
        let some : IsSome (weight_at weights.of stmt.0) = has-weight weights.of 0 set stmt.0 relaxable is in
        ap (λ t. t && is_some (weight_at weights.of stmt.0)) is
        ∙ some-true (weight_at weights.of stmt.0) some
        ∙ sym (ap (λ t. t && not (is_assert p stmt)) (listed set stmt.0 ∙ is)
        ∙ not-assert p weights.of are_weights stmt some)
    by_case false is =
        ap (λ t. t && is_some (weight_at weights.of stmt.0)) is
        ∙ sym (ap (λ t. t && not (is_assert p stmt)) (listed set stmt.0 ∙ is))

  pub same-relaxes : relaxes_in (ByStatement weights) (is_in set) ≡ admits p (Statements (map stmt_of set))
  same-relaxes = λ i path stmt. at-statement path stmt i
