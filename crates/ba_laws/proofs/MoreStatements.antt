-- A set of statements that could repair a run still could with more statements beside them.
use Rattle.std.proofs.Common.{◌≡◌, ℕ, Bool, true, false, List, [], ◌∷◌, map, refl, sym, ◌∙◌, ap, inl, inr}
use Rattle.std.specs.Prelude.{◌==◌, ◌||◌, ◌&&◌, not, Contains}
use Rattle.std.specs.List.{list_any}
use Rattle.std.proofs.lemmas.Bool.Decides.{Decides-eqb}
use Rattle.ba_numbers.specs.declared.ids.StmtId.{StmtId}
use Rattle.ba_tree.specs.Choices.{admits, lists, is_assert}
use Rattle.ba_tree.specs.Run.{is_done}
use Rattle.ba_tree.specs.Least.{IsFeasible, judge_of, stmt_of}
use Rattle.ba_tree.specs.declared.run.Allowed.TheVariants.{Statements}
use Rattle.ba_tree.specs.declared.run.Bounds.{Bounds}
use Rattle.ba_tree.specs.declared.run.Input.{Input}
use Rattle.ba_tree.specs.declared.run.Step.{Step}
use Rattle.ba_tree.specs.declared.tree.Program.{Program}
use Rattle.ba_tree.proofs.Members.{Has, contains_has, has_contains}
use Rattle.ba_laws.specs.Visits.{Visit, chosen, AreKept, HasVisits}
use Rattle.ba_laws.proofs.Outcomes.{has_visits}

listed : (set : List ℕ) (n : ℕ) → list_any (λ (m : StmtId). m.0 == n) (map stmt_of set) ≡ true → Has set n
listed [] n h = cc
listed (m ∷ set) n h =
    elim (m == n) as (λ b. (b ≡ true → m ≡ n)
    → (b || list_any (λ (m : StmtId). m.0 == n) (map stmt_of set)) ≡ true → Has (m ∷ set) n) [
      | true ↦ (λ same any. inl (sym (same refl)))
      | false ↦ (λ same any. inr (listed set n any))
    ] ((Decides-eqb m n).0) h

is_listed : (set : List ℕ) (n : ℕ) → Has set n → list_any (λ (m : StmtId). m.0 == n) (map stmt_of set) ≡ true
is_listed [] n h = absurd h
is_listed (m ∷ set) n (inl e) =
    ap (λ b. b || list_any (λ (m : StmtId). m.0 == n) (map stmt_of set)) ((Decides-eqb m n).1 (sym e))
is_listed (m ∷ set) n (inr h) =
    elim (m == n) as (λ b. (b || list_any (λ (m : StmtId). m.0 == n) (map stmt_of set)) ≡ true) [
      | true ↦ refl
      | false ↦ is_listed set n h
    ]

-- what is not relaxed with more statements is not relaxed with fewer
not_both : (few many not_assert : Bool) → (few ≡ true → many ≡ true) → many && not_assert ≡ false
    → few && not_assert ≡ false
not_both false many not_assert more h = refl
not_both true many not_assert more h = ap (λ b. b && not_assert) (sym (more refl)) ∙ h

module _ (p : Program) (i : Input) (b : Bounds) (set other : List ℕ)
    (more : (n : ℕ) → Contains set n → Contains other n) where
  admits_fewer : (path : List Step) (here : StmtId)
      → admits p (Statements (map stmt_of other)) path here ≡ false
      → admits p (Statements (map stmt_of set)) path here ≡ false
  unfolding admits
  admits_fewer path here = not_both
      (lists (Statements (map stmt_of set)) path here) (lists (Statements (map stmt_of other)) path here)
      (not (is_assert p here))
      (λ h. is_listed other here.0
      (contains_has other here.0 (more here.0 (has_contains set here.0 (listed set here.0 h)))))

  kept_more : (visits : List Visit) → AreKept p (Statements (map stmt_of set)) visits
      → AreKept p (Statements (map stmt_of other)) visits
  kept_more [] kept = tt
  kept_more (visit ∷ visits) kept =
      (λ h. kept.0 (admits_fewer visit.path visit.stmt h), kept_more visits kept.1)

  pub still_feasible : IsFeasible (judge_of p i b) set → IsFeasible (judge_of p i b) other
  still_feasible feasible =
      let e : HasVisits p i b (Statements (map stmt_of set)) feasible.choices =
      has_visits p i b (Statements (map stmt_of set)) feasible.choices
      (λ wrong. differ (ap is_done (sym wrong) ∙ feasible.is_good)) in
      record {
        choices = chosen p (Statements (map stmt_of other)) e.visits;
        is_good = ap is_done (e.same (Statements (map stmt_of other)) (kept_more e.visits e.kept))
            ∙ feasible.is_good;
      } where
        differ : false ≡ true → ⊥
        differ h = cc
