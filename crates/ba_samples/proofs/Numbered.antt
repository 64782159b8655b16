-- The statements of a sample by their numbers: which have a weight, and which is the assertion.
use Rattle.std.proofs.Common.{true≢false, ◌≡◌, zero, suc, ℕ, ◌+◌, ◌-◌, ◌<◌, ◌≤◌, Bool, false, cond, Option, None, Some, List, [], ◌∷◌, ◌++◌, map, refl, sym, ◌∙◌, ap, subst, inl, inr, ◌⊎◌, arith}
use Rattle.std.specs.Prelude.{◌==◌, option_map, slice_get, IsSome}
use Rattle.std.specs.List.{range_with_len}
use Rattle.std.proofs.lemmas.Bool.Decides.{nat_tests}
use Rattle.ba_tree.specs.Choices.{is_assert_info, is_assert_kind}
use Rattle.ba_tree.specs.Least.{WeightList, entry_of, stmt_of, unit_weight, weight_at}
use Rattle.ba_tree.specs.declared.tree.StmtInfo.{StmtInfo}
use Rattle.ba_tree.specs.declared.tree.StmtKind.{StmtKind}
use Rattle.ba_tree.specs.declared.tree.StmtKind.TheVariants.{Initialiser, Assignment, Return, Assert}
use Rattle.ba_tree_laws.proofs.TreeRuns.{is_assert_in}
use Rattle.ba_samples.specs.Sample.{addition_info, info, sample_statements}
use Rattle.ba_samples.proofs.Values.{le_or_lt}

-- READING a row of additions with others after them

info_in : (count line i : ℕ) (rest : List StmtInfo) → i < count
    → slice_get (map addition_info (range_with_len line count) ++ rest) i ≡ Some (addition_info (line + i))
info_in zero line i rest low = let none : i < 0 = low in absurd (omega arith)
info_in (suc count) line zero rest low = ap (λ l. Some (addition_info l)) (omega arith)
info_in (suc count) line (suc i) rest low = info_in count (line + 1) i rest (omega arith)
    ∙ ap (λ l. Some (addition_info l)) (omega arith)

info_behind : (count line i : ℕ) (rest : List StmtInfo)
    → slice_get (map addition_info (range_with_len line count) ++ rest) (count + i) ≡ slice_get rest i
info_behind zero line i rest = let same : 0 + i ≡ i = omega arith in ap (slice_get rest) same
info_behind (suc count) line i rest = let same : suc count + i ≡ suc (count + i) = omega arith in
    ap (slice_get (map addition_info (range_with_len line (suc count)) ++ rest)) same
    ∙ info_behind count (line + 1) i rest

-- STATEMENTS, counted from 0

abbrev kind_of : Option StmtInfo → Option StmtKind
kind_of = option_map (λ (s : StmtInfo). s.kind)

module _ (n : ℕ) where
  abbrev ends : List StmtInfo
  ends = info (n + 3) 5 Assert ∷ info (n + 4) 5 Return ∷ []

  initialiser_at : (i : ℕ) → i ≡ 0 → kind_of (slice_get (sample_statements n) i) ≡ Some Initialiser
  initialiser_at i is = ap (λ i. kind_of (slice_get (sample_statements n) i)) is

  addition_at : (i : ℕ) → 1 ≤ i → i < n + 1 → kind_of (slice_get (sample_statements n) i) ≡ Some Assignment
  addition_at zero from to = absurd (omega arith)
  addition_at (suc i) from to = ap kind_of (info_in n 3 i ends (omega arith))

  behind_at : (i k : ℕ) → i ≡ suc (n + k) → kind_of (slice_get (sample_statements n) i)
      ≡ kind_of (slice_get ends k)
  behind_at i k is = ap (λ i. kind_of (slice_get (sample_statements n) i)) is
      ∙ ap kind_of (info_behind n 3 k ends)

  assertion_at : (i : ℕ) → i ≡ suc n → kind_of (slice_get (sample_statements n) i) ≡ Some Assert
  assertion_at i is = behind_at i 0 (omega arith)

  return_at : (i : ℕ) → i ≡ suc (suc n) → kind_of (slice_get (sample_statements n) i) ≡ Some Return
  return_at i is = behind_at i 1 (omega arith)

  none_at : (i : ℕ) → n + 3 ≤ i → kind_of (slice_get (sample_statements n) i) ≡ None
  none_at i from = behind_at i (i - (n + 1)) (omega arith) ∙ past (i - (n + 1)) (omega arith) where
    past : (k : ℕ) → 2 ≤ k → kind_of (slice_get ends k) ≡ None
    past zero low = absurd (omega arith)
    past (suc zero) low = absurd (omega arith)
    past (suc (suc k)) low = refl

-- WEIGHTS

abbrev weight_of_kind : Option StmtKind → Option ℕ
weight_of_kind None = None
weight_of_kind (Some kind) = unit_weight kind

entries_of : (infos : List StmtInfo) (i : ℕ)
    → entry_of (slice_get (map (λ (s : StmtInfo). unit_weight s.kind) infos) i)
    ≡ weight_of_kind (kind_of (slice_get infos i))
entries_of [] i = refl
entries_of (s ∷ infos) zero = refl
entries_of (s ∷ infos) (suc i) = entries_of infos i

is_zero : (s : ℕ) → 1 ≤ s → (s == 0) ≡ false
is_zero s from = grind (arith, nat_tests)

module _ (n : ℕ) where
  abbrev pub sample_weights : WeightList
  sample_weights = map (λ (s : StmtInfo). unit_weight s.kind) (sample_statements n)

  weight_is : (s : ℕ) → 1 ≤ s
      → weight_at sample_weights s ≡ weight_of_kind (kind_of (slice_get (sample_statements n) (s - 1)))
  weight_is s from =
      ap (λ b. cond b None (entry_of (slice_get sample_weights (s - 1)))) (is_zero s from)
      ∙ entries_of (sample_statements n) (s - 1)

  -- the statements that can repair the run
  pub repairing_weight : (s : ℕ) → 1 ≤ s → s ≤ n + 1 → weight_at sample_weights s ≡ Some 1
  repairing_weight s from to = weight_is s from ∙ by (s - 1) (omega arith) where
    by : (i : ℕ) → i < n + 1 → weight_of_kind (kind_of (slice_get (sample_statements n) i)) ≡ Some 1
    by zero low = refl
    by (suc i) low = ap weight_of_kind (addition_at n (suc i) (omega arith) low)

  -- a statement with a weight
  pub record IsWeighed (s : ℕ) : Type 0 where
    pub from : 1 ≤ s
    pub weight : weight_at sample_weights s ≡ Some 1
    pub which : (s ≤ n + 1) ⊎ (s ≡ n + 3)

  weighed_return : (s : ℕ) → s ≡ n + 3 → IsWeighed s
  weighed_return s is = record {
    from = omega arith;
    weight = weight_is s (omega arith) ∙ ap weight_of_kind (return_at n (s - 1) (omega arith));
    which = inr is;
  }

  no_weight : (s : ℕ) → weight_at sample_weights s ≡ None → IsSome (weight_at sample_weights s) → ⊥
  no_weight s none some = true≢false (sym (subst IsSome none some))

  pub weighed : (s : ℕ) → IsSome (weight_at sample_weights s) → IsWeighed s
  weighed zero some = absurd (true≢false (sym some))
  weighed (suc i) some = elim (le_or_lt (suc i) (n + 1)) [
    | inl low ↦ record {
      from = omega arith;
      weight = repairing_weight (suc i) (omega arith) low;
      which = inl low;
    }
    | inr high ↦ elim (le_or_lt i (suc n)) [
      | inl low ↦ absurd (no_weight (suc i)
          (weight_is (suc i) (omega arith) ∙ ap weight_of_kind (assertion_at n (suc i - 1) (omega arith)))
          some)
      | inr above ↦ elim (le_or_lt i (suc (suc n))) [
        | inl low ↦ weighed_return (suc i) (omega arith)
        | inr past ↦ absurd (no_weight (suc i)
            (weight_is (suc i) (omega arith) ∙ ap weight_of_kind (none_at n (suc i - 1) (omega arith))) some)
      ]
    ]
  ]

-- THE ASSERTION is no statement that can repair the run

abbrev is_assert_of : Option StmtKind → Bool
is_assert_of None = false
is_assert_of (Some kind) = is_assert_kind kind

assert_by_kind : (o : Option StmtInfo) → is_assert_info o ≡ is_assert_of (kind_of o)
assert_by_kind None = refl
assert_by_kind (Some s) = refl

pub no_assertion : (n s : ℕ) → 1 ≤ s → s ≤ n + 1 → is_assert_in (sample_statements n) (stmt_of s) ≡ false
no_assertion n s from to =
    ap (λ b. is_assert_info (cond b None (slice_get (sample_statements n) (s - 1)))) (is_zero s from)
    ∙ assert_by_kind (slice_get (sample_statements n) (s - 1))
    ∙ by (s - 1) (omega arith) where
      by : (i : ℕ) → i < n + 1 → is_assert_of (kind_of (slice_get (sample_statements n) i)) ≡ false
      by zero low = refl
      by (suc i) low = ap is_assert_of (addition_at n (suc i) (omega arith) low)
