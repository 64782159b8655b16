-- The least sets of a sample.
use Rattle.std.proofs.Common.{true≢false, ◌≡◌, zero, suc, ℕ, ◌+◌, ◌-◌, ◌<◌, ◌≤◌, pos, Bool, true, false, not, ◌&&◌, ◌||◌, Ok, List, [], ◌∷◌, ◌++◌, map, refl, sym, ◌∙◌, ap, subst, inl, inr, arith}
use Rattle.std.specs.Prelude.{◌==◌, Contains, IsSome, unwrap_or}
use Rattle.std.specs.List.{range_with_len}
use Rattle.std.specs.Option.{is_some}
use Rattle.std.proofs.lemmas.List.Sums.{sum_by-cons}
use Rattle.std.proofs.lemmas.Bool.Decides.{nat_tests}
use Rattle.ba_choices.specs.declared.Choice.{Choice}
use Rattle.ba_choices.specs.declared.Choice.TheVariants.{Take}
use Rattle.ba_tree.specs.Least.{AreInOrder, AreLeast, IsBeforeAll, IsFeasible, IsLeastSet, IsRelaxableSet, judge_of, stmt_of, unit_weight, unit_weights, weight_at, weight_of}
use Rattle.ba_tree.specs.Meaning.{Calls}
use Rattle.ba_tree.specs.Run.{call_at, if_none_left, is_done, outcome_of, plain_run, run_of}
use Rattle.ba_tree.specs.Trees.{tree_of, ProgramTree}
use Rattle.ba_tree.specs.declared.run.Allowed.{Allowed}
use Rattle.ba_tree.specs.declared.run.Allowed.TheVariants.{Statements}
use Rattle.ba_tree.specs.declared.run.Bounds.{Bounds}
use Rattle.ba_tree.specs.declared.run.Exit.TheVariants.{Return}
use Rattle.ba_tree.specs.declared.run.Flow.TheVariants.{Leaves}
use Rattle.ba_tree.specs.declared.run.Input.{Input}
use Rattle.ba_tree.specs.declared.run.Outcome.TheVariants.{AssertFails}
use Rattle.ba_tree.specs.declared.tree.Program.{Program}
use Rattle.ba_tree.specs.declared.tree.StmtInfo.{StmtInfo}
use Rattle.ba_tree.proofs.Members.{Has, contains_has, has_contains}
use Rattle.ba_tree_laws.proofs.TreeRuns.{is_assert_in}
use Rattle.ba_samples.specs.Sample.{addition, sample_body, sample_end, sample_sets, sample_statements, sample_tree}
use Rattle.ba_samples.proofs.Values.{le_or_lt}
use Rattle.ba_samples.proofs.Statements.{relaxed, runs, standing, one_taken, initialised, initialiser_taken, all_added, end_fails, end_holds}
use Rattle.ba_samples.proofs.Runs.{run_is}
use Rattle.ba_samples.proofs.Numbered.{IsWeighed, no_assertion, repairing_weight, sample_weights, weighed}

-- WHAT IS RELAXED if these statements may be

other_number : (a b : ℕ) → (a ≡ b → ⊥) → (a == b) ≡ false
other_number a b differ = grind (arith, nat_tests)

same_number : (a b : ℕ) → a ≡ b → (a == b) ≡ true
same_number a b same = grind (arith, nat_tests)

-- the end of a run without repair is no good one, whatever choices are left
failed : (choices : List Choice) (n : ℕ) → is_done (if_none_left choices (AssertFails (stmt_of n))) ≡ false
failed [] n = refl
failed (c ∷ choices) n = refl

-- SETS OF ONE STATEMENT, in order

abbrev singles : ℕ → ℕ → List (List ℕ)
singles from count = map (λ stmt. stmt ∷ []) (range_with_len from count)

before_all : (s from count : ℕ) → s < from → IsBeforeAll (s ∷ []) (singles from count)
before_all s from zero low = tt
before_all s from (suc count) low = (inl low, before_all s (from + 1) count (omega arith))

in_order : (from count : ℕ) → AreInOrder (singles from count)
in_order from zero = tt
in_order from (suc count) = (before_all from (from + 1) count (omega arith), in_order (from + 1) count)

record IsSingle (from count : ℕ) (set : List ℕ) : Type 0 where
  stmt : ℕ
  low : from ≤ stmt
  high : stmt < from + count
  is : set ≡ stmt ∷ []

is_single : (from count : ℕ) (set : List ℕ) → Has (singles from count) set → IsSingle from count set
is_single from zero set h = absurd h
is_single from (suc count) set (inl e) = record { stmt = from; low = omega arith; high = omega arith; is = e }
is_single from (suc count) set (inr h) = let one = is_single (from + 1) count set h in record {
  stmt = one.stmt;
  low = let l = one.low in omega arith;
  high = let l = one.high in omega arith;
  is = one.is;
}

has_single : (from count s : ℕ) → from ≤ s → s < from + count → Has (singles from count) (s ∷ [])
has_single from zero s low high = absurd (omega arith)
has_single from (suc count) s low high = elim (le_or_lt s from) [
  | inl first ↦ inl (ap (λ s. s ∷ []) (omega arith))
  | inr later ↦ inr (has_single (from + 1) count s (omega arith) (omega arith))
]

-- WEIGHTS OF SETS

module _ (n : ℕ) where
  abbrev weight : ℕ → ℕ
  weight s = unwrap_or (weight_at (sample_weights n) s) 0

  weight_from : (s : ℕ) (set : List ℕ)
      → weight_of (sample_weights n) (s ∷ set) ≡ weight s + weight_of (sample_weights n) set
  weight_from s set = sum_by-cons weight s set

  weighs_one : (s : ℕ) → IsWeighed n s → weight s ≡ 1
  weighs_one s is = ap (λ w. unwrap_or w 0) is.weight

  one_weighs_one : (s : ℕ) → IsWeighed n s → weight_of (sample_weights n) (s ∷ []) ≡ 1
  one_weighs_one s is = weight_from s [] ∙ ap (λ w. w + 0) (weighs_one s is)

  some_weigh : (s : ℕ) (set : List ℕ) → IsWeighed n s → 1 ≤ weight_of (sample_weights n) (s ∷ set)
  some_weigh s set is = let sum = weight_from s set in let one = weighs_one s is in omega arith

  two_weigh : (s t : ℕ) (set : List ℕ) → IsWeighed n s → IsWeighed n t
      → 2 ≤ weight_of (sample_weights n) (s ∷ t ∷ set)
  two_weigh s t set is that = let sum = weight_from s (t ∷ set) in let one = weighs_one s is in
      let more = some_weigh t set that in omega arith

module _ (n : ℕ) (p : Program) (same : tree_of p ≡ sample_tree n) where
  weights_are : unit_weights p ≡ sample_weights n
  weights_are = ap (λ (t : ProgramTree). map (λ (info : StmtInfo). unit_weight info.kind) t.statements) same

  single_weight : (set : List ℕ) → Has (sample_sets n) set → weight_of (sample_weights n) set ≡ 1
  single_weight set has = let one = is_single 1 (n + 1) set has in
      let high = one.high in
      let some = repairing_weight n one.stmt one.low (omega arith) in
      ap (weight_of (sample_weights n)) one.is
      ∙ one_weighs_one n one.stmt (weighed n one.stmt (ap is_some some))

  pub sets_weigh : (set : List ℕ) → Contains (sample_sets n) set → weight_of (unit_weights p) set ≡ 1
  sets_weigh set has = ap (λ weights. weight_of weights set) weights_are
      ∙ single_weight set (contains_has (sample_sets n) set has)

  module _ (low : n ≤ 3997) (i : Input) (b : Bounds) where
    abbrev may_relax : List ℕ → ℕ → Bool
    may_relax set = relaxed (sample_statements n) (Statements (map stmt_of set)) b.turns
        (call_at p (Statements (map stmt_of set)) b.turns (b.frames - 1))

    -- a statement that is not in a set of one
    not_relaxed : (s k : ℕ) → (s ≡ k → ⊥) → may_relax (s ∷ []) k ≡ false
    not_relaxed s k differ =
        ap (λ same. (same || false) && not (is_assert_in (sample_statements n) (stmt_of k)))
        (other_number s k differ)

    is_relaxed : (s : ℕ) → 1 ≤ s → s ≤ n + 1 → may_relax (s ∷ []) s ≡ true
    is_relaxed s from to =
        ap (λ same. (same || false) && not (is_assert_in (sample_statements n) (stmt_of s)))
        (same_number s s refl)
        ∙ ap not (no_assertion n s from to)

    -- RUNS THAT FAIL: what is relaxed is no statement that can repair the run

    module _ (set : List ℕ) (written : (k : ℕ) → 1 ≤ k → k ≤ n + 1 → may_relax set k ≡ false) where
      abbrev calls : Calls
      calls = call_at p (Statements (map stmt_of set)) b.turns (b.frames - 1)

      fails : (choices : List Choice) → run_of p i b (Statements (map stmt_of set)) choices
          ≡ if_none_left choices (AssertFails (stmt_of (n + 2)))
      fails choices = run_is n p same i b (Statements (map stmt_of set)) choices
          ∙ ap outcome_of
          (initialised (sample_statements n) (Statements (map stmt_of set)) b.turns calls 0 choices
          (map addition (range_with_len 2 n) ++ sample_end n) (written 1 (omega arith) (omega arith))
          ∙ all_added (sample_statements n) (Statements (map stmt_of set)) b.turns calls n 2 0 choices
          (sample_end n)
          (λ k from to. written k (omega arith) (omega arith)) (omega arith)
          ∙ end_fails (sample_statements n) (Statements (map stmt_of set)) b.turns calls n (0 + n) choices
          (omega arith))

      not_feasible : IsFeasible (judge_of p i b) set → ⊥
      not_feasible feasible = true≢false (sym feasible.is_good ∙ ap is_done (fails feasible.choices)
          ∙ failed feasible.choices (n + 2))

    none_feasible : IsFeasible (judge_of p i b) [] → ⊥
    none_feasible = not_feasible [] (λ k from to. refl)

    return_not_feasible : (s : ℕ) → s ≡ n + 3 → IsFeasible (judge_of p i b) (s ∷ []) → ⊥
    return_not_feasible s is = not_feasible (s ∷ []) (λ k from to. not_relaxed s k (λ same. omega arith))

    -- RUNS THAT ARE REPAIRED

    module _ (s : ℕ) (from : 1 ≤ s) (to : s ≤ n + 1) where
      abbrev repair : List Choice
      repair = Take (pos s ∷ []) ∷ []

      abbrev only : Allowed
      only = Statements (map stmt_of (s ∷ []))

      abbrev its_calls : Calls
      its_calls = call_at p only b.turns (b.frames - 1)

      ends_well : (w : ℕ) → w ≡ n + 1
          → runs (sample_statements n) only b.turns its_calls (sample_end n) (standing w [])
          ≡ (Ok (Leaves (Return (pos 0))), standing w [])
      ends_well w is = end_holds (sample_statements n) only b.turns its_calls n w [] is
          (not_relaxed s (n + 3) (λ same. omega arith))

      first_repairs : s ≡ 1 → runs (sample_statements n) only b.turns its_calls (sample_body n)
          (standing 0 repair)
          ≡ (Ok (Leaves (Return (pos 0))), standing (s + n) [])
      first_repairs first =
          initialiser_taken (sample_statements n) only b.turns its_calls 0 s []
          (map addition (range_with_len 2 n) ++ sample_end n)
          (ap (may_relax (s ∷ [])) (sym first) ∙ is_relaxed s from to) (omega arith)
          ∙ all_added (sample_statements n) only b.turns its_calls n 2 s [] (sample_end n)
          (λ k above below. not_relaxed s k (λ same. omega arith)) (omega arith)
          ∙ ends_well (s + n) (omega arith)

      other_repairs : 1 < s → runs (sample_statements n) only b.turns its_calls (sample_body n)
          (standing 0 repair)
          ≡ (Ok (Leaves (Return (pos 0))), standing (n + 1) [])
      other_repairs later =
          initialised (sample_statements n) only b.turns its_calls 0 repair
          (map addition (range_with_len 2 n) ++ sample_end n) (not_relaxed s 1 (λ same. omega arith))
          ∙ one_taken (sample_statements n) only b.turns its_calls n 2 0 s s (n + 1) [] (sample_end n)
          (omega arith) (omega arith) (omega arith) (λ k differ. not_relaxed s k differ)
          (is_relaxed s from to)
          (omega arith) (omega arith)
          ∙ ends_well (n + 1) refl

      repaired : is_done (run_of p i b only repair) ≡ true
      repaired = ap is_done (run_is n p same i b only repair) ∙ elim (le_or_lt s 1) [
        | inl first ↦ ap (λ e. is_done (outcome_of e)) (first_repairs (omega arith))
        | inr later ↦ ap (λ e. is_done (outcome_of e)) (other_repairs later)
      ]

      feasible_one : IsFeasible (judge_of p i b) (s ∷ [])
      feasible_one = record { choices = repair; is_good = repaired }

    -- THE LEAST SETS

    undercut : (other : List ℕ) → IsRelaxableSet (sample_weights n) other → IsFeasible (judge_of p i b) other
        → 1 ≤ weight_of (sample_weights n) other
    undercut [] are feasible = absurd (none_feasible feasible)
    undercut (s ∷ set) are feasible = some_weigh n s set (weighed n s are.1)

    single_is_least : (s : ℕ) → 1 ≤ s → s ≤ n + 1 → IsLeastSet (sample_weights n) (judge_of p i b) (s ∷ [])
    single_is_least s from to =
        let some : IsSome (weight_at (sample_weights n) s) = ap is_some (repairing_weight n s from to) in
        record {
          is_set = (from, some, tt);
          feasible = feasible_one s from to;
          least = λ other are feasible. let one = one_weighs_one n s (weighed n s some) in
              let more = undercut other are feasible in omega arith;
        }

    least_is_single : (set : List ℕ) → IsLeastSet (sample_weights n) (judge_of p i b) set
        → Has (sample_sets n) set
    least_is_single [] is = absurd (none_feasible is.feasible)
    least_is_single (s ∷ []) is = let one = weighed n s is.is_set.1 in elim one.which [
      | inl low ↦ has_single 1 (n + 1) s one.from (omega arith)
      | inr last ↦ absurd (return_not_feasible s last is.feasible)
    ]
    least_is_single (s ∷ t ∷ set) is =
        let two = two_weigh n s t set (weighed n s is.is_set.1) (weighed n t is.is_set.2.1) in
        let first = single_is_least 1 (omega arith) (omega arith) in
        let one = one_weighs_one n 1 (weighed n 1 first.is_set.1) in
        let most = is.least (1 ∷ []) first.is_set first.feasible in
        absurd (omega arith)

    sample_least : AreLeast (sample_weights n) (judge_of p i b) (sample_sets n)
    sample_least = record {
      in_order = in_order 1 (n + 1);
      exactly = λ set. (
        λ has. let one = is_single 1 (n + 1) set (contains_has (sample_sets n) set has) in
            subst (IsLeastSet (sample_weights n) (judge_of p i b)) (sym one.is)
            (single_is_least one.stmt one.low (let high = one.high in omega arith)),
        λ least. has_contains (sample_sets n) set (least_is_single set least),
      );
    }

    pub least_sets : AreLeast (unit_weights p) (judge_of p i b) (sample_sets n)
    least_sets = subst (λ weights. AreLeast weights (judge_of p i b) (sample_sets n))
        (sym weights_are) sample_least

    pub plain_fails : plain_run p i b ≡ AssertFails (stmt_of (n + 2))
    plain_fails = fails [] (λ k from to. refl) []
