-- Sets of statements: which of them could repair a run, and which of those weigh least.

use Rattle.std.specs.Prelude.{◌≡◌, ℕ, ◌-◌, ◌<◌, ◌≤◌, ◌↔◌, true, Option, None, Some, List, [], ◌∷◌, map, length, Contains, slice_get, sum_by, IsSome, unwrap_or, ◌⊎◌, cond, ◌==◌}
use Rattle.ba_tree.specs.Run.{run_of, is_done}
use Rattle.ba_numbers.specs.declared.ids.StmtId.{StmtId}
use Rattle.ba_tree.specs.declared.run.Allowed.TheVariants.{Statements}
use Rattle.ba_tree.specs.declared.run.Bounds.{Bounds}
use Rattle.ba_choices.specs.Judges.{Judge}
use Rattle.ba_choices.specs.declared.Choice.{Choice}
use Rattle.ba_tree.specs.declared.run.Input.{Input}
use Rattle.ba_tree.specs.declared.tree.Program.{Program}
use Rattle.ba_tree.specs.declared.tree.StmtInfo.{StmtInfo}
use Rattle.ba_tree.specs.declared.tree.StmtKind.{StmtKind}
use Rattle.ba_tree.specs.declared.tree.StmtKind.TheVariants.{Assert}
use Rattle.std.specs.List.{list_all}
use Rattle.ba_tree.specs.Choices.{is_assert}
use Rattle.ba_tree.specs.Weights.{is_weight}

-- SETS of statements are ascending lists of their numbers

-- the statement of a number
abbrev pub stmt_of : ℕ → StmtId
stmt_of n = record { 0 = n }

-- the weight of an entry of a list, None without an entry
abbrev pub entry_of : Option (Option ℕ) → Option ℕ
entry_of None = None
entry_of (Some entry) = entry

-- Entry n - 1 of a list of weights belongs to statement n. The relaxable statements are those with a weight.
abbrev pub WeightList : Type 0
WeightList = List (Option ℕ)

-- the weight of statement n, counted from 1; None if it may not be relaxed
abbrev pub weight_at : WeightList → ℕ → Option ℕ
weight_at weights n = cond (n == 0) None (entry_of (slice_get weights (n - 1)))

-- the weights if none are given: 1 for each statement but the asserts
abbrev pub unit_weight : StmtKind → Option ℕ
unit_weight Assert = None
unit_weight _ = Some 1

-- weight 1 for each statement but the asserts, which have none
abbrev pub unit_weights : Program → WeightList
unit_weights p = map (λ (info : StmtInfo). unit_weight info.kind) p.statements

-- a list of weights for a program has one entry for each statement: none, or a number from 1 to 1,000; an
-- assert has none
pub record AreWeightsOf (p : Program) (weights : WeightList) : Type 0 where
  pub each : length weights ≡ length p.statements
  pub in_range : list_all is_weight weights ≡ true
  pub no_assert : (n : ℕ) → is_assert p (stmt_of n) ≡ true → weight_at weights n ≡ None

-- relaxable statements in ascending order, all above low
abbrev pub AreRelaxableAbove : WeightList → ℕ → List ℕ → Type 0
AreRelaxableAbove weights low [] = Unit {0}
AreRelaxableAbove weights low (n ∷ ns) = (low < n) × IsSome (weight_at weights n) × AreRelaxableAbove weights n ns

-- the numbers ascend from 1 on, and each is of a statement that has a weight
abbrev pub IsRelaxableSet : WeightList → List ℕ → Type 0
IsRelaxableSet weights = AreRelaxableAbove weights 0

-- the weight of a set: the sum of its members' weights
abbrev pub weight_of : WeightList → List ℕ → ℕ
weight_of weights = sum_by (λ n. unwrap_or (weight_at weights n) 0)

-- the order of two sets is the lexicographic one of their ascending lists
abbrev pub IsBefore : List ℕ → List ℕ → Type 0
IsBefore [] [] = ⊥
IsBefore [] (y ∷ ys) = Unit {0}
IsBefore (x ∷ xs) [] = ⊥
IsBefore (x ∷ xs) (y ∷ ys) = (x < y) ⊎ ((x ≡ y) × IsBefore xs ys)

-- a set comes before each of the others
abbrev pub IsBeforeAll : List ℕ → List (List ℕ) → Type 0
IsBeforeAll set [] = Unit {0}
IsBeforeAll set (other ∷ others) = IsBefore set other × IsBeforeAll set others

-- the sets of a list are strictly ascending, so each occurs once
abbrev pub AreInOrder : List (List ℕ) → Type 0
AreInOrder [] = Unit {0}
AreInOrder (set ∷ sets) = IsBeforeAll set sets × AreInOrder sets

-- FEASIBLE and LEAST sets, for a judge, which tells which choices make a good run if a set is relaxed

-- some choices make a good run
pub record IsFeasible (good : Judge) (set : List ℕ) : Type 0 where
  pub choices : List Choice
  pub is_good : good set choices ≡ true

-- relaxable statements that could repair the run, such that no feasible set weighs less
pub record IsLeastSet (weights : WeightList) (good : Judge) (set : List ℕ) : Type 0 where
  pub is_set : IsRelaxableSet weights set
  pub feasible : IsFeasible good set
  pub least : (other : List ℕ) → IsRelaxableSet weights other → IsFeasible good other → weight_of weights set ≤ weight_of weights other

-- the list of all least sets, each once and in order
pub record AreLeast (weights : WeightList) (good : Judge) (sets : List (List ℕ)) : Type 0 where
  pub in_order : AreInOrder sets
  pub exactly : (set : List ℕ) → Contains sets set ↔ IsLeastSet weights good set

-- THE JUDGE of a program on an input: a run is good if its outcome is Done

-- choices are good for a set of statements if the run with it relaxed is done
abbrev pub judge_of : Program → Input → Bounds → Judge
judge_of p input b set choices = is_done (run_of p input b (Statements (map stmt_of set)) choices)
