-- Formulas whose models are the sets that could repair a run.

use Rattle.std.specs.Prelude.{◌≡◌, ℕ, suc, ◌==◌, ◌↔◌, Bool, true, not, ◌&&◌, cond, ltb, Option, None, Some, List, [], ◌∷◌, All}
use Rattle.ba_lits.specs.Formulas.{Cnf}
use Rattle.ba_lits.specs.Literals.{IsClause}
use Rattle.ba_lits.specs.Satisfaction.{Assignment, Soft, all_true, lit_true}
use Rattle.ba_checker.specs.Blocks as groups
use Rattle.ba_checker.specs.Facts.{AreSelectors}
use Rattle.ba_choices.specs.Judges.{Judge}
use Rattle.ba_tree.specs.Least.{WeightList, IsFeasible, IsRelaxableSet, weight_at}

-- THE SET OF AN ASSIGNMENT. Entry n - 1 of a list of soft literals is the selector of group n, with its
-- weight. An entry of weight 0 is no group. The groups of an assignment are those whose selectors are false,
-- by ascending numbers.

-- the group has a weight, and its selector is false
abbrev pub is_false_group : Assignment → Soft → Bool
is_false_group v s = ltb 0 s.1 && not (lit_true v s.0)

-- the numbers with `n` before them, if the condition holds
abbrev pub with_if : Bool → ℕ → List ℕ → List ℕ
with_if b n ns = cond b (n ∷ ns) ns

-- the same for entries from a number on
abbrev pub false_groups_from : ℕ → Assignment → List Soft → List ℕ
false_groups_from k v [] = []
false_groups_from k v (s ∷ ss) = with_if (is_false_group v s) (suc k) (false_groups_from (suc k) v ss)

-- the groups that an assignment gives up, by their numbers from 1
abbrev pub false_groups : Assignment → List Soft → List ℕ
false_groups = false_groups_from 0

-- a model of the formula under which exactly these groups are false
pub record IsModelFor (formula : Cnf) (softs : List Soft) (set : List ℕ) (v : Assignment) : Type 0 where
  pub satisfies : all_true v formula.clauses ≡ true
  pub groups_are : false_groups v softs ≡ set

-- some model of the formula gives up exactly the groups of the set
pub record HasModelFor (formula : Cnf) (softs : List Soft) (set : List ℕ) : Type 0 where
  pub assignment : Assignment
  pub is_model : IsModelFor formula softs set assignment

-- the weight of a group; 0 is no group
abbrev pub weight_if : ℕ → Option ℕ
weight_if w = cond (w == 0) None (Some w)

-- A formula and its soft literals encode a judge FAITHFULLY.
-- - Its clauses are over its variables, and the soft literals are positive literals of different variables,
--   the selectors.
-- - The groups are the relaxable statements with their weights.
-- - For each set, the formula has a model under which exactly its groups are false if, and only if, some run
--   is good for it.
pub record IsFaithful (formula : Cnf) (softs : List Soft) (weights : WeightList) (good : Judge) : Type 0 where
  pub clauses : All (IsClause formula.variables) formula.clauses
  pub selectors : AreSelectors formula.variables softs
  pub weighs : (n : ℕ) → weight_at weights n ≡ weight_if (groups.weight_at softs n)
  pub models : (set : List ℕ) → IsRelaxableSet weights set →
      HasModelFor formula softs set ↔ IsFeasible good set
