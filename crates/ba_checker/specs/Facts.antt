-- What holds of every state after allowed steps.

use Rattle.std.specs.Prelude.{◌≡◌, ◌≢◌, ℕ, ◌+◌, ◌^◌, ◌<◌, ◌≤◌, nat_eq, Bool, true, false, Some, List, [], ◌∷◌, ◌++◌, map, filter, length, get_or, All}
use Rattle.std.specs.List.{IsDistinct}
use Rattle.std.specs.Cmp.Lexicographic.{pointwise}
use Rattle.ba_choices.specs.declared.Choice.{Choice}
use Rattle.ba_lits.specs.Literals.{Literal, IsClause}
use Rattle.ba_lits.specs.Satisfaction.{Assignment, all_true, Soft, cost, Agree}
use Rattle.ba_lits.specs.Formulas.{Cnf}
use Rattle.ba_steps.specs.Steps.{AreAbove}
use Rattle.ba_steps.specs.declared.step.CertStep.{CertStep}
use Rattle.ba_steps.specs.declared.step.CertStep.TheVariants.{Learn, Core, Delete, Block, EndLocated, EndNoRepair, EndTooMany, EndSpent}
use Rattle.ba_checker.specs.Splits.{split_clauses}
use Rattle.ba_checker.specs.States.{Kept, State, is_lasting, clause_at, present}
use Rattle.ba_checker.specs.Blocks.{lacks_group, set_weight, block_clauses}
use Rattle.ba_choices.specs.Judges.{Judge}
use Rattle.ba_checker.specs.StepRules.{after}

-- the literals of the clauses, the deleted ones too
abbrev pub all_lits : List Kept → List (List Literal)
all_lits clauses = map (λ (k : Kept). k.lits) clauses

-- the literals of the clauses that no Learn step made
abbrev pub lasting : List Kept → List (List Literal)
lasting clauses = all_lits (filter is_lasting clauses)

-- no soft literal of the list has this variable
abbrev pub Differs : ℕ → List Soft → Type 0
Differs x [] = Unit {0}
Differs x (s ∷ ss) = (s.0.variable ≢ x) × Differs x ss

-- the soft literals are of different variables
abbrev pub AreDifferent : List Soft → Type 0
AreDifferent [] = Unit {0}
AreDifferent (s ∷ ss) = Differs s.0.variable ss × AreDifferent ss

-- the soft literals are of variables up to a number
abbrev pub AreAmong : ℕ → List Soft → Type 0
AreAmong variables softs = All (λ (s : Soft). (1 ≤ s.0.variable) × (s.0.variable ≤ variables)) softs

-- positive literals of different variables up to a number; entries of weight 0 are skipped
pub record AreSelectors (variables : ℕ) (softs : List Soft) : Type 0 where
  pub positive : All (λ (s : Soft). s.0.negated ≡ false) (present softs)
  pub among : AreAmong variables (present softs)
  pub differ : AreDifferent (present softs)

-- What holds of every state of a checker. If memory ran out, nothing is said of its clauses. The learnt
-- clauses, also the deleted ones, hold wherever the lasting ones do.
pub record IsState (variables : ℕ) (clauses : List Kept) (groups softs : List Soft)
    (conflicts budget learnt : ℕ) (refused : Bool) : Type 0 where
  pub few : variables < 2 ^ 62
  pub formed : refused ≡ false → All (λ (k : Kept). IsClause variables k.lits) clauses
  pub implied : refused ≡ false → (v : Assignment) → all_true v (lasting clauses) ≡ true →
      all_true v (all_lits clauses) ≡ true
  pub groups_among : AreAmong variables (present groups)
  pub groups_differ : AreDifferent (present groups)
  pub among : AreAmong variables softs
  pub differ : AreDifferent softs
  pub weighty : All (λ (s : Soft). 1 ≤ s.1) softs
  pub within : conflicts ≤ budget
  pub learnt_within : learnt ≤ conflicts

-- the start of a derivation: clauses and soft literals over the variables of the formula
pub record IsStart (formula : Cnf) (softs : List Soft) : Type 0 where
  pub clauses : All (IsClause formula.variables) formula.clauses
  pub softs_among : AreAmong formula.variables (present softs)
  pub softs_differ : AreDifferent (present softs)

-- the clauses by which a step defines its fresh variables
abbrev pub step_splits : State → CertStep → List (List Literal)
step_splits s (Learn lits hints) = []
step_splits s (Core lits hints) = split_clauses (s.variables + 1) lits
step_splits s (Delete clauses) = []
step_splits s (Block groups run) = []
step_splits s (EndLocated lits hints) = []
step_splits s (EndNoRepair hints) = []
step_splits s EndTooMany = []
step_splits s EndSpent = []

-- the clauses by which all steps define their fresh variables
abbrev pub splits_of : State → List CertStep → List (List Literal)
splits_of s [] = []
splits_of s (step ∷ steps) = step_splits s step ++ splits_of (after s step) steps

-- the clause is live
abbrev pub IsLive : List Kept → List Literal → Type 0
IsLive clauses c = (number : ℕ) × (clause_at clauses number ≡ Some c)

-- What holds of a blocked set: its group numbers ascend, their weights sum up to the bound, and the judge
-- calls its run good.
pub record IsBlocked (good : Judge) (groups : List Soft) (bound : ℕ) (set : List ℕ) : Type 0 where
  pub ascends : AreAbove 0 set
  pub exist : lacks_group groups set ≡ false
  pub weight : set_weight groups set ≡ bound
  pub run : List Choice
  pub is_good : good set run ≡ true

-- The facts. `Agree (n + 1)` says that two assignments give the variables up to n the same values.
-- - Each assignment that satisfies the formula and the blocking clauses has exactly one extension to the
--   fresh variables that satisfies the clauses of all splits. It satisfies every clause, the deleted ones
--   too.
-- - Its cost is the bound plus the weights of the present soft literals that are false under the extension.
-- - The blocked sets differ, and each has the weight of the bound, and a good run.
-- - The present soft literals are of different existing variables, with weights of at least 1.
-- - All clauses of the formula, of the splits and of the blocked sets are live.
pub record Holds (good : Judge) (formula : Cnf) (softs : List Soft) (splits : List (List Literal))
    (s : State) : Type 0 where
  pub extends : (v : Assignment) → all_true v formula.clauses ≡ true →
      all_true v (block_clauses softs s.sets) ≡ true →
      (z : Assignment) × Agree
      (formula.variables + 1) v z × (all_true z splits ≡ true) × (all_true z
      (all_lits s.clauses) ≡ true) × (cost v (present softs) ≡ s.bound + cost z s.softs)
  pub alone : (y z : Assignment) → Agree (formula.variables + 1) y z → all_true y splits ≡ true →
      all_true z splits ≡ true → Agree (s.variables + 1) y z
  pub sets_differ : IsDistinct (pointwise nat_eq) s.sets
  pub sets_good : All (IsBlocked good softs s.bound) s.sets
  pub differ : AreDifferent s.softs
  pub among : AreAmong s.variables s.softs
  pub weighty : All (λ (soft : Soft). 1 ≤ soft.1) s.softs
  pub given_live : (place : ℕ) → place < length formula.clauses →
      clause_at s.clauses (place + 1) ≡ Some (get_or formula.clauses place [])
  pub splits_live : All (IsLive s.clauses) splits
  pub sets_live : All (IsLive s.clauses) (block_clauses softs s.sets)
