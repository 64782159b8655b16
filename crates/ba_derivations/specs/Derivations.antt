-- What a list of steps derives.

use Rattle.std.specs.Prelude.{◌≡◌, ◌≢◌, ℕ, nat_eq, ◌+◌, ◌≤◌, true, Option, None, Some, List, [], ◌∷◌, ◌++◌, length, map, All, Contains, ◌↔◌}
use Rattle.std.specs.Cmp.Lexicographic.{pointwise}
use Rattle.std.specs.List.{IsDistinct}
use Rattle.ba_lits.specs.Formulas.{Cnf}
use Rattle.ba_lits.specs.Satisfaction.{Soft}
use Rattle.ba_steps.specs.Steps.{IsFormed}
use Rattle.ba_steps.specs.declared.step.CertStep.{CertStep}
use Rattle.ba_steps.specs.declared.step.CertStep.TheVariants.{Learn, Core, Delete, Block, EndLocated, EndNoRepair, EndTooMany, EndSpent}
use Rattle.ba_checker.specs.Blocks.{set_weight}
use Rattle.ba_choices.specs.Judges.{Judge}
use Rattle.ba_checker.specs.StepRules.{after_all, error_of}
use Rattle.ba_checker.specs.States.{State, first_state}
use Rattle.ba_derivations.specs.declared.verdict.FoundSet.{FoundSet}
use Rattle.ba_derivations.specs.Encodings.{HasModelFor, IsFaithful}
use Rattle.ba_tree.specs.Least.{WeightList, IsLeastSet, weight_of}

-- THE VERDICTS:
-- - exactly these sets are least, of this weight
-- - there is no repair
-- - these sets are least, and more than may be listed
-- - the conflicts are spent
pub data Verdict : Type 0 where
  Located : ℕ → List (List ℕ) → Verdict
  NoRepair : Verdict
  TooMany : ℕ → List (List ℕ) → Verdict
  Spent : Verdict

-- the verdict of an End step in a state
abbrev pub verdict_of : State → CertStep → Option Verdict
verdict_of s (Learn lits hints) = None
verdict_of s (Core lits hints) = None
verdict_of s (Delete clauses) = None
verdict_of s (Block groups run) = None
verdict_of s (EndLocated lits hints) = Some (Located s.bound s.sets)
verdict_of s (EndNoRepair hints) = Some NoRepair
verdict_of s EndTooMany = Some (TooMany s.bound s.sets)
verdict_of s EndSpent = Some Spent

-- A PROBLEM: a formula with its soft literals; which runs are good for which groups; and the limits on
-- conflicts and on sets
pub record Problem : Type 0 where
  pub formula : Cnf
  pub softs : List Soft
  pub good : Judge
  pub conflicts : ℕ
  pub most_sets : ℕ

-- the first state of a problem
abbrev pub start_of : Problem → State
start_of p = first_state p.formula p.softs p.conflicts p.most_sets

-- Steps DERIVE a verdict on a problem. From the first state on each is allowed in turn and formed. The last
-- one, which alone is an End step, says the verdict.
pub record Derives (p : Problem) (steps : List CertStep) (verdict : Verdict) : Type 0 where
  pub front : List CertStep
  pub last : CertStep
  pub steps_are : steps ≡ front ++ last ∷ []
  pub formed : All IsFormed steps
  pub state : State
  pub leads : after_all p.good (start_of p) front ≡ Some state
  pub ends : error_of p.good state last ≡ None
  pub says : verdict_of state last ≡ Some verdict

-- the steps derive the verdict, and the encoding is faithful
abbrev pub DerivesOver : WeightList → Problem → List CertStep → Verdict → Type 0
DerivesOver weights p steps verdict =
    IsFaithful p.formula p.softs weights p.good × Derives p steps verdict

-- the sets that steps block, each with its run
abbrev pub with_block : CertStep → List FoundSet → List FoundSet
with_block (Learn lits hints) rest = rest
with_block (Core lits hints) rest = rest
with_block (Delete clauses) rest = rest
with_block (Block groups run) rest = record { groups = groups; run = run } ∷ rest
with_block (EndLocated lits hints) rest = rest
with_block (EndNoRepair hints) rest = rest
with_block EndTooMany rest = rest
with_block EndSpent rest = rest

-- the sets that steps block, in their order
abbrev pub blocked_by : List CertStep → List FoundSet
blocked_by [] = []
blocked_by (step ∷ steps) = with_block step (blocked_by steps)

-- the sets without their runs
abbrev pub sets_of : List FoundSet → List (List ℕ)
sets_of = map (λ (b : FoundSet). b.groups)

-- 1 for a conflict, which is a Learn or a Core step
abbrev pub conflict_of : CertStep → ℕ
conflict_of (Learn lits hints) = 1
conflict_of (Core lits hints) = 1
conflict_of (Delete clauses) = 0
conflict_of (Block groups run) = 0
conflict_of (EndLocated lits hints) = 0
conflict_of (EndNoRepair hints) = 0
conflict_of EndTooMany = 0
conflict_of EndSpent = 0

-- how many conflicts steps hold
abbrev pub conflicts_in : List CertStep → ℕ
conflicts_in [] = 0
conflicts_in (step ∷ steps) = conflict_of step + conflicts_in steps

-- WHAT IS FOUND

-- a blocked set's run is good for it
abbrev pub IsGood : Judge → FoundSet → Type 0
IsGood good b = good b.groups b.run ≡ true

-- these sets are all least sets, in any order, all of this weight, and there is at least one
pub record AreAllLeast (weights : WeightList) (good : Judge) (weight : ℕ) (found : List (List ℕ)) : Type 0
  where
    pub exactly : (set : List ℕ) → Contains found set ↔ IsLeastSet weights good set
    pub each_weighs : (set : List ℕ) → Contains found set → weight_of weights set ≡ weight
    pub some : found ≢ []

-- these sets are least, of this weight, differ, and are one more than may be listed
pub record AreTooMany (weights : WeightList) (good : Judge) (weight most : ℕ) (found : List (List ℕ)) :
    Type 0 where
  pub each : (set : List ℕ) → Contains found set → IsLeastSet weights good set
  pub each_weighs : (set : List ℕ) → Contains found set → weight_of weights set ≡ weight
  pub differ : IsDistinct (pointwise nat_eq) found
  pub count : length found ≡ most + 1

-- By the models of a formula alone: a set of groups has a model and this weight, and no set with a model
-- weighs less.
pub record IsLeastModelSet (formula : Cnf) (softs : List Soft) (weight : ℕ) (set : List ℕ) : Type 0 where
  pub model : HasModelFor formula softs set
  pub weighs : set_weight softs set ≡ weight
  pub least : (other : List ℕ) → HasModelFor formula softs other → weight ≤ set_weight softs other

-- these sets are so, differ, and are one more than may be listed
pub record AreTooManyModelSets (formula : Cnf) (softs : List Soft) (weight most : ℕ) (found : List (List ℕ)) :
    Type 0 where
  pub each : (set : List ℕ) → Contains found set → IsLeastModelSet formula softs weight set
  pub differ : IsDistinct (pointwise nat_eq) found
  pub count : length found ≡ most + 1

-- the lists have the same sets
abbrev pub HaveSameSets : List (List ℕ) → List (List ℕ) → Type 0
HaveSameSets xs ys = (set : List ℕ) → Contains xs set ↔ Contains ys set
