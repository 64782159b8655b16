-- Runs that differ in what may be relaxed, and in the choices that keep statements as written.

use Rattle.std.specs.Prelude.{◌≡◌, Bool, false, cond, List, [], ◌∷◌}
use Rattle.ba_numbers.specs.declared.ids.StmtId.{StmtId}
use Rattle.ba_choices.specs.declared.Choice.{Choice}
use Rattle.ba_choices.specs.declared.Choice.TheVariants.{Keep}
use Rattle.ba_tree.specs.Choices.{admits}
use Rattle.ba_tree.specs.Run.{run_of}
use Rattle.ba_tree.specs.declared.run.Allowed.{Allowed}
use Rattle.ba_tree.specs.declared.run.Bounds.{Bounds}
use Rattle.ba_tree.specs.declared.run.Input.{Input}
use Rattle.ba_tree.specs.declared.run.Step.{Step}
use Rattle.ba_tree.specs.declared.tree.Program.{Program}

-- An execution of a statement, with the steps around it, innermost first, and its choice. Some run may relax
-- it; the choice is Keep if the given run may not.
pub record Visit : Type 0 where
  pub path : List Step
  pub stmt : StmtId
  pub choice : Choice

-- the execution may be relaxed
abbrev pub is_relaxed_at : Program → Allowed → Visit → Bool
is_relaxed_at p allowed visit = admits p allowed visit.path visit.stmt

-- the choices at the executions that may be relaxed, as a run is given them
abbrev pub chosen : Program → Allowed → List Visit → List Choice
chosen p allowed [] = []
chosen p allowed (visit ∷ visits) =
    cond (is_relaxed_at p allowed visit) (visit.choice ∷ chosen p allowed visits) (chosen p allowed visits)

-- an execution that may not be relaxed has the choice Keep
abbrev pub IsKept : Program → Allowed → Visit → Type 0
IsKept p allowed visit = is_relaxed_at p allowed visit ≡ false → visit.choice ≡ Keep

-- the choice is Keep at every execution that may not be relaxed
abbrev pub AreKept : Program → Allowed → List Visit → Type 0
AreKept p allowed [] = Unit {0}
AreKept p allowed (visit ∷ visits) = IsKept p allowed visit × AreKept p allowed visits

-- The executions that a run with these choices comes to, in order. The run has the same outcome if other
-- statements may be relaxed, as long as the others' choices are Keep. A choice Keep is left out if its
-- execution may not be relaxed, and put in if it may.
pub record HasVisits (p : Program) (i : Input) (b : Bounds) (allowed : Allowed)
    (choices : List Choice) : Type 0 where
  pub visits : List Visit
  pub kept : AreKept p allowed visits
  pub given : chosen p allowed visits ≡ choices
  pub same : (other : Allowed) → AreKept p other visits
      → run_of p i b other (chosen p other visits) ≡ run_of p i b allowed choices
