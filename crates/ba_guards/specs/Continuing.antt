-- How a run goes on from where it is.

use Rattle.std.specs.Prelude.{ℕ, ◌+◌, ◌==◌, ℤ, Bool, true, false, cond, Option, None, Some, List, [], ◌∷◌, map, Ok, Err}
use Rattle.ba_choices.specs.declared.Choice.{Choice}
use Rattle.ba_code_laws.specs.Tracing.{Traced, TracedExecution}
use Rattle.ba_guards.specs.Reading.{Snapshot, Status}
use Rattle.ba_guards.specs.Reading.Status.{idle, running, left}
use Rattle.ba_guards.specs.declared.exits.Exit.{Exit}
use Rattle.ba_tree.specs.Acts.{EndOn}
use Rattle.ba_tree.specs.declared.run.Flow.{Flow}
use Rattle.ba_tree.specs.declared.run.Flow.TheVariants.{Next, Leaves}

-- a run that goes on with these choices; None if it ended badly
abbrev pub Further : Type 0
Further = Option (Snapshot × List Choice)

-- the labels of exits
abbrev pub labels_of : List Exit → List ℕ
labels_of exits = map (λ (e : Exit). e.label) exits

-- the index of the exit of the innermost block with this label, and 0 for none; exits are counted from a
-- given number
abbrev pub exit_from : ℕ → ℕ → ℕ → List ℕ → ℕ
exit_from k found label [] = found
exit_from k found label (other ∷ labels) =
    exit_from (k + 1) (cond (label == other) k found) label labels

-- the index of the exit of a label, 0 if it has none
abbrev pub exit_of : List ℕ → ℕ → ℕ
exit_of labels label = exit_from 0 0 label labels

-- the status after a flow: running, or left by an exit
abbrev pub status_after : List ℕ → Flow ℕ → (ℕ → ℤ) → Status
status_after labels Next variables = running variables
status_after labels (Leaves label) variables = left (exit_of labels label) variables

-- what follows the end of a part; None if it ended the run
abbrev pub after_end : List ℕ → EndOn Traced (Flow ℕ) → Further
after_end labels (Ok flow, t) = Some (
  record {
    status = status_after labels flow t.code.variables;
    arrays = t.code.arrays;
    places = t.places;
  },
  t.code.choices,
)
after_end labels (Err h, t) = None

-- the state of a traced run at a snapshot, with these choices left
abbrev pub traced_from : (ℕ → ℤ) → Snapshot → List Choice → Traced
traced_from variables s choices = record {
  code = record { variables = variables; arrays = s.arrays; choices = choices };
  places = s.places;
}

-- a part is executed if the run comes to it
abbrev pub continued_from : List ℕ → TracedExecution → Status → Snapshot → List Choice → Further
continued_from labels part idle s choices = Some (s, choices)
continued_from labels part (running variables) s choices =
    after_end labels (part (traced_from variables s choices))
continued_from labels part (left exit variables) s choices = Some (s, choices)

-- a part, run from a snapshot
abbrev pub continued : List ℕ → TracedExecution → Snapshot → List Choice → Further
continued labels part s choices = continued_from labels part s.status s choices

-- a snapshot with the choices left, if the requirements are met
abbrev pub ended : Bool → Snapshot → List Choice → Further
ended true s choices = Some (s, choices)
ended false s choices = None

-- one part, then the other, if the first did not end the run
abbrev pub then_go : Further → (Snapshot → List Choice → Further) → Further
then_go None more = None
then_go (Some (s, choices)) more = more s choices
