-- RUNS THAT MAY LEAVE CHOICES. A run uses up the first of its choices, as many as it needs. Where others
-- stand behind them they are left.

use Rattle.std.specs.Prelude.{List, Ok, Err}
use Rattle.ba_choices.specs.declared.Choice.{Choice}
use Rattle.ba_tree.specs.Run.{context_of, outcome_of_halt, run_main, start_of}
use Rattle.ba_tree.specs.State.{Ending}
use Rattle.ba_tree.specs.declared.run.Allowed.{Allowed}
use Rattle.ba_tree.specs.declared.run.Bounds.{Bounds}
use Rattle.ba_tree.specs.declared.run.Exit.{Exit}
use Rattle.ba_tree.specs.declared.run.Flow.{Flow}
use Rattle.ba_tree.specs.declared.run.Input.{Input}
use Rattle.ba_tree.specs.declared.run.Outcome.{Outcome}
use Rattle.ba_tree.specs.declared.run.Outcome.TheVariants.{Done}
use Rattle.ba_tree.specs.declared.tree.Program.{Program}

-- the outcome of a run, whatever choices are left at its end
abbrev pub outcome_at : Ending (Flow Exit) → Outcome
outcome_at (Ok flow, s) = Done
outcome_at (Err h, s) = outcome_of_halt h

abbrev pub ending_of : Program → Input → Bounds → Allowed → List Choice → Ending (Flow Exit)
ending_of p input b allowed choices = run_main (context_of p b allowed) input (start_of p choices)

-- that of a run that may leave some of these choices, and the choices that it leaves
unfoldable pub prefix_outcome : Program → Input → Bounds → Allowed → List Choice → Outcome
prefix_outcome p input b allowed choices = outcome_at (ending_of p input b allowed choices)

unfoldable pub choices_left : Program → Input → Bounds → Allowed → List Choice → List Choice
choices_left p input b allowed choices = (ending_of p input b allowed choices).1.choices
