-- The words of the runs of a program.

use Rattle.std.specs.Prelude.{◌≡◌, true, List, map}
use Rattle.ba_all.specs.Cuts.{RunTest, all_good}
use Rattle.ba_choices.specs.declared.Choice.{Choice}
use Rattle.ba_code.specs.Run.{code_of_bound, outcome_of_code}
use Rattle.ba_code.specs.declared.trees.BoundTree.{BoundTree}
use Rattle.ba_code_laws.specs.Visits.{are_kept, chosen}
use Rattle.ba_guards.specs.Contract.{Chosen}
use Rattle.ba_tree.specs.Choices.{admits}
use Rattle.ba_tree.specs.Run.{fits, is_done, run_of}
use Rattle.ba_tree.specs.declared.run.Allowed.{Allowed}
use Rattle.ba_tree.specs.declared.run.Bounds.{Bounds}
use Rattle.ba_tree.specs.declared.run.Input.{Input}
use Rattle.ba_tree.specs.declared.tree.Program.{Program}
use Rattle.ba_wordlist.specs.Meaning.{Assignment, holds, visits_of}
use Rattle.ba_wordlist.specs.declared.words.WordList.{WordList}

-- The tree, which has no calls and no loops, has the outcomes of the program within these bounds, on inputs
-- that fit.
abbrev pub HasOutcomesOf : Program → Bounds → BoundTree → Type 0
HasOutcomesOf p bounds tree = (input : Input) (allowed : Allowed) (choices : List Choice)
    → fits p input ≡ true → outcome_of_code (code_of_bound tree) input 0 (admits p allowed) choices
    ≡ run_of p input bounds allowed choices

-- GOOD RUNS, by what may be relaxed: which choices make a good run on an input, and which make good runs on
-- several, one run's behind the other's

abbrev pub good_on : Program → Input → Bounds → Allowed → RunTest
good_on p input bounds allowed choices = is_done (run_of p input bounds allowed choices)

abbrev pub good_on_all : Program → List Input → Bounds → Allowed → RunTest
good_on_all p inputs bounds allowed =
    all_good (map (λ (input : Input). good_on p input bounds allowed) inputs)

-- Words have these runs, whatever may be relaxed. Take an assignment that meets the requirements, with Keep
-- at each place that may not be relaxed. At the other places it has good choices. And all good choices are
-- those of such an assignment.
pub record HasRuns (p : Program) (good : Allowed → RunTest) (list : WordList) : Type 0 where
  pub spelled : (allowed : Allowed) (f : Assignment) → are_kept (admits p allowed) (visits_of f list) ≡ true
      → holds f list ≡ true → good allowed (chosen (admits p allowed) (visits_of f list)) ≡ true
  pub each : (allowed : Allowed) (choices : List Choice) → good allowed choices ≡ true
      → Chosen list (admits p allowed) choices
