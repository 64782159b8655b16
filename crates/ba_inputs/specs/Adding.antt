-- What the reading of one line adds to the inputs.

use Rattle.std.specs.Prelude.{◌≡◌, ◌-◌, true, None, Option, List, [], ◌∷◌, ◌++◌, length, filter, All}
use Rattle.std.specs.List.{AllZip}
use Rattle.ba_tree.specs.Run.{fits}
use Rattle.ba_tree.specs.declared.tree.Program.{Program}
use Rattle.ba_inputs.specs.InputLines.{InputsFault, IsInputIn, Numbered, first_refused, is_input_line}
use Rattle.ba_inputs.specs.declared.inputs.InputLine.{InputLine}

-- the line if it holds an input, else nothing
abbrev pub taken : Numbered → List Numbered
taken line = filter is_input_line (line ∷ [])

-- why the line is refused, after these inputs
abbrev pub refusal : Program → List InputLine → Numbered → Option InputsFault
refusal p inputs line = first_refused p (64 - length inputs) (taken line)

-- each input fits the parameters of `main`
abbrev pub AllFit : Program → List InputLine → Type 0
AllFit p = All (λ (input : InputLine). fits p input.input ≡ true)

-- the line is not refused; its input is added if it holds one
pub record Adds (p : Program) (line : Numbered) (inputs more : List InputLine) : Type 0 where
  pub added : List InputLine
  pub whole : more ≡ inputs ++ added
  pub no_fault : refusal p inputs line ≡ None
  pub each : AllZip (IsInputIn p) (taken line) added
  pub fit : AllFit p added
