-- SEVERAL INPUTS of a program, one a line, and the answers before any search.

use Rattle.std.specs.Prelude.{ℕ, Option, None, Some, option_map, List, map}
use Rattle.ba_answers.specs.declared.answers.Answer.{Answer}
use Rattle.ba_answers.specs.declared.answers.Answer.TheVariants as answer
use Rattle.ba_answers.specs.declared.answers.InputFault.TheVariants as fault
use Rattle.ba_answers.specs.declared.file.File.{File}
use Rattle.ba_cases.specs.AtOnce.{fault_of, first_answer, input_of, unfailing}
use Rattle.ba_inputs.specs.InputLines.{AtLine, InputsFault, NoInput, Numbered, TooMany, input_lines, inputs_fault}
use Rattle.ba_inputs.specs.declared.inputs.InputLine.{InputLine}
use Rattle.ba_tree.specs.Run.{plain_run}
use Rattle.ba_tree.specs.declared.run.Bounds.{Bounds}
use Rattle.ba_tree.specs.declared.tree.Program.{Program}

-- THE INPUTS that a text writes, each with the number of its line
abbrev pub input_at : Program → Numbered → InputLine
input_at p (number, line) = record { line = number; input = input_of p line }

-- the inputs of a text
abbrev pub inputs_of : Program → List ℕ → List InputLine
inputs_of p text = map (input_at p) (input_lines text)

-- the refusal of the inputs of this file for a fault
abbrev pub refusal_of : File → InputsFault → Answer
refusal_of which (AtLine line f) = answer.BadInput which (fault_of f) (Some line)
refusal_of which NoInput = answer.BadInput which fault.NoInput None
refusal_of which (TooMany line) = answer.BadInput which fault.TooMany (Some line)

-- the refusal of the text of this file; so many inputs are wanted at least
abbrev pub inputs_refusal : File → ℕ → Program → List ℕ → Option Answer
inputs_refusal which least p text = option_map (refusal_of which) (inputs_fault p text least)

-- the answer of a run as written that does not fail
abbrev pub end_of : Bounds → Program → InputLine → Option Answer
end_of bounds p entry = unfailing p (Some entry.line) (plain_run p entry.input bounds)

-- the answer of the first run as written that does not fail
abbrev pub ends_answer : Bounds → Program → List InputLine → Option Answer
ends_answer bounds p inputs = first_answer (map (end_of bounds p) inputs)
