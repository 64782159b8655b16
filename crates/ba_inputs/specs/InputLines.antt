-- THE INPUTS that a text gives for a program, one a line.

use Rattle.std.specs.Prelude.{◌≡◌, ℕ, Bool, true, not, nat_lt, if◌then◌else◌, Option, None, Some, option_map, List, [], ◌∷◌, length, take, drop, filter}
use Rattle.std.specs.List.{AllZip, enumerate_from}
use Rattle.std.specs.Option.{option_or}
use Rattle.ba_bytes.specs.Lines.{lines_of}
use Rattle.ba_bytes.specs.Pieces.{pieces_of}
use Rattle.ba_tree.specs.Inputs.{InputFault, NotANumber, WrongCount, OutOfRange, input_fault, IsInputOf}
use Rattle.ba_tree.specs.declared.tree.Program.{Program}
use Rattle.ba_inputs.specs.Weights.{begins_comment}
use Rattle.ba_inputs.specs.declared.inputs.InputLine.{InputLine}
use Rattle.ba_inputs.specs.declared.inputs.InputsError.{InputsError}
use Rattle.ba_inputs.specs.declared.inputs.InputsError.TheVariants as error

-- THE LINES of inputs, each with its number among all lines, counted from 1. A line is skipped if it has only
-- blanks, or if its first other byte is `#`.

-- a line with its number, counted from 1
abbrev pub Numbered : Type 0
Numbered = ℕ × List ℕ

-- the pieces are those of a blank line or a comment
abbrev pub are_skipped : List (List ℕ) → Bool
are_skipped [] = true
are_skipped (first ∷ others) = begins_comment first

-- the line is neither blank nor a comment
abbrev pub is_input_line : Numbered → Bool
is_input_line (number, line) = not (are_skipped (pieces_of line))

-- the lines of a text that are inputs, with their numbers
abbrev pub input_lines : List ℕ → List Numbered
input_lines text = filter is_input_line (enumerate_from 1 (lines_of text))

-- THE FAULT of a text: the first line of inputs that is refused. That is the first of 64 with a fault as an
-- input, or else the 65th. If no line is refused, there may be too few inputs.

-- why a text is no list of inputs
pub data InputsFault : Type 0 where
  AtLine : ℕ → InputFault → InputsFault
  NoInput : InputsFault
  TooMany : ℕ → InputsFault

-- the fault of a line as an input
abbrev pub line_fault : Program → Numbered → Option InputsFault
line_fault p (number, line) = option_map (AtLine number) (input_fault p line)

-- the first fault of lines
abbrev pub first_fault : Program → List Numbered → Option InputsFault
first_fault p [] = None
first_fault p (line ∷ lines) = option_or (line_fault p line) (first_fault p lines)

-- the fault that the first of these lines is one too many
abbrev pub too_many : List Numbered → Option InputsFault
too_many [] = None
too_many ((number, line) ∷ lines) = Some (TooMany number)

-- the first refused line of these, of which `most` may be inputs
abbrev pub first_refused : Program → ℕ → List Numbered → Option InputsFault
first_refused p most lines = option_or (first_fault p (take most lines)) (too_many (drop most lines))

-- the fault that there are fewer lines than wanted
abbrev pub too_few : ℕ → List Numbered → Option InputsFault
too_few least lines = if nat_lt (length lines) least then Some NoInput else None

-- the fault of a text as inputs, of which there are at least so many
abbrev pub inputs_fault : Program → List ℕ → ℕ → Option InputsFault
inputs_fault p text least =
    option_or (first_refused p 64 (input_lines text)) (too_few least (input_lines text))

-- an error says this fault; out of memory says nothing
abbrev pub Tells : InputsError → Option InputsFault → Type 0
Tells (error.NotANumber line number) fault = fault ≡ Some (AtLine line (NotANumber number))
Tells (error.OutOfRange line number) fault = fault ≡ Some (AtLine line (OutOfRange number))
Tells (error.WrongCount line) fault = fault ≡ Some (AtLine line WrongCount)
Tells error.NoInput fault = fault ≡ Some NoInput
Tells (error.TooMany line) fault = fault ≡ Some (TooMany line)
Tells error.Memory fault = Unit {0}

-- THE INPUTS: for each line of inputs, in order, the input that it writes, with the number of the line

-- the input of a line, with its number
abbrev pub IsInputIn : Program → Numbered → InputLine → Type 0
IsInputIn p (number, line) input = (input.line ≡ number) × IsInputOf p line input.input

-- the inputs of a text, in order
abbrev pub AreInputsIn : Program → List ℕ → List InputLine → Type 0
AreInputsIn p text = AllZip (IsInputIn p) (input_lines text)
