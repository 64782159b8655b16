-- The text of an input: decimal numbers between blanks. Each parameter of main takes one of its type, or
-- one for each element of an
-- array, in the order of the parameters.

use Rattle.std.specs.Prelude.{◌≡◌, ℕ, ℤ, Bool, not, ◌==◌, if◌then◌else◌, Option, None, Some, option_map, List, [], ◌∷◌, length, replicate, take, drop, is_none}
use Rattle.std.specs.List.{filter_map, flat_map, position_from, zip}
use Rattle.std.specs.Option.{option_or}
use Rattle.ba_bytes.specs.Decimal.{decimal_of}
use Rattle.ba_bytes.specs.Pieces.{pieces_of}
use Rattle.ba_numbers.specs.Numbers.{is_in}
use Rattle.ba_numbers.specs.declared.ids.VarId.{VarId}
use Rattle.ba_numbers.specs.declared.numbers.CType.{CType}
use Rattle.ba_tree.specs.Meaning.{variable_of}
use Rattle.ba_tree.specs.Run.{main_of}
use Rattle.ba_tree.specs.declared.run.Input.{Input}
use Rattle.ba_tree.specs.declared.tree.Program.{Program}
use Rattle.ba_tree.specs.declared.tree.Shape.{Shape}
use Rattle.ba_tree.specs.declared.tree.Shape.TheVariants.{Value, Array, Passed}
use Rattle.ba_tree.specs.declared.tree.Variable.{Variable}

-- why a text is no input: piece I, from 1, is no number; number I is outside its type; the count of numbers
-- is wrong
pub data InputFault : Type 0 where
  NotANumber : ℕ → InputFault
  WrongCount : InputFault
  OutOfRange : ℕ → InputFault

-- how many numbers a parameter takes
abbrev pub numbers_for : Shape → ℕ
numbers_for Value = 1
numbers_for (Array n) = n
numbers_for Passed = 0

-- the types of these numbers
abbrev pub number_types : Variable → List CType
number_types v = replicate (numbers_for v.shape) v.t

-- the types of the numbers that these parameters take, in order
abbrev pub types_for : Program → List VarId → List CType
types_for p = flat_map (λ v. number_types (variable_of p v))

-- the types of the numbers that `main` takes, in order
abbrev pub input_types : Program → List CType
input_types p = types_for p (main_of p).params

-- the number of the first item that meets the test, counted from 1
abbrev pub first_where : {A : Type 0} → (A → Bool) → List A → Option ℕ
first_where test = position_from test 1

-- the piece is no decimal number
abbrev pub is_no_number : List ℕ → Bool
is_no_number piece = is_none (decimal_of piece)

-- the numbers that pieces write
abbrev pub numbers_of : List (List ℕ) → List ℤ
numbers_of = filter_map decimal_of

-- a number is outside the type that it must have
abbrev pub is_outside : CType × ℤ → Bool
is_outside (t, z) = not (is_in t z)

-- The fault of a text is the first piece that is no number. Else it is the count, if it is not that of the
-- types. Else it is the first number outside its type.
abbrev pub fault_of : List CType → List (List ℕ) → Option InputFault
fault_of types pieces = option_or (option_map NotANumber (first_where is_no_number pieces))
    (if length pieces == length types
    then option_map OutOfRange (first_where is_outside (zip types (numbers_of pieces)))
    else Some WrongCount)

-- the fault of a text as an input of the program, None if it is one
abbrev pub input_fault : Program → List ℕ → Option InputFault
input_fault p text = fault_of (input_types p) (pieces_of text)

-- the numbers, in a list for each parameter
abbrev pub values_for : Program → List VarId → List ℤ → List (List ℤ)
values_for p [] zs = []
values_for p (v ∷ vs) zs =
    let n = numbers_for (variable_of p v).shape in take n zs ∷ values_for p vs (drop n zs)

-- the values of each parameter of `main`, as the text gives them
abbrev pub input_values : Program → List ℕ → List (List ℤ)
input_values p text = values_for p (main_of p).params (numbers_of (pieces_of text))

-- THE INPUT that a text writes for a program
pub record IsInputOf (p : Program) (text : List ℕ) (input : Input) : Type 0 where
  pub no_fault : input_fault p text ≡ None
  pub values : input.values ≡ input_values p text
