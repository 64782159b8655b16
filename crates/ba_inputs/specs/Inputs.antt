-- What the parts of reading an input give.

use Rattle.std.specs.Prelude.{◌≡◌, ◌≤◌, ℕ, ℤ, Option, None, Some, List, map, length, option_map}
use Rattle.ba_bytes.specs.Decimal.{nearest}
use Rattle.ba_tree.specs.Inputs.{InputFault, NotANumber, WrongCount, OutOfRange, first_where, is_no_number, numbers_of}
use Rattle.ba_inputs.specs.declared.input.InputError.{InputError}
use Rattle.ba_inputs.specs.declared.input.InputError.TheVariants as error

-- the error says this fault; out of memory says nothing
abbrev pub Tells : InputError → Option InputFault → Type 0
Tells (error.NotANumber n) fault = fault ≡ Some (NotANumber n)
Tells error.WrongCount fault = fault ≡ Some WrongCount
Tells (error.OutOfRange n) fault = fault ≡ Some (OutOfRange n)
Tells error.Memory fault = Unit {0}

-- the pieces are numbers, and these are the nearest numbers of type i64
pub record AreNumbers (pieces : List (List ℕ)) (numbers : List ℤ) : Type 0 where
  pub each : first_where is_no_number pieces ≡ None
  pub nearest_ones : numbers ≡ map nearest (numbers_of pieces)
  pub few : length numbers ≤ 65536

-- the fault of the first piece that is no number
abbrev pub no_number_fault : List (List ℕ) → Option InputFault
no_number_fault pieces = option_map NotANumber (first_where is_no_number pieces)
