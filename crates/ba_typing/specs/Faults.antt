-- THE TABLE OF FAULTS, one definition for each row, and the order of faults.

use Rattle.std.specs.Prelude.{ℕ, nat_lt, Bool, true, false, not, ◌&&◌, ◌||◌, ◌==◌, cond, Option, None, Some, List, [], ◌∷◌, ◌++◌, length, ◌≡◌, Contains}
use Rattle.std.specs.Option.{is_some}
use Rattle.ba_numbers.specs.declared.ids.At.{At}
use Rattle.ba_numbers.specs.declared.numbers.CType.{CType}
use Rattle.ba_tokens.specs.declared.token.Token.{Token}
use Rattle.ba_typing.specs.Names.{Scope, is_array_object, is_tag_known, name_of}
use Rattle.ba_typing.specs.declared.fault.Cause.{Cause}
use Rattle.ba_typing.specs.declared.fault.Cause.TheVariants.{UnknownName, Twice, WrongKind, WrongCount, BadLength, BreakOutside, CallInIndex, Limit}
use Rattle.ba_typing.specs.declared.fault.Fault.{Fault}
use Rattle.ba_typing.specs.declared.meanings.Meaning.{Meaning}
use Rattle.ba_typing.specs.declared.meanings.Meaning.TheVariants as meaning
use Rattle.ba_typing.specs.declared.meanings.ParamType.{ParamType}
use Rattle.ba_typing.specs.declared.meanings.Signature.{Signature}

-- a fault if the condition holds
abbrev pub fault_if : Bool → Cause → At → List Fault
fault_if is_so cause at = cond is_so (record { at = at; cause = cause } ∷ []) []

-- one fault
abbrev pub fault : Cause → At → List Fault
fault = fault_if true

-- NAMES. The position is the name's.

-- a name as a value, or assigned as a whole: unknown, a function's, or an array's
abbrev pub value_name_faults : Meaning → At → List Fault
value_name_faults meaning.Unknown at = fault UnknownName at
value_name_faults meaning.Function at = fault WrongKind at
value_name_faults (meaning.Variable e) at = fault_if (is_array_object e) WrongKind at
value_name_faults (meaning.Constant z) at = []

-- a name whose element is taken: unknown, or not an array's
abbrev pub array_name_faults : Meaning → At → List Fault
array_name_faults meaning.Unknown at = fault UnknownName at
array_name_faults meaning.Function at = fault WrongKind at
array_name_faults (meaning.Variable e) at = fault_if (not (is_array_object e)) WrongKind at
array_name_faults (meaning.Constant z) at = fault WrongKind at

-- a name that is assigned to: at fault as a value, or a constant's
abbrev pub target_name_faults : Meaning → At → List Fault
target_name_faults meaning.Unknown at = []
target_name_faults meaning.Function at = []
target_name_faults (meaning.Variable e) at = []
target_name_faults (meaning.Constant z) at = fault WrongKind at

-- how many parameters a declaration has; a definition with empty parentheses has none
abbrev pub count_of_params : Option (List ParamType) → ℕ
count_of_params None = 0
count_of_params (Some params) = length params

-- a called function without a definition; or used as a value without a result; or called with another number
-- of arguments
abbrev pub definition_faults : Option Signature → Bool → ℕ → At → List Fault
definition_faults None as_value arguments at = fault UnknownName at
definition_faults (Some f) as_value arguments at =
    fault_if (as_value && not (is_some f.result)) WrongKind at
    ++ fault_if (not (arguments == count_of_params f.params)) WrongCount at

-- a name that is called: unknown, a variable's, a constant's, or main's
abbrev pub call_faults : Meaning → Bool → Option Signature → Bool → ℕ → At → List Fault
call_faults meaning.Unknown is_main definition as_value arguments at = fault UnknownName at
call_faults (meaning.Variable e) is_main definition as_value arguments at = fault WrongKind at
call_faults (meaning.Constant z) is_main definition as_value arguments at = fault WrongKind at
call_faults meaning.Function is_main definition as_value arguments at =
    fault_if is_main WrongKind at ++ definition_faults definition as_value arguments at

-- TYPES: a tag without its list that no declaration in scope has. The position is the tag's.
abbrev pub tag_faults : Scope → Option Token → List Fault
tag_faults scope None = []
tag_faults scope (Some tag) = fault_if (not (is_tag_known scope (name_of tag))) UnknownName tag.at

-- DECLARATIONS. The position is the declared name's.

-- a variable or a parameter of the type `void`
abbrev pub void_faults : Option CType → At → List Fault
void_faults t at = fault_if (not (is_some t)) WrongKind at

-- a name that its scope declares already
abbrev pub twice_faults : Bool → At → List Fault
twice_faults is_declared at = fault_if is_declared Twice at

-- LIMITS

-- how many numbered statements a program may have
abbrev pub statement_limit : ℕ
statement_limit = 4000

-- how many functions a program may have
abbrev pub function_limit : ℕ
function_limit = 100

-- the limit on variables and enumeration constants together
abbrev pub variable_limit : ℕ
variable_limit = 2000

-- how many parameters a function may have
abbrev pub parameter_limit : ℕ
parameter_limit = 32

-- how many elements all arrays together may have
abbrev pub element_limit : ℕ
element_limit = 1024

-- how high an expression may be
abbrev pub height_limit : ℕ
height_limit = 100

-- the item of this number, counted from 1, is past the limit
abbrev pub limit_faults : ℕ → ℕ → At → List Fault
limit_faults limit number at = fault_if (nat_lt limit number) Limit at

-- THE ORDER: by position, and at one position by number

-- the number of a fault, after the 3 of its stage
abbrev pub number_of : Cause → ℕ
number_of UnknownName = 1
number_of Twice = 2
number_of WrongKind = 3
number_of WrongCount = 4
number_of BadLength = 6
number_of BreakOutside = 7
number_of CallInIndex = 8
number_of Limit = 9

-- less, or equal and so by the rest
abbrev pub less_or : ℕ → ℕ → Bool → Bool
less_or m n rest = nat_lt m n || ((m == n) && rest)

-- the order of faults: by position, then by number
abbrev pub comes_before : Fault → Fault → Bool
comes_before f g =
    less_or f.at.line g.at.line (less_or f.at.column g.at.column
    (nat_lt (number_of f.cause) (number_of g.cause)))

-- the fault is in the list, and none of it comes before
pub record IsFirst (faults : List Fault) (f : Fault) : Type 0 where
  pub there : Contains faults f
  pub least : (g : Fault) → Contains faults g → comes_before g f ≡ false
