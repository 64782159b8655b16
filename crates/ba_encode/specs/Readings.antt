-- The choices that an assignment of a formula's variables gives, by the readings of executions.

use Rattle.std.specs.Prelude.{ℕ, ◌==◌, nat_le, pos, ℤ, Bool, true, not, ◌&&◌, cond, List, [], ◌∷◌, map, length}
use Rattle.std.specs.List.{flat_map, list_all}
use Rattle.ba_choices.specs.declared.Choice.{Choice}
use Rattle.ba_choices.specs.declared.Choice.TheVariants.{Keep, Take}
use Rattle.ba_clauses.specs.Encodings.{value_read}
use Rattle.ba_clauses.specs.declared.encoding.Reading.{Reading}
use Rattle.ba_clauses.specs.declared.encoding.Reading.TheVariants.{Constant, Variable}
use Rattle.ba_encode.specs.declared.encoded.PlaceReading.{PlaceReading}
use Rattle.ba_encode.specs.declared.encoded.ValueReading.{ValueReading}
use Rattle.ba_lits.specs.Literals.{Literal}
use Rattle.ba_lits.specs.Satisfaction.{Assignment, assignment_of}
use Rattle.ba_lits.specs.declared.assignment.Model.{Model}
use Rattle.ba_wordlist.specs.Facts.{is_word_value}
use Rattle.ba_words.specs.Words.{spelled, word_type}
use Rattle.ba_numbers.specs.Numbers.{converted}

-- the number of I32 or of U32 that the bits of a value spell
abbrev pub number_read : Assignment → ValueReading → ℤ
number_read v value =
    converted (word_type value.signed) (pos (spelled (map (value_read v) value.bits)))

-- the choice of an execution, as the model gives it
abbrev pub choice_read : Assignment → PlaceReading → Choice
choice_read v place = cond (value_read v place.keep) Keep (Take (map (number_read v) place.values))

-- the execution takes place, and its group is given up
abbrev pub is_relaxed_in : Assignment → PlaceReading → Bool
is_relaxed_in v place = not (value_read v place.selector) && value_read v place.guard

-- the choice of an execution, if it is relaxed
abbrev pub choices_at : Assignment → PlaceReading → List Choice
choices_at v place = cond (is_relaxed_in v place) (choice_read v place ∷ []) []

-- the choices at the executions that take place and are given up, in their order
abbrev pub choices_read : Assignment → List PlaceReading → List Choice
choices_read v places = flat_map (choices_at v) places

-- what a model gives its variables
abbrev pub of_model : Model → Assignment
of_model model = assignment_of model.values

-- each value of a choice is in the range of I32 or of U32
abbrev pub is_in_range : Choice → Bool
is_in_range Keep = true
is_in_range (Take values) = list_all is_word_value values

-- THE VARIABLES OF READINGS are those of a formula with this many; a value has 32 bits

-- the literal is of a variable of the formula
abbrev pub is_counted : ℕ → Literal → Bool
is_counted variables lit = nat_le 1 lit.variable && nat_le lit.variable variables

-- the reading is a constant, or a literal over the formula's variables
abbrev pub is_readable : ℕ → Reading → Bool
is_readable variables (Constant value) = true
is_readable variables (Variable lit) = is_counted variables lit

-- the value has 32 readable bits
abbrev pub is_readable_value : ℕ → ValueReading → Bool
is_readable_value variables value =
    (length value.bits == 32) && list_all (is_readable variables) value.bits

-- all readings of an execution are readable
abbrev pub is_readable_place : ℕ → PlaceReading → Bool
is_readable_place variables place =
    is_readable variables place.selector && is_readable variables place.guard
    && is_readable variables place.keep && list_all (is_readable_value variables) place.values

-- all readings of all executions are readable
abbrev pub are_readable : ℕ → List PlaceReading → Bool
are_readable variables places = list_all (is_readable_place variables) places
