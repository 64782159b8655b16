-- The meaning of word lists: the values of their words under an assignment of the free words, and the choices
-- that it spells.

use Rattle.std.specs.Prelude.{ℕ, ◌%◌, ℤ, pos, negsuc, int_lt, Bool, not, cond, Option, None, Some, List, [], ◌∷◌, ◌++◌, map, length, replicate, slice_index_or, slice_set}
use Rattle.std.specs.List.{fold, list_all}
use Rattle.std.specs.Ordering.{int_eq}
use Rattle.ba_numbers.specs.Numbers.{converted, low_word, truth}
use Rattle.ba_numbers.specs.declared.numbers.BinOp.{BinOp}
use Rattle.ba_numbers.specs.declared.numbers.BinOp.TheVariants.{Rem}
use Rattle.ba_numbers.specs.declared.numbers.CType.{CType}
use Rattle.ba_numbers.specs.declared.numbers.CType.TheVariants.{I32, U32}
use Rattle.ba_cells.specs.Cells.{index_read}
use Rattle.ba_choices.specs.declared.Choice.{Choice}
use Rattle.ba_choices.specs.declared.Choice.TheVariants.{Keep, Take}
use Rattle.ba_code.specs.Operators.{converting}
use Rattle.ba_code_laws.specs.Visits.{Visit}
use Rattle.ba_wordlist.specs.declared.words.PlaceWords.{PlaceWords}
use Rattle.ba_wordlist.specs.declared.words.WordList.{WordList}
use Rattle.ba_wordlist.specs.declared.words.WordOp.{WordOp}
use Rattle.ba_wordlist.specs.declared.words.WordOp.TheVariants.{Const, Free, Flag, Unary, Binary, Convert, Select, Read, Zeros, Fill, Write}

-- a number for each free word and each flag, by its number in the list
abbrev pub Assignment : Type 0
Assignment = ℕ → ℤ

-- the value is not 0
abbrev pub is_nonzero : ℤ → Bool
is_nonzero z = not (int_eq z (pos 0))

-- the elements of an entry: a word has one
abbrev pub elements_at : List (List ℤ) → ℕ → List ℤ
elements_at values w = slice_index_or values w []

-- the value of a word, or of the first element of an array
abbrev pub value_at : List (List ℤ) → ℕ → ℤ
value_at values w = slice_index_or (elements_at values w) 0 (pos 0)

-- The value of a division by 0, which no run has. The remainder is the dividend. The quotient has the
-- magnitude 2^32 - 1, and the dividend's sign if it is signed.
abbrev pub value_at_zero : BinOp → CType → ℤ → ℤ
value_at_zero Rem t a = converted t a
value_at_zero op U32 a = pos 0xffffffff
value_at_zero op t a = cond (int_lt (converted t a) (pos 0)) (pos 1) (negsuc 0)

-- the value, or the other one without one
abbrev pub value_or : Option ℤ → ℤ → ℤ
value_or None other = other
value_or (Some z) other = z

-- the value of a binary operator, which is defined for any two numbers
abbrev pub binary_value : BinOp → CType → ℤ → ℤ → ℤ
binary_value op t a b = value_or (converting.binary op t a b) (value_at_zero op t a)

-- The element at an index in the array. For another index it is the element at its low 8 bits, or the first
-- if these lead past the last (`ba_cells`).
abbrev pub element_read : List ℤ → ℤ → ℤ
element_read zs i = slice_index_or zs (index_read (length zs) (low_word i % 256)) (pos 0)

-- the elements of an entry, by its free number and by the elements of earlier entries
abbrev pub entry_of : ℤ → List (List ℤ) → WordOp → List ℤ
entry_of free values (Const z) = z ∷ []
entry_of free values Free = converted I32 free ∷ []
entry_of free values Flag = truth (is_nonzero free) ∷ []
entry_of free values (Unary op t a) = converting.unary op t (value_at values a) ∷ []
entry_of free values (Binary op t a b) = binary_value op t (value_at values a) (value_at values b) ∷ []
entry_of free values (Convert t a) = converted t (value_at values a) ∷ []
entry_of free values (Select which a b) =
    cond (is_nonzero (value_at values which)) (value_at values a) (value_at values b) ∷ []
entry_of free values (Read array index) = element_read (elements_at values array) (value_at values index) ∷ []
entry_of free values (Zeros count) = replicate count (pos 0)
entry_of free values (Fill array words when) =
    cond (is_nonzero (value_at values when)) (map (value_at values) words) (elements_at values array)
entry_of free values (Write array index value when) = cond (is_nonzero (value_at values when))
    (slice_set (elements_at values array) (low_word (value_at values index)) (value_at values value))
    (elements_at values array)

-- the elements of the entries so far, with those of one more
abbrev pub more_values : Assignment → List (List ℤ) → WordOp → List (List ℤ)
more_values f values op = values ++ entry_of (f (length values)) values op ∷ []

-- the elements of each entry under an assignment
unfoldable pub values_of : Assignment → List WordOp → List (List ℤ)
values_of f ops = fold (more_values f) [] ops

-- CHOICES

-- the choice of an execution, by the elements of entries
abbrev pub choice_of : List (List ℤ) → PlaceWords → Choice
choice_of values p = cond (is_nonzero (value_at values p.keep)) Keep (Take (map (value_at values) p.values))

-- an execution with its choice
abbrev pub visit_of : List (List ℤ) → PlaceWords → Visit
visit_of values p = record { place = p.place; choice = choice_of values p }

-- the places whose guard is not 0, in order, with their choices
unfoldable pub visits_in : List (List ℤ) → List PlaceWords → List Visit
visits_in values [] = []
visits_in values (p ∷ ps) =
    cond (is_nonzero (value_at values p.guard)) (visit_of values p ∷ visits_in values ps)
    (visits_in values ps)

-- the executions that take place under an assignment, with their choices
abbrev pub visits_of : Assignment → WordList → List Visit
visits_of f list = visits_in (values_of f list.words) list.places

-- all requirements are met
abbrev pub are_met : List (List ℤ) → List ℕ → Bool
are_met values require = list_all (λ w. is_nonzero (value_at values w)) require

-- no requirement is 0 under an assignment
abbrev pub holds : Assignment → WordList → Bool
holds f list = are_met (values_of f list.words) list.require

-- the choices that an assignment spells
abbrev pub spelled : Assignment → WordList → List Choice
spelled f list = map (λ (v : Visit). v.choice) (visits_of f list)
