-- What holds of each word list.

use Rattle.std.specs.Prelude.{ℕ, nat_le, nat_lt, ◌==◌, Bool, true, false, ◌&&◌, ◌||◌, ℤ, Option, Some, List, [], ◌∷◌, ◌++◌, length, slice_get, slice_index_or}
use Rattle.std.specs.List.{fold, list_all}
use Rattle.ba_numbers.specs.Numbers.{is_in}
use Rattle.ba_numbers.specs.declared.numbers.CType.TheVariants.{I32, U32}
use Rattle.ba_numbers.specs.Types.{is_promoted}
use Rattle.ba_wordlist.specs.declared.words.PlaceWords.{PlaceWords}
use Rattle.ba_wordlist.specs.declared.words.WordOp.{WordOp}
use Rattle.ba_wordlist.specs.declared.words.WordOp.TheVariants.{Const, Free, Flag, Unary, Binary, Convert, Select, Read, Zeros, Fill, Write}

-- a number in the range of I32 or of U32
abbrev pub is_word_value : ℤ → Bool
is_word_value z = is_in I32 z || is_in U32 z

-- the number of an entry, if there are `count` entries
abbrev pub is_name : ℕ → ℕ → Bool
is_name count w = nat_lt w count

-- all are names of entries
abbrev pub are_names : ℕ → List ℕ → Bool
are_names count ws = list_all (is_name count) ws

-- how many elements an entry has, by the lengths of the earlier ones; a word has one
abbrev pub length_of : List ℕ → WordOp → ℕ
length_of lengths (Zeros count) = count
length_of lengths (Fill array values when) = slice_index_or lengths array 1
length_of lengths (Write array index value when) = slice_index_or lengths array 1
length_of lengths _ = 1

-- the lengths with that of one more entry
abbrev pub more_lengths : List ℕ → WordOp → List ℕ
more_lengths lengths op = lengths ++ length_of lengths op ∷ []

-- how many elements each entry has
unfoldable pub lengths_of : List WordOp → List ℕ
lengths_of ops = fold more_lengths [] ops

-- an entry fits after others of these lengths
abbrev pub fits_behind : List ℕ → WordOp → Bool
fits_behind lengths (Const z) = is_word_value z
fits_behind lengths Free = true
fits_behind lengths Flag = true
fits_behind lengths (Unary op t a) = is_promoted t && is_name (length lengths) a
fits_behind lengths (Binary op t a b) = is_promoted t && is_name (length lengths) a
    && is_name (length lengths) b
fits_behind lengths (Convert t a) = is_name (length lengths) a
fits_behind lengths (Select which a b) =
    is_name (length lengths) which && is_name (length lengths) a && is_name (length lengths) b
fits_behind lengths (Read array index) = is_name (length lengths) array && is_name (length lengths) index
fits_behind lengths (Zeros count) = nat_le 1 count && nat_le count 256
fits_behind lengths (Fill array values when) =
    is_name (length lengths) array && are_names (length lengths) values
    && (length values == slice_index_or lengths array 1) && is_name (length lengths) when
fits_behind lengths (Write array index value when) =
    is_name (length lengths) array && is_name (length lengths) index
    && is_name (length lengths) value && is_name (length lengths) when

-- each entry fits the entries before it
abbrev pub fit_behind : List ℕ → List WordOp → Bool
fit_behind lengths [] = true
fit_behind lengths (op ∷ ops) = fits_behind lengths op && fit_behind (more_lengths lengths op) ops

-- each entry of a list fits those before it
unfoldable pub are_words : List WordOp → Bool
are_words ops = fit_behind [] ops

-- guard, keep flag and values of an execution are names of entries
abbrev pub is_place : ℕ → PlaceWords → Bool
is_place count p = is_name count p.guard && is_name count p.keep && are_names count p.values

-- the entry shows the type of its values, all of which are of that type
abbrev pub shows_type : Option WordOp → Bool
shows_type (Some (Const z)) = true
shows_type (Some Free) = true
shows_type (Some Flag) = true
shows_type (Some (Unary op t a)) = true
shows_type (Some (Binary op t a b)) = true
shows_type (Some (Convert t a)) = true
shows_type _ = false

-- the values of an execution show their types
abbrev pub is_typed : List WordOp → PlaceWords → Bool
is_typed words p = list_all (λ w. shows_type (slice_get words w)) p.values

-- each value of a choice is a word that shows its type
abbrev pub are_typed : List WordOp → List PlaceWords → Bool
are_typed words places = list_all (is_typed words) places

-- what each word list keeps
unfoldable pub is_word_list : List WordOp → List ℕ → List PlaceWords → Bool
is_word_list words require places = are_words words && are_names (length words) require
    && list_all (is_place (length words)) places && are_typed words places
