-- The parts of a formula: the words that it needs, its executions as bits, and the bits that have to be true.

use Rattle.std.specs.Prelude.{◌≡◌, ℕ, ◌==◌, nat_lt, pos, int_lt, Bool, true, false, not, ◌&&◌, Option, None, Some, List, [], ◌∷◌, ◌++◌, map, length, All, slice_get, slice_index_or}
use Rattle.std.specs.List.{flat_map, list_all}
use Rattle.std.specs.Option.{ForSome}
use Rattle.ba_bits.specs.Bits.{word_at}
use Rattle.ba_clauses.specs.Encodings.{all_hold}
use Rattle.ba_clauses.specs.declared.encoding.Reading.{Reading}
use Rattle.ba_encode.specs.declared.encoded.PlaceReading.{PlaceReading}
use Rattle.ba_encode.specs.declared.encoded.ValueReading.{ValueReading}
use Rattle.ba_encode.specs.declared.places.PlaceBits.{PlaceBits}
use Rattle.ba_encode.specs.declared.places.ValueBits.{ValueBits}
use Rattle.ba_nodes.specs.declared.Bit.{Bit}
use Rattle.ba_nodes.specs.declared.Node.{Node}
use Rattle.ba_nodes.specs.Gates.{HasValue, IsBitOf, truth}
use Rattle.ba_numbers.specs.declared.numbers.CType.{CType}
use Rattle.ba_numbers.specs.declared.numbers.CType.TheVariants.{U32}
use Rattle.ba_words.specs.Words.{number_of}
use Rattle.ba_wordlist.specs.declared.words.PlaceWords.{PlaceWords}
use Rattle.ba_wordlist.specs.declared.words.WordList.{WordList}
use Rattle.ba_wordlist.specs.declared.words.WordOp.{WordOp}
use Rattle.ba_wordlist.specs.declared.words.WordOp.TheVariants.{Const, Free, Unary, Binary, Convert}

-- ROOTS: the words that a formula needs

-- the entries that an execution needs: of its values only if it is in a group
abbrev pub roots_at : PlaceWords → Option ℕ → List ℕ
roots_at p None = p.guard ∷ p.keep ∷ []
roots_at p (Some group) = p.guard ∷ p.keep ∷ p.values

-- the entries that executions need, each with its group
abbrev pub roots_along : List PlaceWords → List (Option ℕ) → List ℕ
roots_along [] groups = []
roots_along (p ∷ ps) [] = []
roots_along (p ∷ ps) (group ∷ groups) = roots_at p group ++ roots_along ps groups

-- the entries that a list needs: its requirements, and what its executions need
abbrev pub roots_of : WordList → List (Option ℕ) → List ℕ
roots_of list groups = list.require ++ roots_along list.places groups

-- WORDS as bits

-- the words of each entry
abbrev pub Entries : Type 0
Entries = List (List (List Bit))

-- the word of an entry is other than 0
abbrev pub is_set : (ℕ → Bool) → List Node → Entries → ℕ → Bool
is_set free nodes entries w = nat_lt 0 (number_of free nodes (word_at entries w))

-- all these words are not 0 under an assignment
abbrev pub are_set : (ℕ → Bool) → List Node → Entries → List ℕ → Bool
are_set free nodes entries ws = list_all (is_set free nodes entries) ws

-- a bit, made over further nodes, tells whether the word of an entry is other than 0
abbrev pub TellsSet : List Node → Entries → ℕ → List Node → Bit → Type 0
TellsSet old entries w new bit = HasValue new bit (λ free. is_set free old entries w)

-- the type is signed
abbrev pub is_signed_type : CType → Bool
is_signed_type U32 = false
is_signed_type _ = true

-- a word's values are read as numbers of I32; else they are read as numbers of U32
abbrev pub is_signed : WordOp → Bool
is_signed (Const z) = int_lt z (pos 0)
is_signed (Unary op t a) = is_signed_type t
is_signed (Binary op t a b) = is_signed_type t
is_signed (Convert t a) = is_signed_type t
is_signed _ = true

-- the bits of a word, and whether it is signed
abbrev pub value_bits : List WordOp → Entries → ℕ → ValueBits
value_bits words entries w = record {
  signed = is_signed (slice_index_or words w Free);
  bits = word_at entries w;
}

-- the bits of words
abbrev pub values_bits : List WordOp → Entries → List ℕ → List ValueBits
values_bits words entries ws = map (value_bits words entries) ws

-- EXECUTIONS as bits

-- the selector of a group
abbrev pub selector_at : List Bit → Option ℕ → Option Bit
selector_at selectors None = None
selector_at selectors (Some group) = slice_get selectors group

-- each value has 32 bits
abbrev pub are_long : List ValueBits → Bool
are_long values = list_all (λ (value : ValueBits). length value.bits == 32) values

-- the bits of an execution, which are made over further nodes
pub record IsPlace (old : List Node) (words : List WordOp) (entries : Entries) (new : List Node)
    (place : PlaceWords) (selector : Option Bit) (bits : PlaceBits) : Type 0 where
  pub selector_is : bits.selector ≡ selector
  pub guard : TellsSet old entries place.guard new bits.guard
  pub keep : TellsSet old entries place.keep new bits.keep
  pub values : bits.values ≡ values_bits words entries place.values
  pub long : are_long bits.values ≡ true

-- the bits of all executions, by their groups
abbrev pub ArePlaces : List Node → List WordOp → Entries → List Bit → List Node → List PlaceWords
    → List (Option ℕ) → List PlaceBits → Type 0
ArePlaces old words entries selectors new [] [] [] = Unit {0}
ArePlaces old words entries selectors new (p ∷ ps) (group ∷ groups) (bits ∷ rest) =
    IsPlace old words entries new p (selector_at selectors group) bits
    × ArePlaces old words entries selectors new ps groups rest
ArePlaces old words entries selectors new _ _ _ = ⊥

-- the bits that tell whether an execution goes as its group says
pub record IsPlaceOf (nodes : List Node) (bits : PlaceBits) : Type 0 where
  pub selector : ForSome bits.selector (IsBitOf nodes)
  pub guard : IsBitOf nodes bits.guard
  pub keep : IsBitOf nodes bits.keep

-- REQUIREMENTS

-- the bits are all true if, and only if, the value is
pub record AreHeld (nodes : List Node) (bits : List Bit) (value : (ℕ → Bool) → Bool) : Type 0 where
  pub are_bits : All (IsBitOf nodes) bits
  pub holds : (free : ℕ → Bool) → all_hold free nodes bits ≡ value free

-- the group of an execution runs as written, by the values of bits; an execution in no group always does
abbrev pub is_fixed : (Bit → Bool) → Option Bit → Bool
is_fixed value None = true
is_fixed value (Some selector) = value selector

-- an execution is kept as written, or doesn't take place, or its group is given up
abbrev pub stays : (Bit → Bool) → PlaceBits → Bool
stays value bits = not (is_fixed value bits.selector && (value bits.guard && not (value bits.keep)))

-- each execution stays as written, does not take place, or is in a group that is given up
abbrev pub all_stay : (ℕ → Bool) → List Node → List PlaceBits → Bool
all_stay free nodes places = list_all (stays (truth free nodes)) places

-- a bit, made over further nodes, tells whether an execution goes as its group says
abbrev pub TellsStay : List Node → PlaceBits → List Node → Bit → Type 0
TellsStay old place new bit = HasValue new bit (λ free. stays (truth free old) place)

-- bits were added that say: each execution goes as its group says
abbrev pub AddsKept : List Node → List Bit → List PlaceBits → List Node → List Bit → Type 0
AddsKept old before places new after = (value : (ℕ → Bool) → Bool) → AreHeld old before value
    → AreHeld new after (λ free. value free && all_stay free old places)

-- READING

-- the bits of a value
abbrev pub bits_of_value : ValueBits → List Bit
bits_of_value value = value.bits

-- the bits that are read of an execution with this selector; none without one
abbrev pub bits_where : PlaceBits → Option Bit → List Bit
bits_where place None = []
bits_where place (Some selector) =
    selector ∷ place.guard ∷ place.keep ∷ flat_map bits_of_value place.values

-- the bits of an execution that are read: none if it is in no group
abbrev pub bits_of : PlaceBits → List Bit
bits_of place = bits_where place place.selector

-- each value of each execution has 32 bits
abbrev pub are_all_long : List PlaceBits → Bool
are_all_long places = list_all (λ (place : PlaceBits). are_long place.values) places

-- the readings of a value's bits
abbrev pub value_by : (Bit → Reading) → ValueBits → ValueReading
value_by reading value = record { signed = value.signed; bits = map reading value.bits }

-- the readings of an execution with this selector; none without one
abbrev pub place_where : (Bit → Reading) → PlaceBits → Option Bit → List PlaceReading
place_where reading place None = []
place_where reading place (Some selector) = record {
  selector = reading selector;
  guard = reading place.guard;
  keep = reading place.keep;
  values = map (value_by reading) place.values;
} ∷ []

-- the reading of an execution, by those of its bits: none if it is in no group
abbrev pub place_by : (Bit → Reading) → PlaceBits → List PlaceReading
place_by reading place = place_where reading place place.selector
