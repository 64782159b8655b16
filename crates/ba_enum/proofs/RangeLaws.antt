-- The choices that are read from a model have the form that a step's text asks for.

use Rattle.std.proofs.Common.{◌≡◌, true, ℤ, List, [], ◌∷◌, All, inl, inr, arith}
use Rattle.std.proofs.lemmas.Bool.{and_parts, or_cases}
use Rattle.std.proofs.lemmas.Int.{ints}
use Rattle.std.proofs.lemmas.List.Elements.{All-nil, All-cons}
use Rattle.std.specs.List.{list_all}
use Rattle.ba_choices.specs.declared.Choice.{Choice}
use Rattle.ba_choices.specs.declared.Choice.TheVariants.{Keep, Take}
use Rattle.ba_encode.specs.Readings.{is_in_range}
use Rattle.ba_wordlist.specs.Facts.{is_word_value}
use Rattle.ba_numbers.specs.Numbers.{is_in}
use Rattle.ba_numbers.specs.declared.numbers.CType.TheVariants.{I32, U32}
use Rattle.ba_steps.specs.Steps.{IsValue, IsFormedChoice}

signed_value : (z : ℤ) → is_in I32 z ≡ true → IsValue z
signed_value z is = (grind (arith, ints), grind (arith, ints))

unsigned_value : (z : ℤ) → is_in U32 z ≡ true → IsValue z
unsigned_value z is = (grind (arith, ints), grind (arith, ints))

word_value : (z : ℤ) → is_word_value z ≡ true → IsValue z
word_value z is = elim (or_cases (is_in I32 z) (is_in U32 z) is)
    [ inl h ↦ signed_value z h | inr h ↦ unsigned_value z h ]

word_values : (zs : List ℤ) → list_all is_word_value zs ≡ true → All IsValue zs
word_values [] all = All-nil IsValue
word_values (z ∷ zs) all =
    let parts = and_parts (is_word_value z) (list_all is_word_value zs) all in
    All-cons IsValue z zs (word_value z parts.0) (word_values zs parts.1)

formed_choice : (c : Choice) → is_in_range c ≡ true → IsFormedChoice c
formed_choice Keep is = tt
formed_choice (Take values) is = word_values values is

pub formed_choices : (run : List Choice) → list_all is_in_range run ≡ true → All IsFormedChoice run
formed_choices [] all = All-nil IsFormedChoice
formed_choices (c ∷ cs) all =
    let parts = and_parts (is_in_range c) (list_all is_in_range cs) all in
    All-cons IsFormedChoice c cs (formed_choice c parts.0) (formed_choices cs parts.1)
