-- The choices that readings give are those that the values of the bits give.
use Rattle.std.proofs.Common.{◌≡◌, ℤ, pos, Bool, not, ◌&&◌, cond, Option, Some, None, List, [], ◌∷◌, ◌++◌, map, refl, ◌∙◌, ap}
use Rattle.std.proofs.lemmas.Grind.{flat_map-append}
use Rattle.std.proofs.lemmas.List.{append-nil}
use Rattle.std.proofs.lemmas.Simd.{map-map}
use Rattle.std.specs.List.{AllByRecursion, flat_map}
use Rattle.ba_choices.specs.declared.Choice.{Choice}
use Rattle.ba_choices.specs.declared.Choice.TheVariants.{Keep, Take}
use Rattle.ba_clauses.specs.Encodings.{value_read}
use Rattle.ba_clauses.specs.declared.encoding.Reading.{Reading}
use Rattle.ba_encode.specs.Parts.{bits_of, bits_of_value, bits_where, place_by, place_where, value_by}
use Rattle.ba_encode.specs.Readings.{choices_at, choices_read, number_read}
use Rattle.ba_encode.specs.declared.places.PlaceBits.{PlaceBits}
use Rattle.ba_encode.specs.declared.places.ValueBits.{ValueBits}
use Rattle.ba_lits.specs.Satisfaction.{Assignment}
use Rattle.ba_nodes.specs.declared.Bit.{Bit}
use Rattle.ba_numbers.specs.Numbers.{converted}
use Rattle.ba_words.specs.Words.{spelled, word_type}

-- what executions as bits give, if bits have these values
abbrev pub number_with : (Bit → Bool) → ValueBits → ℤ
number_with t value = converted (word_type value.signed) (pos (spelled (map t value.bits)))

abbrev pub choice_with : (Bit → Bool) → PlaceBits → Choice
choice_with t place = cond (t place.keep) Keep (Take (map (number_with t) place.values))

abbrev pub choices_where : (Bit → Bool) → PlaceBits → Option Bit → List Choice
choices_where t place None = []
choices_where t place (Some selector) =
    cond (not (t selector) && t place.guard) (choice_with t place ∷ []) []

abbrev pub choices_with : (Bit → Bool) → PlaceBits → List Choice
choices_with t place = choices_where t place place.selector

-- READINGS

module _ (v : Assignment) (reading : Bit → Reading) where
  abbrev value_of : Bit → Bool
  value_of bit = value_read v (reading bit)

  numbers-by : (values : List ValueBits)
      → map (number_read v) (map (value_by reading) values) ≡ map (number_with value_of) values
  numbers-by [] = refl
  numbers-by (value ∷ values) =
      let first = ap (λ bits. converted (word_type value.signed) (pos (spelled bits)))
      (map-map (value_read v) reading value.bits) in
      λ i. first i ∷ numbers-by values i

  choices-where : (place : PlaceBits) (selector : Option Bit)
      → flat_map (choices_at v) (place_where reading place selector) ≡ choices_where value_of place selector
  choices-where place None = refl
  choices-where place (Some selector) =
      append-nil (cond (not (value_of selector) && value_of place.guard)
      (cond (value_of place.keep) Keep (Take (map (number_read v) (map (value_by reading) place.values))) ∷
      []) [])
      ∙ ap (λ zs. cond (not (value_of selector) && value_of place.guard)
      (cond (value_of place.keep) Keep (Take zs) ∷ []) []) (numbers-by place.values)

  pub choices-by : (places : List PlaceBits)
      → choices_read v (flat_map (place_by reading) places) ≡ flat_map (choices_with value_of) places
  choices-by [] = refl
  choices-by (place ∷ places) =
      flat_map-append (choices_at v) (place_by reading place) (flat_map (place_by reading) places)
      ∙ (λ i. choices-where place place.selector i ++ choices-by places i)

-- VALUES OF BITS

module _ (t u : Bit → Bool) where
  abbrev Same : List Bit → Type 0
  Same bits = AllByRecursion (λ bit. t bit ≡ u bit) bits

  pub same-from : (bits : List Bit) → map t bits ≡ map u bits → Same bits
  same-from [] are = tt
  same-from (bit ∷ bits) are =
      let first : t bit ≡ u bit = cc in
      let rest : map t bits ≡ map u bits = cc in
      (first, same-from bits rest)

  pub same-left : (xs ys : List Bit) → Same (xs ++ ys) → Same xs
  same-left [] ys all = tt
  same-left (x ∷ xs) ys all = (all.0, same-left xs ys all.1)

  pub same-right : (xs ys : List Bit) → Same (xs ++ ys) → Same ys
  same-right [] ys all = all
  same-right (x ∷ xs) ys all = same-right xs ys all.1

  same-map : (bits : List Bit) → Same bits → map t bits ≡ map u bits
  same-map [] all = refl
  same-map (bit ∷ bits) all = λ i. all.0 i ∷ same-map bits all.1 i

  numbers-same : (values : List ValueBits) → Same (flat_map bits_of_value values)
      → map (number_with t) values ≡ map (number_with u) values
  numbers-same [] all = refl
  numbers-same (value ∷ values) all =
      let own = ap (λ bits. converted (word_type value.signed) (pos (spelled bits)))
      (same-map value.bits (same-left value.bits (flat_map bits_of_value values) all)) in
      let rest = numbers-same values (same-right value.bits (flat_map bits_of_value values) all) in
      λ i. own i ∷ rest i

  where-same : (place : PlaceBits) (selector : Option Bit)
      → Same (bits_where place selector)
      → choices_where t place selector ≡ choices_where u place selector
  where-same place None all = refl
  where-same place (Some selector) all =
      let numbers = numbers-same place.values all.1.1.1 in
      λ i. cond (not (all.0 i) && all.1.0 i) (cond (all.1.1.0 i) Keep (Take (numbers i)) ∷ []) []

  pub choices-same : (places : List PlaceBits) → Same (flat_map bits_of places)
      → flat_map (choices_with t) places ≡ flat_map (choices_with u) places
  choices-same [] all = refl
  choices-same (place ∷ places) all =
      let own = where-same place place.selector (same-left (bits_of place) (flat_map bits_of places) all) in
      let rest = choices-same places (same-right (bits_of place) (flat_map bits_of places) all) in
      λ i. own i ++ rest i
