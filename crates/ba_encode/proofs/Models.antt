-- The choices that a model gives.
use Rattle.std.proofs.Common.{◌≡◌, Bool, true, false, cond, List, [], ◌∷◌, map, refl, ◌∙◌}
use Rattle.std.proofs.lemmas.Bool.{and_from}
use Rattle.std.proofs.lemmas.List.Folds.{list_all-append}
use Rattle.std.specs.List.{list_all}
use Rattle.ba_choices.specs.declared.Choice.TheVariants.{Keep, Take}
use Rattle.ba_clauses.specs.Encodings.{value_read}
use Rattle.ba_encode.specs.Readings.{choice_read, choices_at, choices_read, is_in_range, is_relaxed_in, number_read}
use Rattle.ba_encode.specs.declared.encoded.PlaceReading.{PlaceReading}
use Rattle.ba_encode.specs.declared.encoded.ValueReading.{ValueReading}
use Rattle.ba_lits.specs.Satisfaction.{Assignment}
use Rattle.ba_numbers.proofs.Conversions.{converted_in_range}
use Rattle.ba_words.specs.Words.{word_type}
use Rattle.ba_wordlist.proofs.Lengths.{in-word}
use Rattle.ba_wordlist.specs.Facts.{is_word_value}

numbers-in-range : (v : Assignment) (values : List ValueReading)
    → list_all is_word_value (map (number_read v) values) ≡ true
numbers-in-range v [] = refl
numbers-in-range v (value ∷ values) =
    and_from (is_word_value (number_read v value)) (list_all is_word_value (map (number_read v) values))
    (in-word (word_type value.signed) (number_read v value) (converted_in_range (word_type value.signed) _))
    (numbers-in-range v values)

choice-in-range : (v : Assignment) (place : PlaceReading) (keep : Bool)
    → is_in_range (cond keep Keep (Take (map (number_read v) place.values))) ≡ true
choice-in-range v place true = refl
choice-in-range v place false = numbers-in-range v place.values

one-in-range : (v : Assignment) (place : PlaceReading) (relaxed : Bool)
    → list_all is_in_range (cond relaxed (choice_read v place ∷ []) []) ≡ true
one-in-range v place true =
    and_from (is_in_range (choice_read v place)) true (choice-in-range v place (value_read v place.keep)) refl
one-in-range v place false = refl

pub choices-in-range : (v : Assignment) (places : List PlaceReading)
    → list_all is_in_range (choices_read v places) ≡ true
choices-in-range v [] = refl
choices-in-range v (place ∷ places) =
    list_all-append is_in_range (choices_at v place) (choices_read v places)
    ∙ and_from (list_all is_in_range (choices_at v place)) (list_all is_in_range (choices_read v places))
    (one-in-range v place (is_relaxed_in v place)) (choices-in-range v places)
