-- The values of an input that fits a program.
use Rattle.std.proofs.Common.{◌≡◌, ◌==◌, ℤ, true, List, [], ◌∷◌, length, refl}
use Rattle.std.proofs.lemmas.Bool.{and_from, and_parts}
use Rattle.std.specs.List.{list_all}
use Rattle.ba_code.proofs.Ranges.{in-test}
use Rattle.ba_guards.specs.Contract.{are_word_values}
use Rattle.ba_numbers.specs.Numbers.{is_in}
use Rattle.ba_numbers.specs.declared.ids.VarId.{VarId}
use Rattle.ba_numbers.specs.declared.numbers.CType.{CType}
use Rattle.ba_tree.specs.Meaning.{variable_of}
use Rattle.ba_tree.specs.Run.{fits_all, fits_shape, fits_variable}
use Rattle.ba_tree.specs.declared.tree.Program.{Program}
use Rattle.ba_tree.specs.declared.tree.Shape.{Shape}
use Rattle.ba_tree.specs.declared.tree.Shape.TheVariants.{Value, Array, Passed}
use Rattle.ba_wordlist.proofs.Lengths.{in-word}
use Rattle.ba_wordlist.specs.Facts.{is_word_value}

all-words : (t : CType) (zs : List ℤ) → list_all (is_in t) zs ≡ true → list_all is_word_value zs ≡ true
all-words t [] h = refl
all-words t (z ∷ zs) h =
    let both = and_parts (is_in t z) (list_all (is_in t) zs) h in
    and_from (is_word_value z) (list_all is_word_value zs) (in-word t z (in-test t z both.0)) (all-words t
    zs both.1)

shape-words : (s : Shape) (t : CType) (zs : List ℤ) → fits_shape s t zs ≡ true →
    list_all is_word_value zs ≡ true
shape-words Value t zs h = all-words t zs (and_parts (length zs == 1) (list_all (is_in t) zs) h).1
shape-words (Array n) t zs h = all-words t zs (and_parts (length zs == n) (list_all (is_in t) zs) h).1
shape-words Passed t zs h = absurd (cc)

pub fitting-words : (p : Program) (vs : List VarId) (given : List (List ℤ)) → fits_all p vs given ≡ true
    → are_word_values given ≡ true
fitting-words p [] [] h = refl
fitting-words p [] (zs ∷ given) h = absurd (cc)
fitting-words p (v ∷ vs) [] h = absurd (cc)
fitting-words p (v ∷ vs) (zs ∷ given) h =
    let both = and_parts (fits_variable (variable_of p v) zs) (fits_all p vs given) h in
    and_from (list_all is_word_value zs) (are_word_values given)
    (shape-words (variable_of p v).shape (variable_of p v).t zs both.0) (fitting-words p vs given both.1)
