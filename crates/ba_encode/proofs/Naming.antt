-- The words that a formula speaks of are entries of the list.
use Rattle.std.proofs.Common.{◌≡◌, ℕ, Bool, true, ◌&&◌, Option, Some, None, List, [], ◌∷◌, length, refl, sym, ◌∙◌, ap}
use Rattle.std.proofs.lemmas.Bool.{and_from, and_parts}
use Rattle.std.proofs.lemmas.List.{length-map}
use Rattle.std.proofs.lemmas.List.Folds.{list_all-append}
use Rattle.std.specs.List.{list_all}
use Rattle.ba_bits.specs.Bits.{AreEntries}
use Rattle.ba_encode.proofs.Spots.{list-fits}
use Rattle.ba_encode.specs.Parts.{roots_along, roots_at, roots_of}
use Rattle.ba_nodes.specs.declared.Bit.{Bit}
use Rattle.ba_nodes.specs.declared.Node.{Node}
use Rattle.ba_wordlist.proofs.Lengths.{length-lengths}
use Rattle.ba_wordlist.specs.Facts.{are_names, is_name, is_place}
use Rattle.ba_wordlist.specs.declared.words.PlaceWords.{PlaceWords}
use Rattle.ba_wordlist.specs.declared.words.WordList.{WordList}
use Rattle.ba_wordlist.specs.declared.words.WordOp.{WordOp}

pub entries-many : (old new : List Node) (ops : List WordOp) (needed : List Bool) (entries : List (List
    (List Bit)))
    → AreEntries old ops needed new entries → length entries ≡ length ops
entries-many old new ops needed entries has =
    sym (length-map entries length) ∙ ap length has.lengths ∙ length-lengths ops

names-of-place : (count : ℕ) (p : PlaceWords) (g : Option ℕ) → is_place count p ≡ true
    → are_names count (roots_at p g) ≡ true
names-of-place count p None fits =
    let all = and_parts (is_name count p.guard && is_name count p.keep) (are_names count p.values) fits in
    let two = and_parts (is_name count p.guard) (is_name count p.keep) all.0 in
    and_from (is_name count p.guard) (is_name count p.keep && true) two.0
    (and_from (is_name count p.keep) true two.1 refl)
names-of-place count p (Some k) fits =
    let all = and_parts (is_name count p.guard && is_name count p.keep) (are_names count p.values) fits in
    let two = and_parts (is_name count p.guard) (is_name count p.keep) all.0 in
    and_from (is_name count p.guard) (is_name count p.keep && are_names count p.values) two.0
    (and_from (is_name count p.keep) (are_names count p.values) two.1 all.1)

names-along : (count : ℕ) (ps : List PlaceWords) (gs : List (Option ℕ)) → list_all (is_place count) ps ≡ true
    → are_names count (roots_along ps gs) ≡ true
names-along count [] gs fits = refl
names-along count (p ∷ ps) [] fits = refl
names-along count (p ∷ ps) (g ∷ gs) fits =
    let two = and_parts (is_place count p) (list_all (is_place count) ps) fits in
    list_all-append (is_name count) (roots_at p g) (roots_along ps gs)
    ∙ and_from (are_names count (roots_at p g)) (are_names count (roots_along ps gs)) (names-of-place count
    p g two.0)
    (names-along count ps gs two.1)

pub roots-named : (list : WordList) (gs : List (Option ℕ))
    → are_names (length list.words) (roots_of list gs) ≡ true
roots-named list gs =
    let fits = list-fits list in
    list_all-append (is_name (length list.words)) list.require (roots_along list.places gs)
    ∙ and_from (are_names (length list.words) list.require) (are_names (length list.words) (roots_along
    list.places gs))
    fits.require (names-along (length list.words) list.places gs fits.places)
