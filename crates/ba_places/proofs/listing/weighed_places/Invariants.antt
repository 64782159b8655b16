use Rattle.std.proofs.Common.{◌≡◌, map, take}
use Rattle.std.specs.Prelude.{filter, is_some}
use Rattle.ba_places.proofs.listing.weighed_places.Given as goal
use Rattle.ba_tree.specs.Least.{weight_at}
use Rattle.ba_tree.specs.declared.run.Place.{Place}
use Rattle.ba_wordlist.specs.declared.words.PlaceWords.{PlaceWords}

abbrev pub invariant-loop-words : goal.invariant-loop-words
invariant-loop-words l =
    l.places.items ≡ filter (λ (place : Place). is_some (weight_at l.weights.of place.stmt.0))
    (map (λ (p : PlaceWords). p.place) (take l.words-index l.fn.words.places))
