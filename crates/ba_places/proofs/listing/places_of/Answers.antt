use Rattle.std.proofs.Common.{sym, subst}
use Rattle.std.specs.Prelude.{◌↔◌, Contains, IsSome}
use Rattle.ba_places.specs.Least.{IsPlaceSet}
use Rattle.ba_places.specs.Numbers.{places_of_words}
use Rattle.ba_places.proofs.Weighed.{exactly_weighed, weighed_set}
use Rattle.ba_places.proofs.listing.places_of.Goals as goal
use Rattle.ba_tree.specs.Least.{weight_at}

pub returns-clause-set : goal.returns-clause-set
returns-clause-set c =
    subst (IsPlaceSet c.args.weights.now.of) (sym c.from_vec.ensures)
    (weighed_set c.args.weights.now.of (places_of_words c.args.words.now) c.in_ok-places.places.items
    c.put_in_order.new.places.items c.in_ok-places.ensures c.put_in_order.ensures.same
    c.put_in_order.ensures.ascending)

pub returns-clause-exactly : goal.returns-clause-exactly
returns-clause-exactly c place =
    subst (λ kept. Contains kept place ↔ (Contains (places_of_words c.args.words.now) place
    × IsSome (weight_at c.args.weights.now.of place.stmt.0))) (sym c.from_vec.ensures)
    (exactly_weighed c.args.weights.now.of (places_of_words c.args.words.now) c.in_ok-places.places.items
    c.put_in_order.new.places.items c.in_ok-places.ensures c.put_in_order.ensures.same place)
