use Rattle.ba_places.proofs.Unique.{AreLeastPlaces-unique}
use Rattle.ba_places.proofs.laws.least_places_are_unique.Goals as goal

pub returns : goal.returns
returns c weights good sets others = AreLeastPlaces-unique weights good sets others
