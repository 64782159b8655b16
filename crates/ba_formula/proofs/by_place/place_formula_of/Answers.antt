use Rattle.ba_formula.proofs.PlaceComposing.{place-formula-is, three-ok}
use Rattle.ba_formula.proofs.PlaceRelaxing.{are-apart}
use Rattle.ba_formula.specs.PlaceFormulas.{IsPlaceFormulaOf}
use Rattle.ba_formula.proofs.by_place.place_formula_of.Goals as goal

pub encode_places-requires : goal.encode_places-requires
encode_places-requires c = are-apart c.in_ok-places.places c.in_ok-places.ensures.set.ascending

pub returns : goal.returns
returns c =
    let p = c.args.program.now in
    let input = c.args.input.now in
    let w = c.args.weights.now.of in
    three-ok c.encode_places.result _ _ _ (IsPlaceFormulaOf p input c.args.bounds w)
    (place-formula-is p input c.args.bounds w c.requires.weights c.in_ok-words.words c.in_ok-words.ensures
    c.in_ok-places.places c.in_ok-places.ensures.set c.in_ok-places.ensures.exactly)
    c.encode_places.ensures.places c.encode_places.ensures.encodes c.encode_places.ensures.clauses
