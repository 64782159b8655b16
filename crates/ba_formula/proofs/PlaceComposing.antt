-- The formula of places, put together.
use Rattle.std.proofs.Common.{◌≡◌, ℕ, zero, suc, true, Some, List, All, length, replicate, refl, sym, subst}
use Rattle.std.specs.List.{list_all}
use Rattle.std.specs.Prelude.{Contains, IfOk, IsSome, Ok, Err, Result, ◌↔◌}
use Rattle.ba_derivations.specs.Encodings.{IsFaithful, false_groups}
use Rattle.ba_encode.specs.Encodings.{IsEncodingOf}
use Rattle.ba_encode.specs.Readings.{choices_read}
use Rattle.ba_encode.specs.Softs.{softs_of}
use Rattle.ba_encode.specs.declared.grouping.Grouping.TheVariants.{ByPlace}
use Rattle.ba_formula.proofs.Composing.{IsFormulaBy, composed}
use Rattle.ba_formula.proofs.Enough.{enough}
use Rattle.ba_formula.proofs.Guarding.{done-is}
use Rattle.ba_formula.proofs.PlaceRelaxing.{none-relaxed, places-relaxed}
use Rattle.ba_formula.proofs.Spreading.{places-have}
use Rattle.ba_formula.specs.PlaceFormulas.{IsPlaceFormulaOf}
use Rattle.ba_formula.specs.Words.{HasRuns, good_on}
use Rattle.ba_formula.specs.declared.by_place.PlaceFormula.{PlaceFormula}
use Rattle.ba_lits.specs.Literals.{IsClause}
use Rattle.ba_places.specs.Least.{IsPlaceSet, place_judge_of}
use Rattle.ba_places.specs.Numbers.{AreSuspects, judge_by, places_at, places_of_words, unit_weights_of}
use Rattle.ba_tree.specs.Least.{AreWeightsOf, WeightList, weight_at}
use Rattle.ba_tree.specs.Run.{plain_run}
use Rattle.ba_tree.specs.Weights.{is_weight}
use Rattle.ba_tree.specs.declared.run.Allowed.TheVariants.{Places}
use Rattle.ba_tree.specs.declared.run.Bounds.{Bounds}
use Rattle.ba_tree.specs.declared.run.Input.{Input}
use Rattle.ba_tree.specs.declared.run.Place.{Place}
use Rattle.ba_tree.specs.declared.tree.Program.{Program}
use Rattle.ba_wordlist.specs.declared.words.WordList.{WordList}

units-in-range : (n : ℕ) → list_all is_weight (replicate n (Some 1)) ≡ true
units-in-range zero = refl
units-in-range (suc n) = units-in-range n

-- what a formula of some places is, where these are all places of the list whose statements have a weight
pub place-formula-is : (p : Program) (input : Input) (b : Bounds) (w : WeightList) → AreWeightsOf p w
    → (list : WordList) → HasRuns p (good_on p input b) list → (places : List Place) → IsPlaceSet w places
    → ((place : Place) → Contains places place
    ↔ (Contains (places_of_words list) place × IsSome (weight_at w place.stmt.0)))
    → (made : PlaceFormula) → made.places ≡ places → IsEncodingOf list (ByPlace places) made.encoded
    → All (IsClause made.encoded.formula.variables) made.encoded.formula.clauses
    → IsPlaceFormulaOf p input b w made
place-formula-is p input b w are_weights list has places is_set exactly made same encodes clauses =
    let is : IsFormulaBy (good_on p input b) (unit_weights_of places)
    (judge_by (place_judge_of p input b) places) made.encoded =
    composed p (good_on p input b) list has (ByPlace places) made.encoded encodes clauses (unit_weights_of
    places)
    (units-in-range (length places)) (places-have places made.encoded.groups encodes.groups_are)
    (λ set. Places (places_at places set)) (λ set relaxable. places-relaxed p w are_weights places is_set set)
    (none-relaxed p places) in
    record {
      suspects = subst (AreSuspects w (place_judge_of p input b)) (sym same)
          (record { is_set = is_set; enough = enough w list places exactly p input b has });
      faithful = subst (λ (qs : List Place). IsFaithful made.encoded.formula (softs_of made.encoded.groups)
          (unit_weights_of qs) (judge_by (place_judge_of p input b) qs)) (sym same) is.faithful;
      runs = λ v satisfies. subst (λ (qs : List Place). judge_by (place_judge_of p input b) qs
          (false_groups v (softs_of made.encoded.groups)) (choices_read v made.encoded.places) ≡ true)
          (sym same) (is.runs v satisfies);
      some = λ fails. is.some (λ good. fails (done-is (plain_run p input b) good));
    }

-- what three clauses of a result give
pub three-ok : {A E : Type 0} → (r : Result A E) (P Q R S : A → Type 0) → ((a : A) → P a → Q a → R a → S a)
    → IfOk r P → IfOk r Q → IfOk r R → IfOk r S
three-ok (Ok a) P Q R S gives one two three = gives a one two three
three-ok (Err e) P Q R S gives one two three = tt
