-- What is true of the numbers of places is true of the places.

use Rattle.std.proofs.Common.{◌≡◌, ◌≢◌, ℕ, suc, ◌≤◌, List, [], ◌∷◌, length, map, refl, sym, ◌∙◌, ap, subst, inl, inr, arith}
use Rattle.std.proofs.lemmas.List.{length-map}
use Rattle.std.proofs.lemmas.List.Elements.{All-map}
use Rattle.std.specs.Prelude.{Contains}
use Rattle.ba_choices.specs.Judges.{Judge}
use Rattle.ba_derivations.specs.Derivations.{AreTooMany, sets_of}
use Rattle.ba_derivations.specs.declared.verdict.FoundSet.{FoundSet}
use Rattle.ba_derivations.specs.declared.verdict.Verdict.{Verdict}
use Rattle.ba_derivations.specs.declared.verdict.Verdict.TheVariants.{Located, NoRepair, TooMany, Spent}
use Rattle.ba_encode.specs.declared.encoded.Encoded.{Encoded}
use Rattle.ba_localise.specs.Places.{AreLocatedPlaces, FindsPlaces, IsGoodFor, IsPlaceVerdict, LeavesPlaces, found_at, over_places, place_sets_of}
use Rattle.ba_localise.specs.Starting.{IsEncodedBy}
use Rattle.ba_localise.specs.Verdicts.{AreLocated, Finds, IsVerdict, LeavesDerivation}
use Rattle.ba_places.proofs.Numbering.{places_many}
use Rattle.ba_places.specs.Least.{AreLeastPlaces, AreTooManyPlaces, JudgeOfPlaces, place_judge_of}
use Rattle.ba_places.specs.Numbers.{AreSuspects, judge_by, places_at, unit_weights_of}
use Rattle.ba_steps.specs.Sinks.{Told}
use Rattle.ba_steps.specs.declared.step.CertStep.{CertStep}
use Rattle.ba_tree.proofs.Members.{Has, contains_has, has_contains}
use Rattle.ba_tree.specs.Least.{AreLeast, IsRelaxableSet, WeightList, weight_of}
use Rattle.ba_tree.specs.declared.run.Bounds.{Bounds}
use Rattle.ba_tree.specs.declared.run.Input.{Input}
use Rattle.ba_tree.specs.declared.run.Place.{Place}
use Rattle.ba_tree.specs.declared.tree.Program.{Program}

-- equal programs, inputs, bounds and lists of places have one judge of numbers
pub same-judge : (p q : Program) (i k : Input) (b d : Bounds) (places others : List Place) → p ≡ q → i ≡ k
    → b ≡ d → places ≡ others
    → judge_by (place_judge_of p i b) places ≡ judge_by (place_judge_of q k d) others
same-judge p q i k b d places others is_p is_i is_b are =
    λ n. judge_by (place_judge_of (is_p n) (is_i n) (is_b n)) (are n)

module _ (weights : WeightList) (good : JudgeOfPlaces) (places : List Place)
    (all : (sets : List (List ℕ)) → AreLeast (unit_weights_of places) (judge_by good places) sets
    → AreLeastPlaces weights good (map (places_at places) sets))
    (too_many : (members most : ℕ) (sets : List (List ℕ))
    → AreTooMany (unit_weights_of places) (judge_by good places) members most sets
    → AreTooManyPlaces weights good members most (map (places_at places) sets)) where
  abbrev units : WeightList
  units = unit_weights_of places

  abbrev by_number : Judge
  by_number = judge_by good places

  sets-at : (sets : List FoundSet)
      → map (places_at places) (sets_of sets) ≡ place_sets_of (map (found_at places) sets)
  sets-at [] = refl
  sets-at (set ∷ sets) = ap (λ others. places_at places set.groups ∷ others) (sets-at sets)

  some-at : (sets : List FoundSet) → sets ≢ [] → map (found_at places) sets ≢ []
  some-at [] some none = some refl
  some-at (set ∷ sets) some none =
      let wrong : suc (length (map (found_at places) sets)) ≡ 0 = ap length none in omega (arith, wrong)

  -- the places of a set are as many as it weighs
  each-has : (members : ℕ) (sets : List (List ℕ))
      → ((set : List ℕ) → Has sets set → IsRelaxableSet units set × (weight_of units set ≡ members))
      → (found : List Place) → Has (map (places_at places) sets) found → length found ≡ members
  each-has members [] each found has = absurd has
  each-has members (set ∷ sets) each found (inl is) =
      let first : IsRelaxableSet units set × (weight_of units set ≡ members) = each set (inl refl) in
      ap length is ∙ places_many places set first.0 ∙ first.1
  each-has members (set ∷ sets) each found (inr has) =
      each-has members sets (λ other at. each other (inr at)) found has

  located : (most members : ℕ) (sets : List FoundSet) → AreLocated units by_number most members sets
      → AreLocatedPlaces weights good most members (map (found_at places) sets)
  located most members sets are = record {
    least = subst (AreLeastPlaces weights good) (sets-at sets) (all (sets_of sets) are.least);
    some = some-at sets are.some;
    each_has = λ set at. each-has members (sets_of sets)
        (λ other has. let among = has_contains (sets_of sets) other has in
        (((are.least.exactly other).0 among).is_set, are.each_weighs other among)) set
        (contains_has (map (places_at places) (sets_of sets)) set
        (subst (λ found. Contains found set) (sym (sets-at sets)) at));
    runs = All-map (IsGoodFor good) (found_at places) sets are.runs;
    few = subst (λ n. n ≤ most) (sym (length-map sets (found_at places))) are.few;
  }

  verdict-at : (conflicts most : ℕ) (steps : List CertStep) (verdict : Verdict)
      → IsVerdict units by_number conflicts most steps verdict → IsPlaceVerdict weights good most places
      verdict
  verdict-at conflicts most steps (Located members sets) is = located most members sets is
  verdict-at conflicts most steps NoRepair is = all [] is
  verdict-at conflicts most steps (TooMany members sets) is = too_many members most (sets_of sets) is.0
  verdict-at conflicts most steps Spent is = tt

-- A SEARCH by numbers, whose judge is that of the places, over a formula that encodes it
module _ (weights : WeightList) (good : JudgeOfPlaces) (places : List Place)
    (suspects : AreSuspects weights good places) (by_number : Judge) (same : by_number ≡ judge_by good places)
    (encoded : Encoded) (faithful : IsEncodedBy (unit_weights_of places) (judge_by good places) encoded)
    (conflicts most : ℕ) (old new : Told) where
  encodes : IsEncodedBy (unit_weights_of places) by_number encoded
  encodes = subst (λ (judge : Judge). IsEncodedBy (unit_weights_of places) judge encoded) (sym same) faithful

  -- finds what is true of the places
  pub finds-places : ((sets : List (List ℕ)) → AreLeast (unit_weights_of places) (judge_by good places) sets
      → AreLeastPlaces weights good (map (places_at places) sets))
      → ((members most : ℕ) (sets : List (List ℕ))
      → AreTooMany (unit_weights_of places) (judge_by good places) members most sets
      → AreTooManyPlaces weights good members most (map (places_at places) sets))
      → (verdict : Verdict)
      → ((w : WeightList) → IsEncodedBy w by_number encoded → Finds w by_number conflicts most old new
      verdict)
      → FindsPlaces weights good conflicts most old new (record { places = places; verdict = verdict })
  finds-places all too_many verdict finds =
      let found : Finds (unit_weights_of places) (judge_by good places) conflicts most old new verdict =
      subst (λ (judge : Judge). Finds (unit_weights_of places) judge conflicts most old new verdict) same
      (finds (unit_weights_of places) encodes) in
      record {
        suspects = suspects;
        finds = found;
        is_verdict = verdict-at weights good places all too_many conflicts most found.derivation.steps verdict
            found.shows.is_verdict;
      }

  -- and leaves what is left of a derivation over their numbers
  pub leaves-places : ((w : WeightList) → IsEncodedBy w by_number encoded
      → LeavesDerivation w by_number conflicts most old new)
      → LeavesPlaces weights good conflicts most old new
  leaves-places leaves = over_places places suspects
      (subst (λ (judge : Judge). LeavesDerivation (unit_weights_of places) judge conflicts most old new) same
      (leaves (unit_weights_of places) encodes))
