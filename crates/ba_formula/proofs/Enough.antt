-- The places of a list of words are enough: a run comes to no others.
use Rattle.std.proofs.Common.{◌≡◌, ℤ, Bool, true, false, not, ◌&&◌, ◌||◌, cond, List, [], ◌∷◌, map, filter, refl, sym, ◌∙◌, ap, subst}
use Rattle.std.proofs.lemmas.List.Elements.{All-contains_itself, All-head, All-tail, recursion_from_All}
use Rattle.std.specs.List.{AllByRecursion, list_any}
use Rattle.std.specs.Prelude.{All, Contains, IsSome, ◌↔◌}
use Rattle.ba_choices.specs.declared.Choice.{Choice}
use Rattle.ba_code.specs.Meaning.{path_in}
use Rattle.ba_code_laws.specs.Tracing.{Relaxes, is_relaxed}
use Rattle.ba_code_laws.specs.Visits.{Visit, are_kept, chosen, is_keep}
use Rattle.ba_formula.proofs.PlaceRelaxing.{there-is-place}
use Rattle.ba_formula.specs.Words.{HasRuns, good_on}
use Rattle.ba_guards.specs.Contract.{Chosen}
use Rattle.ba_places.proofs.Orders.{contains-among}
use Rattle.ba_places.specs.Least.{IsPlaceSet, place_judge_of}
use Rattle.ba_places.specs.Numbers.{is_among, places_of_words}
use Rattle.ba_tree.specs.Choices.{admits, is_assert, is_there}
use Rattle.ba_tree.specs.Least.{WeightList, weight_at}
use Rattle.ba_tree.specs.declared.run.Allowed.TheVariants.{Places}
use Rattle.ba_tree.specs.declared.run.Bounds.{Bounds}
use Rattle.ba_tree.specs.declared.run.Input.{Input}
use Rattle.ba_tree.specs.declared.run.Place.{Place}
use Rattle.ba_tree.specs.declared.tree.Program.{Program}
use Rattle.ba_wordlist.specs.Meaning.{is_nonzero, value_at, values_of, visits_in, visits_of}
use Rattle.ba_wordlist.specs.declared.words.PlaceWords.{PlaceWords}
use Rattle.ba_wordlist.specs.declared.words.WordList.{WordList}

-- VISITS where the same executions may be relaxed

abbrev AgreeAt : Relaxes → Relaxes → Place → Type 0
AgreeAt r s place = is_relaxed r place ≡ is_relaxed s place

abbrev AgreeOn : Relaxes → Relaxes → List Visit → Type 0
AgreeOn r s = AllByRecursion (λ (v : Visit). AgreeAt r s v.place)

-- are kept alike
kept-same : (r s : Relaxes) (vs : List Visit) → AgreeOn r s vs → are_kept r vs ≡ are_kept s vs
unfolding are_kept
kept-same r s [] agree = refl
kept-same r s (v ∷ vs) agree = λ i. cond (agree.0 i) true (is_keep v.choice) && kept-same r s vs agree.1 i

-- and spell the same choices
chosen-same : (r s : Relaxes) (vs : List Visit) → AgreeOn r s vs → chosen r vs ≡ chosen s vs
unfolding chosen
chosen-same r s [] agree = refl
chosen-same r s (v ∷ vs) agree = λ i. cond (agree.0 i) (v.choice ∷ chosen-same r s vs agree.1 i)
    (chosen-same r s vs agree.1 i)

-- the visits of a list are at its places
visits-at : (P : Place → Type 0) (values : List (List ℤ)) (ps : List PlaceWords)
    → AllByRecursion P (map (λ (p : PlaceWords). p.place) ps)
    → AllByRecursion (λ (v : Visit). P v.place) (visits_in values ps)
unfolding visits_in
visits-at P values [] each = tt
visits-at P values (p ∷ ps) each = by_case (is_nonzero (value_at values p.guard)) refl
    (visits-at P values ps each.1) where
      by_case : (t : Bool) → is_nonzero (value_at values p.guard) ≡ t
          → AllByRecursion (λ (v : Visit). P v.place) (visits_in values ps)
          → AllByRecursion (λ (v : Visit). P v.place) (visits_in values (p ∷ ps))
      by_case true is later = rw is (each.0, later)
      by_case false is later = rw is later

module _ (w : WeightList) (list : WordList) (places : List Place)
    (exactly : (place : Place) → Contains places place
    ↔ (Contains (places_of_words list) place × IsSome (weight_at w place.stmt.0))) where
  abbrev kept : List Place → List Place
  kept = filter (is_among places)

  abbrev AreWeighed : List Place → Type 0
  AreWeighed = All (λ (place : Place). IsSome (weight_at w place.stmt.0))

  -- a set relaxes an execution at a place of the list by a member that is among the places
  any-kept : (q : Place) (set : List Place) → Contains (places_of_words list) q → AreWeighed set
      → list_any (is_there (path_in [] q.path) q.stmt) set
      ≡ list_any (is_there (path_in [] q.path) q.stmt) (kept set)
  any-kept q [] at some = refl
  any-kept q (m ∷ ms) at some =
      by_case (is_among places m) refl (any-kept q ms at
      (All-tail (λ (place : Place). IsSome (weight_at w place.stmt.0)) m ms some))
    where
      there : Place → Bool
      there = is_there (path_in [] q.path) q.stmt

      not-there : is_among places m ≡ false → (t : Bool) → there m ≡ t → there m ≡ false
      not-there out true is =
          let same : m ≡ q = there-is-place q m is in
          let listed : Contains (places_of_words list) m = subst (Contains (places_of_words list)) (sym same)
          at in
          let among : is_among places m ≡ true = contains-among m places ((exactly m).1 (
            listed,
            All-head (λ (place : Place). IsSome (weight_at w place.stmt.0)) m ms some,
          )) in
          absurd (cc)
      not-there out false is = is

      by_case : (t : Bool) → is_among places m ≡ t → list_any there ms ≡ list_any there (kept ms)
          → (there m || list_any there ms) ≡ list_any there (cond (is_among places m) (m ∷ kept ms) (kept ms))
      by_case true is rest =
          ap (λ t. there m || t) rest
          ∙ ap (λ t. list_any there (cond t (m ∷ kept ms) (kept ms))) (sym is)
      by_case false is rest =
          ap (λ t. t || list_any there ms) (not-there is (there m) refl) ∙ rest
          ∙ ap (λ t. list_any there (cond t (m ∷ kept ms) (kept ms))) (sym is)

  module _ (p : Program) (input : Input) (b : Bounds) (has : HasRuns p (good_on p input b) list) where
    abbrev relaxing : List Place → Relaxes
    relaxing set = admits p (Places set)

    agree-at : (set : List Place) → AreWeighed set → (q : Place) → Contains (places_of_words list) q
        → AgreeAt (relaxing set) (relaxing (kept set)) q
    unfolding admits
    agree-at set some q at = ap (λ t. t && not (is_assert p q.stmt)) (any-kept q set at some)

    -- a good run of a set is one of its members among the places
    pub enough : (set : List Place) (choices : List Choice) → IsPlaceSet w set
        → place_judge_of p input b set choices ≡ true → place_judge_of p input b (kept set) choices ≡ true
    enough set choices is_set good =
        let spells : Chosen list (relaxing set) choices = has.each (Places set) choices good in
        let visits = visits_of spells.by list in
        let agree : AgreeOn (relaxing set) (relaxing (kept set)) visits =
        visits-at (AgreeAt (relaxing set) (relaxing (kept set))) (values_of spells.by list.words) list.places
        (recursion_from_All (AgreeAt (relaxing set) (relaxing (kept set))) (places_of_words list)
        (λ k d few. agree-at set is_set.relaxable _ (All-contains_itself (places_of_words list) k d few))) in
        subst (λ cs. place_judge_of p input b (kept set) cs ≡ true)
        (sym (chosen-same (relaxing set) (relaxing (kept set)) visits agree) ∙ spells.spells)
        (has.spelled (Places (kept set)) spells.by
        (sym (kept-same (relaxing set) (relaxing (kept set)) visits agree) ∙ spells.kept) spells.holds)
