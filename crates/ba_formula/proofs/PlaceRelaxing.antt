-- What may be relaxed where the places of numbers are, in a word list and in the program.
use Rattle.std.proofs.Common.{◌≡◌, ℕ, zero, suc, ◌+◌, ◌-◌, ◌<◌, ◌==◌, Bool, true, false, not, ◌&&◌, ◌||◌, cond, Option, None, Some, List, [], ◌∷◌, All, reverse, slice_get, refl, sym, ◌∙◌, ap, subst, arith}
use Rattle.std.proofs.lemmas.Bool.{and_from, and_parts, eqb-true}
use Rattle.std.proofs.lemmas.Bool.Decides.{nat_tests}
use Rattle.std.proofs.lemmas.List.{reverse-reverse}
use Rattle.std.proofs.lemmas.List.Elements.{All-head, All-tail}
use Rattle.std.specs.List.{cons_option, list_any}
use Rattle.std.specs.List.Sorted.{IsStrictlySortedBy}
use Rattle.std.specs.Prelude.{IsSome}
use Rattle.ba_code.proofs.Paths.{filled-none}
use Rattle.ba_code.specs.Meaning.{path_in}
use Rattle.ba_encode.specs.Groups.{are_different, is_in_set, is_place, relaxes_in}
use Rattle.ba_encode.specs.declared.grouping.Grouping.TheVariants.{ByPlace}
use Rattle.ba_formula.proofs.Members.{is_in}
use Rattle.ba_formula.proofs.Relaxing.{not-assert}
use Rattle.ba_numbers.specs.declared.ids.StmtId.{StmtId}
use Rattle.ba_places.proofs.Orders.{first_apart, same_place-by_parts, same_place-is}
use Rattle.ba_places.specs.Least.{IsPlaceSet}
use Rattle.ba_places.specs.Numbers.{place_at, places_at}
use Rattle.ba_places.specs.Order.{place_cmp}
use Rattle.ba_tree.specs.Choices.{admits, is_assert, is_there, same_path}
use Rattle.ba_tree.specs.Least.{AreWeightsOf, WeightList, weight_at}
use Rattle.ba_tree.specs.declared.run.Allowed.TheVariants.{Places, Statements}
use Rattle.ba_tree.specs.declared.run.Place.{Place}
use Rattle.ba_tree.specs.declared.run.Step.{Step}
use Rattle.ba_tree.specs.declared.tree.Program.{Program}

-- EXECUTIONS AND PLACES

-- an execution outside of loops and calls that are still to be followed is at its own place alone
pub there-is-place : (place other : Place) → is_there (path_in [] place.path) place.stmt other ≡ true
    → other ≡ place
there-is-place place other there = same_place-is other place
    (sym (same_place-by_parts other place)
    ∙ ap (λ path. (other.stmt.0 == place.stmt.0) && same_path other.path path)
    (sym (ap reverse (filled-none (reverse place.path)) ∙ reverse-reverse place.path))
    ∙ there)

-- an ascending list has no place twice
pub are-apart : (places : List Place) → IsStrictlySortedBy place_cmp places → are_different places ≡ true
unfolding IsStrictlySortedBy
are-apart [] ascending = refl
are-apart (place ∷ places) ascending =
    and_from (not (list_any (is_place place) places)) (are_different places)
    (ap not (first_apart place places ascending)) (are-apart places ascending.1)

-- NUMBERS: an execution at the place of a number is relaxed where the number is in the set

or_swap : (c a b : Bool) → (c || (a || b)) ≡ (a || (c || b))
or_swap true true b = refl
or_swap true false b = refl
or_swap false a b = refl

or_both : (a b t f g : Bool) → (((a || b) && t) || (f || g)) ≡ (((a && t) || f) || ((b && t) || g))
or_both true b true f g = refl
or_both true true false f g = refl
or_both true false false f g = refl
or_both false b t f g = or_swap (b && t) f g

or_none : (a : Bool) → (a || false) ≡ a
or_none true = refl
or_none false = refl

module _ (path : List Step) (stmt : StmtId) where
  abbrev there : Place → Bool
  there = is_there path stmt

  abbrev is_at : Option Place → Bool
  is_at None = false
  is_at (Some place) = there place

  set-either : (f g : ℕ → Bool) (k : ℕ) (places : List Place)
      → is_in_set (λ n. f n || g n) k places path stmt
      ≡ (is_in_set f k places path stmt || is_in_set g k places path stmt)
  set-either f g k [] = refl
  set-either f g k (place ∷ places) =
      ap (λ t. ((f k || g k) && there place) || t) (set-either f g (k + 1) places)
      ∙ or_both (f k) (g k) (there place) (is_in_set f (k + 1) places path stmt)
      (is_in_set g (k + 1) places path stmt)

  set-none : (k : ℕ) (places : List Place) → is_in_set (is_in []) k places path stmt ≡ false
  set-none k [] = refl
  set-none k (place ∷ places) = set-none (k + 1) places

  one-before : (n k : ℕ) (places : List Place) → n < k → is_in_set (λ m. n == m) k places path stmt ≡ false
  one-before n k [] less = refl
  one-before n k (place ∷ places) less =
      let other : (n == k) ≡ false = grind (arith, nat_tests) in
      ap (λ t. (t && there place) || is_in_set (λ m. n == m) (k + 1) places path stmt) other
      ∙ one-before n (k + 1) places (omega (arith, less))

  one-behind : (k i : ℕ) (places : List Place)
      → is_in_set (λ m. k + i == m) k places path stmt ≡ is_at (slice_get places i)
  one-behind k i [] = refl
  one-behind k zero (place ∷ places) =
      let own : (k + 0 == k) ≡ true = grind (arith, nat_tests) in
      ap (λ t. (t && there place) || is_in_set (λ m. k + 0 == m) (k + 1) places path stmt) own
      ∙ ap (λ t. there place || t) (one-before (k + 0) (k + 1) places (omega arith))
      ∙ or_none (there place)
  one-behind k (suc i) (place ∷ places) =
      let other : (k + suc i == k) ≡ false = grind (arith, nat_tests) in
      let next : k + suc i ≡ (k + 1) + i = omega arith in
      ap (λ t. (t && there place) || is_in_set (λ m. k + suc i == m) (k + 1) places path stmt) other
      ∙ ap (λ n. is_in_set (λ m. n == m) (k + 1) places path stmt) next
      ∙ one-behind (k + 1) i places

  one-number : (n : ℕ) (places : List Place)
      → is_in_set (λ m. n == m) 1 places path stmt ≡ is_at (place_at places n)
  one-number zero places = one-before 0 1 places (omega arith)
  one-number (suc i) places =
      let next : suc i ≡ 1 + i = omega arith in
      let back : suc i - 1 ≡ i = omega arith in
      let some : (suc i == 0) ≡ false = grind (arith, nat_tests) in
      ap (λ n. is_in_set (λ m. n == m) 1 places path stmt) next
      ∙ one-behind 1 i places
      ∙ ap (λ j. is_at (slice_get places j)) (sym back)
      ∙ ap (λ t. is_at (cond t None (slice_get places (suc i - 1)))) (sym some)

  any-first : (first : Option Place) (places : List Place)
      → list_any there (cons_option first places) ≡ (is_at first || list_any there places)
  any-first None places = refl
  any-first (Some place) places = refl

  pub all-numbers : (set : List ℕ) (places : List Place)
      → is_in_set (is_in set) 1 places path stmt ≡ list_any there (places_at places set)
  all-numbers [] places = set-none 1 places
  all-numbers (n ∷ ns) places =
      set-either (λ m. n == m) (is_in ns) 1 places
      ∙ (λ i. one-number n places i || all-numbers ns places i)
      ∙ sym (any-first (place_at places n) (places_at places ns))

  -- the place of an execution that is relaxed has a weight
  relaxed-weighs : (w : WeightList) (set : ℕ → Bool) (k : ℕ) (places : List Place)
      → All (λ (place : Place). IsSome (weight_at w place.stmt.0)) places
      → is_in_set set k places path stmt ≡ true → IsSome (weight_at w stmt.0)
  relaxed-weighs w set k [] some is = absurd (cc)
  relaxed-weighs w set k (place ∷ places) some is =
      by_case (set k && there place) refl is
      (relaxed-weighs w set (k + 1) places
      (All-tail (λ (place : Place). IsSome (weight_at w place.stmt.0)) place places some))
    where
      by_case : (t : Bool) → (set k && there place) ≡ t
          → (t || is_in_set set (k + 1) places path stmt) ≡ true
          → (is_in_set set (k + 1) places path stmt ≡ true → IsSome (weight_at w stmt.0))
          → IsSome (weight_at w stmt.0)
      by_case true both here later =
          let at : there place ≡ true = (and_parts (set k) (there place) both).1 in
          let same : place.stmt.0 ≡ stmt.0 =
          eqb-true place.stmt.0 stmt.0
          (and_parts (place.stmt.0 == stmt.0) (same_path place.path (reverse path)) at).0 in
          subst (λ n. IsSome (weight_at w n)) same
          (All-head (λ (place : Place). IsSome (weight_at w place.stmt.0)) place places some)
      by_case false both in_rest later = later in_rest

-- an execution may be relaxed in the program exactly where it may in the list
module _ (p : Program) (w : WeightList) (are_weights : AreWeightsOf p w) (places : List Place)
    (is_set : IsPlaceSet w places) (set : List ℕ) where
  at-place : (path : List Step) (stmt : StmtId)
      → relaxes_in (ByPlace places) (is_in set) path stmt ≡ admits p (Places (places_at places set)) path stmt
  unfolding admits
  at-place path stmt = by_case (is_in_set (is_in set) 1 places path stmt) refl where
    by_case : (t : Bool) → is_in_set (is_in set) 1 places path stmt ≡ t
        → is_in_set (is_in set) 1 places path stmt
        ≡ list_any (is_there path stmt) (places_at places set) && not (is_assert p stmt)
    by_case true is =
        let some : IsSome (weight_at w stmt.0) =
        relaxed-weighs path stmt w (is_in set) 1 places is_set.relaxable is in
        is ∙ sym (ap (λ t. t && not (is_assert p stmt)) (sym (all-numbers path stmt set places) ∙ is)
        ∙ not-assert p w are_weights stmt some)
    by_case false is =
        is ∙ sym (ap (λ t. t && not (is_assert p stmt)) (sym (all-numbers path stmt set places) ∙ is))

  pub places-relaxed : relaxes_in (ByPlace places) (is_in set) ≡ admits p (Places (places_at places set))
  places-relaxed = λ i path stmt. at-place path stmt i

-- nothing is relaxed where no number is in the set
none-at : (p : Program) (places : List Place) (path : List Step) (stmt : StmtId)
    → relaxes_in (ByPlace places) (is_in []) path stmt ≡ admits p (Statements []) path stmt
unfolding admits
none-at p places path stmt = set-none path stmt 1 places

pub none-relaxed : (p : Program) (places : List Place)
    → relaxes_in (ByPlace places) (is_in []) ≡ admits p (Statements [])
none-relaxed p places = λ i path stmt. none-at p places path stmt i
