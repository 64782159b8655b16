-- Two verdicts on the same runs that are true say the same sets, or the same weight.

use Rattle.std.proofs.Common.{◌≡◌, ◌≢◌, ℕ, ◌+◌, ◌≤◌, List, [], ◌∷◌, length, refl, sym, ap, subst, ◌∙◌, arith}
use Rattle.std.specs.Prelude.{Contains}
use Rattle.std.proofs.lemmas.List.{length-map}
use Rattle.ba_choices.specs.Judges.{Judge}
use Rattle.ba_derivations.specs.Derivations.{AreTooMany, sets_of}
use Rattle.ba_derivations.specs.declared.verdict.FoundSet.{FoundSet}
use Rattle.ba_tree.proofs.Sets.{AreLeast-unique}
use Rattle.ba_tree.specs.Least.{AreLeast, IsLeastSet, WeightList, weight_of}
use Rattle.ba_localise.specs.Verdicts.{AreLocated}
use Rattle.ba_localise.proofs.Counting.{distinct_short}

module _ (weights : WeightList) (good : Judge) (most : ℕ) where
  abbrev pub AreAll : ℕ → List FoundSet → Type 0
  AreAll weight sets = AreLocated weights good most weight sets

  abbrev pub AreMany : ℕ → List FoundSet → Type 0
  AreMany weight sets = AreTooMany weights good weight most (sets_of sets)

  -- a list of sets of which there are some has a first one
  weighs : (sets : List FoundSet) (one other : ℕ) → sets ≢ []
      → ((set : List ℕ) → Contains (sets_of sets) set → weight_of weights set ≡ one)
      → ((set : List ℕ) → Contains (sets_of sets) set → weight_of weights set ≡ other) → one ≡ other
  weighs [] one other some first second = absurd (some refl)
  weighs (set ∷ sets) one other some first second = sym (first set.groups (0, omega arith, refl))
      ∙ second set.groups (0, omega arith, refl)

  pub all_same : (weight more : ℕ) (sets others : List FoundSet) → AreAll weight sets → AreAll more others →
      sets_of sets ≡ sets_of others
  all_same weight more sets others one other = AreLeast-unique weights good
      (sets_of sets) (sets_of others) one.least other.least

  pub all_weigh : (weight more : ℕ) (sets others : List FoundSet) → AreAll weight sets → AreAll more others →
      weight ≡ more
  all_weigh weight more sets others one other = weighs sets weight more one.some one.each_weighs
      (subst (λ sets. (set : List ℕ) → Contains sets set → weight_of weights set ≡ more)
      (sym (all_same weight more sets others one other)) other.each_weighs)

  pub counted_same : (weight more : ℕ) (sets others : List FoundSet) → AreAll weight sets → AreAll more others
      →
      length sets ≡ length others
  counted_same weight more sets others one other =
      sym (length-map sets (λ (b : FoundSet). b.groups))
      ∙ ap length (all_same weight more sets others one other)
      ∙ length-map others (λ (b : FoundSet). b.groups)

  no_sets : (sets : List FoundSet) → sets_of sets ≡ [] → sets ≡ []
  no_sets [] e = refl
  no_sets (set ∷ sets) e = absurd (let no : ⊥ = cc in no)

  pub some_or_none : (weight : ℕ) (sets : List FoundSet) → AreAll weight sets →
      AreLeast weights good [] → ⊥
  some_or_none weight sets all none = all.some (no_sets sets
      (AreLeast-unique weights good (sets_of sets) [] all.least none))

  -- more sets than may be listed are some, and aren't all of a list of no more
  pub many_or_none : (weight : ℕ) (sets : List FoundSet) → AreMany weight sets →
      AreLeast weights good [] → ⊥
  many_or_none weight sets many none = by (sets_of sets) many.each many.count where
    by : (found : List (List ℕ))
        → ((set : List ℕ) → Contains found set → IsLeastSet weights good set)
        → length found ≡ most + 1 → ⊥
    by [] each count = omega (arith, count)
    by (set ∷ sets) each count = let has : Contains [] set =
        (none.exactly set).1 (each set (0, omega arith, refl)) in omega (arith, has.1)

  pub many_or_few : (weight more : ℕ) (sets others : List FoundSet) → AreAll weight sets → AreMany more others
      → ⊥
  many_or_few weight more sets others all many =
      let short : length (sets_of others) ≤ length (sets_of sets) = distinct_short (sets_of others)
      (sets_of sets) many.differ (λ set has. (all.least.exactly set).1 (many.each set has)) in
      let count = many.count in
      let few = all.few in
      let same = length-map sets (λ (b : FoundSet). b.groups) in omega (arith, short, count, few, same)

  -- two least sets weigh the same
  same_weight : (set other : List ℕ) → IsLeastSet weights good set
      → IsLeastSet weights good other
      → weight_of weights set ≡ weight_of weights other
  same_weight set other one two =
      let below = one.least other two.is_set two.feasible in
      let above = two.least set one.is_set one.feasible in
      omega arith

  many_weight : (weight other : ℕ) (found : List (List ℕ)) (set : List ℕ)
      → AreTooMany weights good weight most found
      → IsLeastSet weights good set → weight_of weights set ≡ other
      → weight ≡ other
  many_weight weight other [] set many least weighs = let count = many.count in omega arith
  many_weight weight other (first ∷ sets) set many least weighs =
      sym (many.each_weighs first (0, omega arith, refl))
      ∙ same_weight first set (many.each first (0, omega arith, refl)) least ∙ weighs

  pub weight_same : (weight other : ℕ) (found others : List (List ℕ))
      → AreTooMany weights good weight most found
      → AreTooMany weights good other most others → weight ≡ other
  weight_same weight other found [] one two = let count = two.count in omega arith
  weight_same weight other found (set ∷ sets) one two = many_weight weight other found set one
      (two.each set (0, omega arith, refl)) (two.each_weighs set (0, omega arith, refl))
