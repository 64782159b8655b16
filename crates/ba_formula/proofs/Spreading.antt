-- How the soft literals of groups lie beside a list of weights.
use Rattle.std.proofs.Common.{◌≡◌, ℕ, suc, zero, ◌+◌, ◌-◌, ◌≤◌, ◌⊎◌, inl, inr, true, None, Some, List, [], ◌∷◌, ◌++◌, replicate, map, length, get_or, refl, sym, ◌∙◌, ap, subst, arith}
use Rattle.std.proofs.lemmas.Bool.{and_parts}
use Rattle.std.proofs.lemmas.Bool.Decides.{nat_tests}
use Rattle.std.specs.List.{list_all}
use Rattle.std.specs.Prelude.{Contains, nat_le}
use Rattle.ba_encode.specs.Encodings.{without_selector}
use Rattle.ba_encode.specs.Groups.{places_from, statements_from}
use Rattle.ba_encode.specs.Softs.{soft_of, softs_from}
use Rattle.ba_encode.specs.declared.encoded.Group.{Group}
use Rattle.ba_encode.specs.declared.grouping.Numbered.{Numbered}
use Rattle.ba_lits.specs.Satisfaction.{Soft}
use Rattle.ba_places.specs.Numbers.{unit_weights_of}
use Rattle.ba_tree.specs.Least.{WeightList}
use Rattle.ba_tree.specs.Weights.{is_weight}
use Rattle.ba_tree.specs.declared.run.Place.{Place}

-- LISTS

pub first_or_later : {A : Type 0} → (x : A) (xs : List A) (y : A) → Contains (x ∷ xs) y →
    (x ≡ y) ⊎ Contains xs y
first_or_later x xs y (zero, few, is) = inl is
first_or_later x xs y (suc k, few, is) = inr (k, omega (arith, few), is)

pub later : {A : Type 0} → (x : A) (xs : List A) (y : A) → Contains xs y → Contains (x ∷ xs) y
later x xs y (k, few, is) = (suc k, omega (arith, few), is)

same-first : (a b : ℕ × ℕ) (xs ys : List (ℕ × ℕ)) → a ∷ xs ≡ b ∷ ys → a ≡ b
same-first a b xs ys same = ap (λ ns. get_or ns 0 (0, 0)) same

abbrev rest : List (ℕ × ℕ) → List (ℕ × ℕ)
rest [] = []
rest (n ∷ ns) = ns

same-rest : (a b : ℕ × ℕ) (xs ys : List (ℕ × ℕ)) → a ∷ xs ≡ b ∷ ys → xs ≡ ys
same-rest a b xs ys same = ap rest same

absurd_first : {A : Type 0} → (a : ℕ × ℕ) (xs : List (ℕ × ℕ)) → a ∷ xs ≡ [] → A
absurd_first a xs same = let wrong : suc (length xs) ≡ 0 = ap length same in absurd (omega (arith, wrong))

-- NUMBERS AND WEIGHTS. Groups have those of a list of weights, whose first entry is that of a number, where
-- they are its entries that are weights, in its order.

abbrev pub number_and_weight : Numbered → ℕ × ℕ
number_and_weight n = (n.number, n.weight)

abbrev pub weights_from : ℕ → WeightList → List (ℕ × ℕ)
weights_from k [] = []
weights_from k (None ∷ w) = weights_from (k + 1) w
weights_from k (Some x ∷ w) = (k, x) ∷ weights_from (k + 1) w

abbrev pub HaveWeights : ℕ → WeightList → List Group → Type 0
HaveWeights k w gs = map (λ (g : Group). number_and_weight (without_selector g)) gs ≡ weights_from k w

pub without-selectors : {A : Type 0} → (f : Numbered → A) (gs : List Group)
    → map (λ (g : Group). f (without_selector g)) gs ≡ map f (map without_selector gs)
without-selectors f [] = refl
without-selectors f (g ∷ gs) = ap (λ fs. f (without_selector g) ∷ fs) (without-selectors f gs)

-- statements have their own weights
statements-weigh : (k : ℕ) (w : WeightList) → map number_and_weight (statements_from k w) ≡ weights_from k w
statements-weigh k [] = refl
statements-weigh k (None ∷ w) = statements-weigh (k + 1) w
statements-weigh k (Some x ∷ w) = ap (λ ns. (k, x) ∷ ns) (statements-weigh (k + 1) w)

pub statements-have : (w : WeightList) (gs : List Group) → map without_selector gs ≡ statements_from 1 w
    → HaveWeights 1 w gs
statements-have w gs is = without-selectors number_and_weight gs ∙ ap (map number_and_weight) is
    ∙ statements-weigh 1 w

-- places weigh 1 each
places-weigh : (k : ℕ) (places : List Place)
    → map number_and_weight (places_from k places) ≡ weights_from k (unit_weights_of places)
places-weigh k [] = refl
places-weigh k (place ∷ places) = ap (λ ns. (k, 1) ∷ ns) (places-weigh (k + 1) places)

pub places-have : (places : List Place) (gs : List Group) → map without_selector gs ≡ places_from 1 places
    → HaveWeights 1 (unit_weights_of places) gs
places-have places gs is = without-selectors number_and_weight gs ∙ ap (map number_and_weight) is
    ∙ places-weigh 1 places

-- GROUPS stand by ascending numbers

some-weight : (x : ℕ) → is_weight (Some x) ≡ true → 1 ≤ x
some-weight x ok = let one : nat_le 1 x ≡ true = (and_parts (nat_le 1 x) (nat_le x 1000) ok).0 in
    grind (arith, nat_tests, one)

-- of a group and of those behind it
abbrev own : Group → ℕ × ℕ
own g = number_and_weight (without_selector g)

abbrev others : List Group → List (ℕ × ℕ)
others gs = map (λ (g : Group). number_and_weight (without_selector g)) gs

first-number : (k : ℕ) (w : WeightList) (g : Group) (gs : List Group) → HaveWeights k w (g ∷ gs)
    → k ≤ g.number
first-number k [] g gs is = absurd_first (own g) (others gs) is
first-number k (None ∷ w) g gs is = let more : k + 1 ≤ g.number = first-number (k + 1) w g gs is in
    omega (arith, more)
first-number k (Some x ∷ w) g gs is =
    let same : g.number ≡ k =
    ap (λ (n : ℕ × ℕ). n.0) (same-first (own g) (k, x) (others gs) (weights_from (k + 1) w) is) in
    omega (arith, same)

-- an entry that stands for no group
softs-gap : (k : ℕ) (g : Group) (gs : List Group) → k + 1 ≤ g.number
    → softs_from k (g ∷ gs) ≡ (g.selector, 0) ∷ softs_from (k + 1) (g ∷ gs)
softs-gap k g gs above =
    let same : g.number - k ≡ suc (g.number - (k + 1)) = omega (arith, above) in
    ap (λ n. replicate n (g.selector, 0) ++ soft_of g ∷ softs_from (g.number + 1) gs) same

softs-group : (k : ℕ) (g : Group) (gs : List Group) → g.number ≡ k
    → softs_from k (g ∷ gs) ≡ (g.selector, g.weight) ∷ softs_from (k + 1) gs
softs-group k g gs is =
    let same : g.number - k ≡ 0 = omega (arith, is) in
    ap (λ n. replicate n (g.selector, 0) ++ soft_of g ∷ softs_from (g.number + 1) gs) same
    ∙ ap (λ n. (g.selector, g.weight) ∷ softs_from (n + 1) gs) is

-- What holds of groups and soft literals holds by induction over the weights: none are left; a number has no
-- weight, so that the entry is empty, or there is none since no group is left; or it has one.
module _ (P : ℕ → WeightList → List Group → List Soft → Type 0)
    (ends : (k : ℕ) → P k [] [] [])
    (passes : (k : ℕ) (w : WeightList) → P (k + 1) w [] [] → P k (None ∷ w) [] [])
    (skips : (k : ℕ) (w : WeightList) (g : Group) (gs : List Group) (ss : List Soft) → k + 1 ≤ g.number
    → P (k + 1) w (g ∷ gs) ss → P k (None ∷ w) (g ∷ gs) ((g.selector, 0) ∷ ss))
    (takes : (k : ℕ) (w : WeightList) (g : Group) (gs : List Group) (ss : List Soft) → g.number ≡ k
    → 1 ≤ g.weight → P (k + 1) w gs ss → P k (Some g.weight ∷ w) (g ∷ gs) ((g.selector, g.weight) ∷ ss)) where
  pub spread : (k : ℕ) (w : WeightList) (gs : List Group) → HaveWeights k w gs → list_all is_weight w ≡ true
      → P k w gs (softs_from k gs)
  spread k [] [] is ok = ends k
  spread k [] (g ∷ gs) is ok = absurd_first (own g) (others gs) is
  spread k (None ∷ w) [] is ok = passes k w (spread (k + 1) w [] is ok)
  spread k (None ∷ w) (g ∷ gs) is ok =
      let above : k + 1 ≤ g.number = first-number (k + 1) w g gs is in
      subst (P k (None ∷ w) (g ∷ gs)) (sym (softs-gap k g gs above))
      (skips k w g gs (softs_from (k + 1) (g ∷ gs)) above (spread (k + 1) w (g ∷ gs) is ok))
  spread k (Some x ∷ w) [] is ok =
      absurd_first (k, x) (weights_from (k + 1) w) (sym is)
  spread k (Some x ∷ w) (g ∷ gs) is ok =
      let both = and_parts (is_weight (Some x)) (list_all is_weight w) ok in
      let same : own g ≡ (k, x) = same-first (own g) (k, x) (others gs) (weights_from (k + 1) w) is in
      let number : g.number ≡ k = ap (λ (n : ℕ × ℕ). n.0) same in
      let weight : g.weight ≡ x = ap (λ (n : ℕ × ℕ). n.1) same in
      subst (λ y. P k (Some y ∷ w) (g ∷ gs) (softs_from k (g ∷ gs))) weight
      (subst (P k (Some g.weight ∷ w) (g ∷ gs)) (sym (softs-group k g gs number))
      (takes k w g gs (softs_from (k + 1) gs) number (subst (λ y. 1 ≤ y) (sym weight) (some-weight x both.0))
      (spread (k + 1) w gs (same-rest (own g) (k, x) (others gs) (weights_from (k + 1) w) is) both.1)))
