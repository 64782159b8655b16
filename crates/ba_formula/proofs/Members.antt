-- The groups whose selectors are false, as members of sets.
use Rattle.std.proofs.Common.{◌≡◌, ℕ, suc, zero, ◌+◌, ◌-◌, ◌<◌, ◌≤◌, ◌⊎◌, inl, inr, ◌==◌, ltb, Bool, true, false, not, ◌&&◌, ◌||◌, cond, Option, None, Some, List, [], ◌∷◌, map, refl, sym, ◌∙◌, ap, subst, arith}
use Rattle.std.proofs.lemmas.Bool.{cases_lt, eq-eqb}
use Rattle.std.proofs.lemmas.Bool.Decides.{nat_tests}
use Rattle.std.proofs.lemmas.List.Elements.{All-cons}
use Rattle.std.specs.List.{list_all, list_any, slice_get}
use Rattle.std.specs.Prelude.{All, Contains, IsSome}
use Rattle.ba_derivations.specs.Encodings.{false_groups, false_groups_from, is_false_group, weight_if, with_if}
use Rattle.ba_encode.specs.Encodings as encoding
use Rattle.ba_encode.specs.Encodings.{AreGivenUp, without_selector}
use Rattle.ba_encode.specs.Groups.{statements_from}
use Rattle.ba_encode.specs.Softs.{softs_from, softs_of}
use Rattle.ba_encode.specs.declared.encoded.Group.{Group}
use Rattle.ba_encode.specs.declared.grouping.Numbered.{Numbered}
use Rattle.ba_formula.proofs.Spreading.{HaveWeights, first_or_later, later, spread, without-selectors}
use Rattle.ba_lits.specs.Formulas.{Cnf}
use Rattle.ba_lits.specs.Literals.{Literal}
use Rattle.ba_lits.specs.Satisfaction.{Assignment, Soft, lit_true}
use Rattle.ba_numbers.specs.declared.ids.StmtId.{StmtId}
use Rattle.ba_checker.specs.Blocks as blocks
use Rattle.ba_checker.specs.Facts.{AreDifferent, AreSelectors, Differs}
use Rattle.ba_checker.specs.States.{present}
use Rattle.ba_tree.specs.Least.{AreRelaxableAbove, IsRelaxableSet, WeightList, entry_of, stmt_of, weight_at}
use Rattle.ba_tree.specs.Weights.{is_weight}
use Rattle.ba_tree.proofs.Members.{here}

-- a number is one of a list
abbrev pub is_in : List ℕ → ℕ → Bool
is_in ns n = list_any (λ m. m == n) ns

other-number : (m n : ℕ) → n < m → (m == n) ≡ false
other-number m n less = grind (arith, nat_tests)

-- FALSE GROUPS come behind the entries before

-- a greater number more changes nothing
passed-by : (t : Bool) (m n : ℕ) (ns : List ℕ) → n < m → is_in (with_if t m ns) n ≡ is_in ns n
passed-by false m n ns less = refl
passed-by true m n ns less = ap (λ t. t || is_in ns n) (other-number m n less)

above-none : (j : ℕ) (v : Assignment) (ss : List Soft) (n : ℕ) → n ≤ j →
    is_in (false_groups_from j v ss) n ≡ false
above-none j v [] n low = refl
above-none j v (s ∷ ss) n low =
    passed-by (is_false_group v s) (suc j) n (false_groups_from (suc j) v ss) (omega (arith, low))
    ∙ above-none (suc j) v ss n (omega (arith, low))

-- one number more changes nothing for the others
with-other : (t : Bool) (m n : ℕ) (ns : List ℕ) → m < n → is_in (with_if t m ns) n ≡ is_in ns n
with-other false m n ns less = refl
with-other true m n ns less = ap (λ t. t || is_in ns n) not-same where
  not-same : (m == n) ≡ false
  not-same = grind (arith, nat_tests)

-- and is there itself where it is put
with-own : (t : Bool) (n : ℕ) (ns : List ℕ) → is_in ns n ≡ false → is_in (with_if t n ns) n ≡ t
with-own false n ns none = none
with-own true n ns none = ap (λ t. t || is_in ns n) (eq-eqb n n refl)

weighty : (x : ℕ) → 1 ≤ x → ltb 0 x ≡ true
weighty x some = grind (arith, nat_tests)

not-not : (t : Bool) → not (not t) ≡ t
not-not true = refl
not-not false = refl

-- a group that has a weight is false exactly where its selector is
false-group : (v : Assignment) (s : Soft) → 1 ≤ s.1 → is_false_group v s ≡ not (lit_true v s.0)
false-group v s some = ap (λ t. t && not (lit_true v s.0)) (weighty s.1 some)

-- THE NUMBERS of groups

abbrev AreNumbered : ℕ → List Group → Type 0
AreNumbered k gs = (g : Group) → Contains gs g → k ≤ g.number

no-group : (g : Group) → Contains [] g → ⊥
no-group g (n, few, is) = omega (arith, few)

numbered-next : (k : ℕ) (g : Group) (gs : List Group) → g.number ≡ k → AreNumbered (k + 1) gs →
    AreNumbered k (g ∷ gs)
numbered-next k g gs is more h at = by (first_or_later g gs h at) where
  by : (g ≡ h) ⊎ Contains gs h → k ≤ h.number
  by (inl same) = let number : g.number ≡ h.number = ap (λ (x : Group). x.number) same in
      omega (arith, is, number)
  by (inr in_rest) = let more' : k + 1 ≤ h.number = more h in_rest in omega (arith, more')

-- THE SET OF A MODEL: exactly the groups of the false ones are given up
abbrev GivesUp : ℕ → WeightList → List Group → List Soft → Type 0
GivesUp k w gs ss = AreNumbered k gs × ((j : ℕ) (v : Assignment) → k ≡ suc j
    → AreGivenUp v gs (is_in (false_groups_from j v ss)))

gives-up : (k : ℕ) (w : WeightList) (gs : List Group) → HaveWeights k w gs
    → list_all is_weight w ≡ true → GivesUp k w gs (softs_from k gs)
gives-up = spread GivesUp
    (λ k. ((λ g at. absurd (no-group g at)), (λ j v is g at. absurd (no-group g at))))
    (λ k w so. ((λ g at. absurd (no-group g at)), (λ j v is g at. absurd (no-group g at))))
    (λ k w g gs ss above so. (
      (λ h at. let more : k + 1 ≤ h.number = so.0 h at in omega (arith, more)),
      (λ j v is. so.1 (suc j) v (let next : k + 1 ≡ suc (suc j) = omega (arith, is) in next)),
    ))
    (λ k w g gs ss number weighs so. (
      numbered-next k g gs number so.0,
      (λ j v is h at. one j v k w g gs ss number weighs so is h (first_or_later g gs h at)),
    ))
  where
    one : (j : ℕ) (v : Assignment) (k : ℕ) (w : WeightList) (g : Group) (gs : List Group) (ss : List Soft) →
        g.number ≡ k
        → 1 ≤ g.weight → GivesUp (k + 1) w gs ss → k ≡ suc j → (h : Group) → (g ≡ h) ⊎ Contains gs h
        → lit_true v h.selector ≡ not (is_in (false_groups_from j v ((g.selector, g.weight) ∷ ss)) h.number)
    one j v k w g gs ss number weighs so is h (inl same) =
        let own : g.number ≡ suc j = number ∙ is in
        subst (λ (x : Group). lit_true v x.selector
        ≡ not (is_in (false_groups_from j v ((g.selector, g.weight) ∷ ss)) x.number)) same
        (sym (ap not (ap (is_in (false_groups_from j v ((g.selector, g.weight) ∷ ss))) own
        ∙ with-own (is_false_group v (g.selector, g.weight)) (suc j) (false_groups_from (suc j) v ss)
        (above-none (suc j) v ss (suc j) (omega arith))
        ∙ false-group v (g.selector, g.weight) weighs) ∙ not-not (lit_true v g.selector)))
    one j v k w g gs ss number weighs so is h (inr at) =
        let next : k + 1 ≡ suc (suc j) = omega (arith, is) in
        let above : k + 1 ≤ h.number = so.0 h at in
        so.1 (suc j) v next h at
        ∙ sym (ap not (with-other (is_false_group v (g.selector, g.weight)) (suc j) h.number
        (false_groups_from (suc j) v ss)
        (omega (arith, is, above))))

pub given-up : (w : WeightList) (gs : List Group) → HaveWeights 1 w gs
    → list_all is_weight w ≡ true → (v : Assignment) → AreGivenUp v gs (is_in (false_groups v (softs_of gs)))
given-up w gs is ok v = (gives-up 1 w gs is ok).1 0 v refl

-- A SET GIVEN UP: the false groups are the numbers of the set that have a weight
abbrev taken : Option ℕ → Bool
taken None = false
taken (Some x) = true

unfoldable members : ℕ → WeightList → (ℕ → Bool) → List ℕ
members k [] set = []
members k (entry ∷ w) set = with_if (taken entry && set k) k (members (k + 1) w set)

abbrev AreMembers : ℕ → WeightList → List Group → List Soft → Type 0
AreMembers k w gs ss = (j : ℕ) (v : Assignment) (set : ℕ → Bool) → k ≡ suc j → AreGivenUp v gs set
    → false_groups_from j v ss ≡ members k w set

are-members : (k : ℕ) (w : WeightList) (gs : List Group) → HaveWeights k w gs
    → list_all is_weight w ≡ true → AreMembers k w gs (softs_from k gs)
unfolding members
are-members = spread AreMembers
    (λ k j v set is up. refl)
    (λ k w so j v set is up. so (suc j) v set (let next : k + 1 ≡ suc (suc j) = omega (arith, is) in
    next) (λ g at. absurd (no-group g at)))
    (λ k w g gs ss above so j v set is up. so (suc j) v set (let next : k + 1 ≡ suc (suc j) =
    omega (arith, is) in next) up)
    (λ k w g gs ss number weighs so j v set is up.
    let same : is_false_group v (g.selector, g.weight) ≡ set k =
    false-group v (g.selector, g.weight) weighs ∙ ap not (up g (here g gs)) ∙ not-not (set g.number)
    ∙ ap set number in
    ap (λ t. with_if t (suc j) (false_groups_from (suc j) v ss)) same
    ∙ ap (λ n. with_if (set k) n (false_groups_from (suc j) v ss)) (sym is)
    ∙ ap (with_if (set k) k) (so (suc j) v set (let next : k + 1 ≡ suc (suc j) = omega (arith, is) in next)
    (λ h at. up h (later g gs h at))))

-- the members of a set above a number that stand in a part of the weights, whose first entry is that of k
abbrev LiesIn : ℕ → WeightList → ℕ → List ℕ → Type 0
LiesIn k w low [] = Unit {0}
LiesIn k w low (n ∷ ns) = (low < n) × IsSome (entry_of (slice_get w (n - k))) × LiesIn k w n ns

lies-next : (k : ℕ) (entry : Option ℕ) (w : WeightList) (low : ℕ) (ns : List ℕ) → k ≤ low →
    LiesIn k (entry ∷ w) low ns
    → LiesIn (k + 1) w low ns
lies-next k entry w low [] high lies = tt
lies-next k entry w low (n ∷ ns) high lies =
    let next : n - k ≡ suc (n - (k + 1)) = omega (arith, high, lies.0) in
    let more : k ≤ n = omega (arith, high, lies.0) in (
      lies.0,
      subst (λ i. IsSome (entry_of (slice_get (entry ∷ w) i))) next lies.1,
      lies-next k entry w n ns more lies.2,
    )

below-none : (low n : ℕ) (k : ℕ) (w : WeightList) (ns : List ℕ) → n ≤ low → LiesIn k w low ns →
    is_in ns n ≡ false
below-none low n k w [] few lies = refl
below-none low n k w (m ∷ ns) few lies =
    ap (λ t. t || is_in ns n) (other-number m n (omega (arith, few, lies.0)))
    ∙ below-none m n k w ns (omega (arith, few, lies.0)) lies.2

none-taken : (e : Option ℕ) (k : ℕ) (ns : List ℕ) → with_if (taken e && false) k ns ≡ ns
none-taken None k ns = refl
none-taken (Some x) k ns = refl

is-taken : (e : Option ℕ) (k : ℕ) (ns : List ℕ) → IsSome e → with_if (taken e && true) k ns ≡ k ∷ ns
is-taken None k ns some = absurd (cc)
is-taken (Some x) k ns some = refl

no-entry : (i : ℕ) → IsSome (entry_of (slice_get [] i)) → ⊥
no-entry zero some = cc
no-entry (suc i) some = cc

-- the first entry is that of the first member, or of none
takes-first : (k n : ℕ) (entry : Option ℕ) (w : WeightList) (set : ℕ → Bool) (ns : List ℕ) → n ≡ k →
    LiesIn k (entry ∷ w) (n - 1) (n ∷ ns)
    → ((m : ℕ) → k ≤ m → set m ≡ is_in (n ∷ ns) m)
    → ((m : ℕ) → k + 1 ≤ m → set m ≡ is_in ns m) → members (k + 1) w set ≡ ns →
    members k (entry ∷ w) set ≡ n ∷ ns
unfolding members
takes-first k n entry w set ns own lies same more rest =
    let first : n - k ≡ 0 = omega (arith, own) in
    ap (λ t. with_if (taken entry && t) k (members (k + 1) w set))
    (same k (omega arith) ∙ ap (λ t. t || is_in ns k) (eq-eqb n k own))
    ∙ is-taken entry k (members (k + 1) w set)
    (subst (λ i. IsSome (entry_of (slice_get (entry ∷ w) i))) first lies.1)
    ∙ ap (λ ms. k ∷ ms) rest
    ∙ ap (λ m. m ∷ ns) (sym own)

passes-first : (k : ℕ) (entry : Option ℕ) (w : WeightList) (set : ℕ → Bool) (ns : List ℕ) → set k ≡ false
    → members (k + 1) w set ≡ ns → members k (entry ∷ w) set ≡ ns
unfolding members
passes-first k entry w set ns out rest =
    ap (λ t. with_if (taken entry && t) k (members (k + 1) w set)) out
    ∙ none-taken entry k (members (k + 1) w set) ∙ rest

abbrev Agree : ℕ → (ℕ → Bool) → List ℕ → Type 0
Agree k set ns = (n : ℕ) → k ≤ n → set n ≡ is_in ns n

-- the first of the members is the entry's own number, or a later one
which-first : (k low n : ℕ) (entry : Option ℕ) (w : WeightList) (set : ℕ → Bool) (ns : List ℕ) → k ≡ suc low
    → LiesIn k (entry ∷ w) low (n ∷ ns) → Agree k set (n ∷ ns)
    → (LiesIn (k + 1) w k ns → Agree (k + 1) set ns → members (k + 1) w set ≡ ns)
    → (LiesIn (k + 1) w k (n ∷ ns) → Agree (k + 1) set (n ∷ ns) → members (k + 1) w set ≡ n ∷ ns)
    → (n ≡ k) ⊎ (k < n) → members k (entry ∷ w) set ≡ n ∷ ns
which-first k low n entry w set ns is lies same own_rest other_rest (inl own) =
    let more : Agree (k + 1) set ns = λ m later. same m (omega (arith, later))
    ∙ ap (λ t. t || is_in ns m) (differs n m (omega (arith, own, later))) in
    takes-first k n entry w set ns own (omega (arith, own, is), lies.1, lies.2) same more
    (own_rest (lies-next k entry w k ns (omega arith) (subst (λ m. LiesIn k (entry ∷ w) m ns) own lies.2))
    more)
  where
    differs : (a b : ℕ) → a < b → (a == b) ≡ false
    differs a b less = grind (arith, nat_tests)
which-first k low n entry w set ns is lies same own_rest other_rest (inr above) =
    passes-first k entry w set (n ∷ ns)
    (same k (omega arith) ∙ ap (λ t. t || is_in ns k) (other-number n k above)
    ∙ below-none n k k (entry ∷ w) ns (omega (arith, above)) lies.2)
    (other_rest (lies-next k entry w k (n ∷ ns) (omega arith) (above, lies.1, lies.2))
    (λ m more. same m (omega (arith, more))))

members-are : (k low : ℕ) (w : WeightList) (set : ℕ → Bool) (ns : List ℕ) → k ≡ suc low → LiesIn k w low ns
    → Agree k set ns → members k w set ≡ ns
unfolding members
members-are k low [] set [] is lies same = refl
members-are k low [] set (n ∷ ns) is lies same = absurd (no-entry (n - k) lies.1)
members-are k low (entry ∷ w) set [] is lies same =
    passes-first k entry w set [] (same k (omega arith))
    (members-are (k + 1) k w set [] (omega arith) tt (λ n more. same n (omega (arith, more))))
members-are k low (entry ∷ w) set (n ∷ ns) is lies same =
    which-first k low n entry w set ns is lies same (members-are (k + 1) k w set ns (omega arith))
    (members-are (k + 1) k w set (n ∷ ns) (omega arith)) (own-or-later k n (omega (arith, is, lies.0)))
  where
    own-or-later : (a b : ℕ) → a ≤ b → (b ≡ a) ⊎ (a < b)
    own-or-later a b le = by (cases_lt a b) where
      by : (a < b) ⊎ (b ≤ a) → (b ≡ a) ⊎ (a < b)
      by (inl less) = inr less
      by (inr more) = inl (omega (arith, le, more))

lies-in : (w : WeightList) (low : ℕ) (ns : List ℕ) → AreRelaxableAbove w low ns → LiesIn 1 w low ns
lies-in w low [] are = tt
lies-in w low (n ∷ ns) are =
    let some : (n == 0) ≡ false = positive n (omega (arith, are.0)) in (
      are.0,
      subst (λ t. IsSome (cond t None (entry_of (slice_get w (n - 1))))) some are.1,
      lies-in w n ns
          are.2,
    )
  where
    positive : (m : ℕ) → 0 < m → (m == 0) ≡ false
    positive m more = grind (arith, nat_tests)

-- where exactly the groups of a relaxable set are given up, it is the set of the false ones
pub set-given-up : (w : WeightList) (gs : List Group) → HaveWeights 1 w gs
    → list_all is_weight w ≡ true → (v : Assignment) (set : List ℕ) → IsRelaxableSet w set →
    AreGivenUp v gs (is_in set)
    → false_groups v (softs_of gs) ≡ set
set-given-up w gs is ok v set are up =
    are-members 1 w gs is ok 0 v (is_in set) refl up
    ∙ members-are 1 0 w (is_in set) set refl (lies-in w 0 set are) (λ n more. refl)

-- WEIGHTS
abbrev Weighs : ℕ → WeightList → List Group → List Soft → Type 0
Weighs k w gs ss = (i : ℕ) → entry_of (slice_get w i) ≡ weight_if (blocks.entry_weight (slice_get ss i))

weighs-at : (k : ℕ) (w : WeightList) (gs : List Group) → HaveWeights k w gs
    → list_all is_weight w ≡ true → Weighs k w gs (softs_from k gs)
weighs-at = spread Weighs
    (λ k i. nothing i)
    (λ k w so i. passed w so i)
    (λ k w g gs ss above so i. skipped w g ss so i)
    (λ k w g gs ss number weighs so i. weighed w g ss weighs so i)
  where
    nothing : (i : ℕ) → entry_of (slice_get [] i) ≡ weight_if (blocks.entry_weight (slice_get [] i))
    nothing zero = refl
    nothing (suc i) = refl

    passed : (w : WeightList) → ((i : ℕ) → entry_of (slice_get w i)
        ≡ weight_if (blocks.entry_weight (slice_get [] i)))
        → (i : ℕ) → entry_of (slice_get (None ∷ w) i) ≡ weight_if (blocks.entry_weight (slice_get [] i))
    passed w so zero = refl
    passed w so (suc i) = so i ∙ empty i where
      empty : (m : ℕ) → weight_if (blocks.entry_weight (slice_get [] m))
          ≡ weight_if (blocks.entry_weight (slice_get [] (suc m)))
      empty zero = refl
      empty (suc m) = refl

    skipped : (w : WeightList) (g : Group) (ss : List Soft)
        → ((i : ℕ) → entry_of (slice_get w i) ≡ weight_if (blocks.entry_weight (slice_get ss i)))
        → (i : ℕ) → entry_of (slice_get (None ∷ w) i)
        ≡ weight_if (blocks.entry_weight (slice_get ((g.selector, 0) ∷ ss) i))
    skipped w g ss so zero = refl
    skipped w g ss so (suc i) = so i

    some-weight : (x : ℕ) → 1 ≤ x → Some x ≡ weight_if x
    some-weight x some = sym (ap (λ t. cond t None (Some x)) (positive x some)) where
      positive : (m : ℕ) → 1 ≤ m → (m == 0) ≡ false
      positive m more = grind (arith, nat_tests)

    weighed : (w : WeightList) (g : Group) (ss : List Soft) → 1 ≤ g.weight
        → ((i : ℕ) → entry_of (slice_get w i) ≡ weight_if (blocks.entry_weight (slice_get ss i)))
        → (i : ℕ) → entry_of (slice_get (Some g.weight ∷ w) i)
        ≡ weight_if (blocks.entry_weight (slice_get ((g.selector, g.weight) ∷ ss) i))
    weighed w g ss weighs so zero = some-weight g.weight weighs
    weighed w g ss weighs so (suc i) = so i

pub weighs : (w : WeightList) (gs : List Group) → HaveWeights 1 w gs
    → list_all is_weight w ≡ true → (n : ℕ) → weight_at w n ≡ weight_if (blocks.weight_at (softs_of gs) n)
weighs w gs is ok zero = refl
weighs w gs is ok (suc n) =
    ap (λ t. cond t None (entry_of (slice_get w (suc n - 1)))) (positive n)
    ∙ ap (λ i. entry_of (slice_get w i)) (let same : suc n - 1 ≡ n = omega arith in same)
    ∙ weighs-at 1 w gs is ok n
  where
    positive : (m : ℕ) → (suc m == 0) ≡ false
    positive m = grind (arith, nat_tests)

-- SELECTORS

-- a present soft literal is the selector of a group
record IsOf (gs : List Group) (s : Soft) : Type 0 where
  group : Group
  among : Contains gs group
  is : s.0 ≡ group.selector

abbrev EachOf : List Group → List Soft → Type 0
EachOf gs [] = Unit {0}
EachOf gs (s ∷ ss) = IsOf gs s × EachOf gs ss

of-later : (g : Group) (gs : List Group) (ss : List Soft) → EachOf gs ss → EachOf (g ∷ gs) ss
of-later g gs [] all = tt
of-later g gs (s ∷ ss) all = (
  record {
    group = all.0.group;
    among = later g gs all.0.group all.0.among;
    is =
        all.0.is;
  },
  of-later g gs ss all.1,
)

-- groups with different numbers have selectors of different variables
abbrev AreApart : List Group → Type 0
AreApart gs = (a b : Group) → Contains gs a → Contains gs b → a.selector.variable ≡ b.selector.variable →
    a.number ≡ b.number

abbrev AreOf : ℕ → WeightList → List Group → List Soft → Type 0
AreOf k w gs ss = AreNumbered k gs × EachOf gs (present ss) × (AreApart gs → AreDifferent (present ss))

differs-all : (k : ℕ) (g : Group) (gs : List Group) (ss : List Soft) → g.number ≡ k → AreNumbered (k + 1) gs
    → AreApart (g ∷ gs) → EachOf gs ss → Differs g.selector.variable ss
differs-all k g gs [] number above apart all = tt
differs-all k g gs (s ∷ ss) number above apart all = (
  (λ same. let numbers : all.0.group.number ≡ g.number =
      apart all.0.group g (later g gs all.0.group all.0.among)
      (here g gs) (sym (ap (λ (l : Literal). l.variable) all.0.is) ∙ same) in
      let more : k + 1 ≤ all.0.group.number = above all.0.group all.0.among in
      absurd (omega (arith, number, numbers, more))),
  differs-all k g gs ss number above apart all.1,
)

shown : (g : Group) (ss : List Soft) → 1 ≤ g.weight
    → present ((g.selector, g.weight) ∷ ss) ≡ (g.selector, g.weight) ∷ present ss
shown g ss weighs = ap (λ t. cond t ((g.selector, g.weight) ∷ present ss) (present ss))
    (weighty g.weight weighs)

are-of : (k : ℕ) (w : WeightList) (gs : List Group) → HaveWeights k w gs
    → list_all is_weight w ≡ true → AreOf k w gs (softs_from k gs)
are-of = spread AreOf
    (λ k. ((λ g at. absurd (no-group g at)), tt, (λ apart. tt)))
    (λ k w so. ((λ g at. absurd (no-group g at)), tt, (λ apart. tt)))
    (λ k w g gs ss above so. (
      (λ h at. let more : k + 1 ≤ h.number = so.0 h at in
          omega (arith, more)),
      so.1,
      so.2,
    ))
    (λ k w g gs ss number weighs so. (
      numbered-next k g gs number so.0,
      subst (EachOf (g ∷ gs)) (sym (shown g ss weighs))
          (record { group = g; among = here g gs; is = refl }, of-later g gs (present ss) so.1),
      (λ apart. subst AreDifferent (sym (shown g ss weighs)) (
        differs-all k g gs (present ss) number so.0 apart so.1,
        so.2 (λ a b in_a in_b. apart a b (later g gs a in_a) (later g gs b in_b)),
      )),
    ))

-- THE SELECTORS are positive, of different variables of the formula

abbrev IsPositive : Soft → Type 0
IsPositive s = s.0.negated ≡ false

abbrev IsAmong : ℕ → Soft → Type 0
IsAmong variables s = (1 ≤ s.0.variable) × (s.0.variable ≤ variables)

all-positive : (formula : Cnf) (gs : List Group) (ss : List Soft) → encoding.AreSelectors formula gs →
    EachOf gs ss
    → All IsPositive ss
all-positive formula gs [] are all = λ k d few. absurd (omega (arith, few))
all-positive formula gs (s ∷ ss) are all = All-cons IsPositive s ss
    (ap (λ (l : Literal). l.negated) all.0.is ∙ are.positive all.0.group all.0.among)
    (all-positive formula gs ss are all.1)

all-among : (formula : Cnf) (gs : List Group) (ss : List Soft) → encoding.AreSelectors formula gs →
    EachOf gs ss
    → All (IsAmong formula.variables) ss
all-among formula gs [] are all = λ k d few. absurd (omega (arith, few))
all-among formula gs (s ∷ ss) are all =
    let same : s.0.variable ≡ all.0.group.selector.variable = ap (λ (l : Literal). l.variable) all.0.is in
    let some : 1 ≤ all.0.group.selector.variable = are.counted all.0.group all.0.among in
    let few : all.0.group.selector.variable ≤ formula.variables = are.within all.0.group all.0.among in
    All-cons (IsAmong formula.variables) s ss (omega (arith, same, some), omega (arith, same, few))
    (all-among formula gs ss are all.1)

pub are-selectors : (w : WeightList) (gs : List Group) → HaveWeights 1 w gs
    → list_all is_weight w ≡ true → (formula : Cnf) → encoding.AreSelectors formula gs
    → AreSelectors formula.variables (softs_of gs)
are-selectors w gs is ok formula are =
    let of = are-of 1 w gs is ok in
    record {
      positive = all-positive formula gs (present (softs_of gs)) are of.1;
      among = all-among formula gs (present (softs_of gs)) are of.1;
      differ = of.2 are.apart;
    }

-- THE FALSE GROUPS are numbers that have a weight

part-behind : (whole : WeightList) (j : ℕ) (entry : Option ℕ) (w : WeightList)
    → ((i : ℕ) → slice_get (entry ∷ w) i ≡ slice_get whole (j + i)) → (i : ℕ) →
    slice_get w i ≡ slice_get whole (j + 1 + i)
part-behind whole j entry w part i =
    part (suc i) ∙ ap (slice_get whole) (let same : j + suc i ≡ j + 1 + i = omega arith in same)

weight-here : (whole : WeightList) (j x : ℕ) → Some (Some x) ≡ slice_get whole (j + 0) →
    weight_at whole (j + 1) ≡ Some x
weight-here whole j x part =
    ap (λ t. cond t None (entry_of (slice_get whole (j + 1 - 1)))) (positive j)
    ∙ ap (λ i. entry_of (slice_get whole i)) (let same : j + 1 - 1 ≡ j + 0 = omega arith in same)
    ∙ ap entry_of (sym part)
  where
    positive : (m : ℕ) → (m + 1 == 0) ≡ false
    positive m = grind (arith, nat_tests)

member-relaxable : (whole : WeightList) (j low x : ℕ) (ns : List ℕ) (t : Bool) → low ≤ j
    → Some (Some x) ≡ slice_get whole (j + 0) → AreRelaxableAbove whole low ns →
    AreRelaxableAbove whole (j + 1) ns
    → AreRelaxableAbove whole low (with_if t (j + 1) ns)
member-relaxable whole j low x ns false high part are above = are
member-relaxable whole j low x ns true high part are above =
    (omega (arith, high), subst IsSome (sym (weight-here whole j x part)) refl, above)

members-relaxable : (whole : WeightList) (j low : ℕ) (w : WeightList) (set : ℕ → Bool) → low ≤ j
    → ((i : ℕ) → slice_get w i ≡ slice_get whole (j + i)) →
    AreRelaxableAbove whole low (members (j + 1) w set)
unfolding members
members-relaxable whole j low [] set high part = tt
members-relaxable whole j low (None ∷ w) set high part =
    members-relaxable whole (j + 1) low w set (omega (arith, high)) (part-behind whole j None w part)
members-relaxable whole j low (Some x ∷ w) set high part =
    let tail = part-behind whole j (Some x) w part in
    member-relaxable whole j low x (members (j + 1 + 1) w set) (set (j + 1)) high (part 0)
    (members-relaxable whole (j + 1) low w set (omega (arith, high)) tail)
    (members-relaxable whole (j + 1) (j + 1) w set (omega arith) tail)

pub false-relaxable : (w : WeightList) (gs : List Group) → HaveWeights 1 w gs
    → list_all is_weight w ≡ true → (v : Assignment) → IsRelaxableSet w (false_groups v (softs_of gs))
false-relaxable w gs is ok v =
    subst (IsRelaxableSet w) (sym (are-members 1 w gs is ok 0 v (is_in (false_groups v (softs_of gs))) refl
    (given-up w gs is ok v)))
    (members-relaxable w 0 0 w (is_in (false_groups v (softs_of gs))) (omega arith) (λ i. ap (slice_get w)
    (let same : i ≡ 0 + i = omega arith in same)))

-- THE STATEMENTS of groups are those of their numbers
abbrev own_statement : Numbered → StmtId
own_statement n = n.statement

abbrev numbered_statement : Numbered → StmtId
numbered_statement n = stmt_of n.number

same-statements : (k : ℕ) (w : WeightList)
    → map own_statement (statements_from k w) ≡ map numbered_statement (statements_from k w)
same-statements k [] = refl
same-statements k (None ∷ w) = same-statements (k + 1) w
same-statements k (Some x ∷ w) = ap (λ ss. stmt_of k ∷ ss) (same-statements (k + 1) w)

pub statements-are : (w : WeightList) (gs : List Group) → map without_selector gs ≡ statements_from 1 w
    → map (λ (g : Group). g.statement) gs ≡ map (λ (g : Group). stmt_of g.number) gs
statements-are w gs is = without-selectors own_statement gs ∙ ap (map own_statement) is ∙ same-statements 1 w
    ∙ ap (map numbered_statement) (sym is) ∙ sym (without-selectors numbered_statement gs)
