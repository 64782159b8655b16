-- An execution may be relaxed if the group that it is in is in the set.
use Rattle.std.proofs.Common.{◌≡◌, ℕ, zero, suc, ◌+◌, ◌-◌, ◌<◌, ◌==◌, nat_lt, Bool, true, false, not, ◌&&◌, ◌||◌, cond, Option, None, Some, List, [], ◌∷◌, length, get_or, slice_get, reverse, refl, sym, ◌∙◌, ap, arith, ◌≤◌, ◌⊎◌, inl, inr}
use Rattle.std.proofs.lemmas.Bool.{and_parts, and_from, eq-eqb, eqb-true, cases_lt, or_parts, not-true}
use Rattle.std.proofs.lemmas.Bool.Decides.{nat_tests}
use Rattle.std.proofs.lemmas.List.{reverse-reverse}
use Rattle.std.proofs.lemmas.List.Quantifiers.{position-Some}
use Rattle.std.specs.Prelude.{is_some, option_map, position}
use Rattle.std.specs.List.{list_any, position_or_len}
use Rattle.std.proofs.Math.Bool.{and-false}
use Rattle.ba_code.specs.Meaning.{path_in}
use Rattle.ba_code.proofs.Paths.{filled-none}
use Rattle.ba_code_laws.specs.Tracing.{is_relaxed}
use Rattle.ba_encode.specs.Groups.{are_apart, are_different, group_at, groups_of, is_in_set, is_place, numbered, places_from, relaxes_in, statements_from}
use Rattle.ba_encode.specs.declared.grouping.Grouping.{Grouping}
use Rattle.ba_encode.specs.declared.grouping.Grouping.TheVariants.{ByStatement, ByPlace}
use Rattle.ba_encode.specs.declared.grouping.Numbered.{Numbered}
use Rattle.ba_tree.specs.Choices.{is_there, same_path, same_step}
use Rattle.ba_tree.specs.Least.{entry_of, stmt_of, weight_at}
use Rattle.ba_tree.specs.declared.run.Place.{Place}
use Rattle.ba_tree.specs.declared.run.Step.{Step}
use Rattle.ba_tree.specs.declared.run.Step.TheVariants.{Call, Turn}

abbrev pub no_group : Numbered
no_group = numbered 0 (stmt_of 0) 0

-- the group at a position is in the set
abbrev pub is_member : (ℕ → Bool) → List Numbered → Option ℕ → Bool
is_member set groups None = false
is_member set groups (Some k) = set (get_or groups k no_group).number

-- POSITIONS

less-more : (n l : ℕ) → nat_lt (1 + n) (suc l) ≡ nat_lt n l
less-more n l = by_case (cases_lt n l) where
  by_case : (n < l) ⊎ (l ≤ n) → nat_lt (1 + n) (suc l) ≡ nat_lt n l
  by_case (inl less) =
      let one : nat_lt n l ≡ true = grind (arith, nat_tests) in
      let two : nat_lt (1 + n) (suc l) ≡ true = grind (arith, nat_tests) in
      two ∙ sym one
  by_case (inr more) =
      let one : nat_lt n l ≡ false = grind (arith, nat_tests) in
      let two : nat_lt (1 + n) (suc l) ≡ false = grind (arith, nat_tests) in
      two ∙ sym one

some-first : (l : ℕ) → nat_lt 0 (suc l) ≡ true
some-first l = grind (arith, nat_tests)

position-first : {X : Type 0} (p : X → Bool) (x : X) (xs : List X) → p x ≡ true → position p (x ∷ xs) ≡ Some 0
position-first p x xs passes =
    ap (λ b. cond (nat_lt (cond (not b) (1 + position_or_len p xs) 0) (suc (length xs)))
    (Some (cond (not b) (1 + position_or_len p xs) 0)) None) passes
    ∙ ap (λ b. cond b (Some 0) None) (some-first (length xs))

later : (b : Bool) (n : ℕ) → cond b (Some (1 + n)) None ≡ option_map suc (cond b (Some n) None)
later true n = let same : 1 + n ≡ suc n = omega arith in ap Some same
later false n = refl

position-later : {X : Type 0} (p : X → Bool) (x : X) (xs : List X) → p x ≡ false
    → position p (x ∷ xs) ≡ option_map suc (position p xs)
position-later p x xs fails =
    ap (λ b. cond (nat_lt (cond (not b) (1 + position_or_len p xs) 0) (suc (length xs)))
    (Some (cond (not b) (1 + position_or_len p xs) 0)) None) fails
    ∙ ap (λ b. cond b (Some (1 + position_or_len p xs)) None) (less-more (position_or_len p xs) (length xs))
    ∙ later (nat_lt (position_or_len p xs) (length xs)) (position_or_len p xs)

member-later : (set : ℕ → Bool) (group : Numbered) (groups : List Numbered) (o : Option ℕ)
    → is_member set (group ∷ groups) (option_map suc o) ≡ is_member set groups o
member-later set group groups None = refl
member-later set group groups (Some k) = refl

-- STATEMENTS

-- the statement has a weight, where the first entry is that of a number
abbrev has_weight : ℕ → List (Option ℕ) → ℕ → Bool
has_weight number [] stmt = false
has_weight number (weight ∷ weights) stmt = ((number == stmt) && is_some weight) || has_weight (number + 1)
    weights stmt

abbrev has_number : ℕ → Numbered → Bool
has_number stmt group = group.statement.0 == stmt

nothing-or : (a b c : Bool) → (a && b) ≡ (a && ((c && false) || b))
nothing-or a b true = refl
nothing-or a b false = refl

first-or : (a b : Bool) → a ≡ (a && (true || b))
first-or true b = refl
first-or false b = refl

statement-member : (set : ℕ → Bool) (number : ℕ) (weights : List (Option ℕ)) (stmt : ℕ)
    → is_member set (statements_from number weights) (position (has_number stmt) (statements_from number
    weights))
    ≡ (set stmt && has_weight number weights stmt)
statement-member set number [] stmt = sym (and-false (set stmt))
statement-member set number (None ∷ weights) stmt =
    statement-member set (number + 1) weights stmt
    ∙ nothing-or (set stmt) (has_weight (number + 1) weights stmt) (number == stmt)
statement-member set number (Some weight ∷ weights) stmt =
    by_case (number == stmt) refl (statement-member set (number + 1) weights stmt) where
      groups : List Numbered
      groups = statements_from (number + 1) weights

      all : List Numbered
      all = numbered number (stmt_of number) weight ∷ groups

      by_case : (b : Bool) → (number == stmt) ≡ b
          → is_member set groups (position (has_number stmt) groups) ≡ (set stmt && has_weight (number + 1)
          weights stmt)
          → is_member set all (position (has_number stmt) all)
          ≡ (set stmt && (((number == stmt) && true) || has_weight (number + 1) weights stmt))
      by_case true is rest =
          ap (is_member set all) (position-first (has_number stmt) (numbered number (stmt_of number)
          weight) groups is)
          ∙ ap set (eqb-true number stmt is) ∙ first-or (set stmt) (has_weight (number + 1) weights stmt)
          ∙ ap (λ b. set stmt && ((b && true) || has_weight (number + 1) weights stmt)) (sym is)
      by_case false is rest =
          ap (is_member set all) (position-later (has_number stmt) (numbered number (stmt_of number)
          weight) groups is)
          ∙ member-later set (numbered number (stmt_of number) weight) groups (position (has_number stmt)
          groups)
          ∙ rest ∙ ap (λ b. set stmt && ((b && true) || has_weight (number + 1) weights stmt)) (sym is)

no-weight : (number : ℕ) (weights : List (Option ℕ)) (stmt : ℕ) → stmt < number →
    has_weight number weights stmt ≡ false
no-weight number [] stmt below = refl
no-weight number (weight ∷ weights) stmt below =
    let other : (number == stmt) ≡ false = grind (arith, nat_tests) in
    ap (λ b. (b && is_some weight) || has_weight (number + 1) weights stmt) other
    ∙ no-weight (number + 1) weights stmt (omega (arith, below))

own-weight : (number : ℕ) (weights : List (Option ℕ)) (k : ℕ)
    → has_weight number weights (number + k) ≡ is_some (entry_of (slice_get weights k))
own-weight number [] k = refl
own-weight number (weight ∷ weights) zero =
    let own : (number == number + 0) ≡ true = grind (arith, nat_tests) in
    ap (λ b. (b && is_some weight) || has_weight (number + 1) weights (number + 0)) own
    ∙ ap (λ b. is_some weight || b) (no-weight (number + 1) weights (number + 0) (omega arith))
    ∙ or_false (is_some weight) where
      or_false : (b : Bool) → (b || false) ≡ b
      or_false true = refl
      or_false false = refl
own-weight number (weight ∷ weights) (suc k) =
    let other : (number == number + suc k) ≡ false = grind (arith, nat_tests) in
    let at : number + suc k ≡ (number + 1) + k = omega arith in
    ap (λ b. (b && is_some weight) || has_weight (number + 1) weights (number + suc k)) other
    ∙ ap (has_weight (number + 1) weights) at ∙ own-weight (number + 1) weights k

weight-found : (weights : List (Option ℕ)) (stmt : ℕ) →
    has_weight 1 weights stmt ≡ is_some (weight_at weights stmt)
weight-found weights zero = no-weight 1 weights 0 (omega arith)
weight-found weights (suc k) =
    let at : suc k ≡ 1 + k = omega arith in
    let back : suc k - 1 ≡ k = omega arith in
    let some : (suc k == 0) ≡ false = grind (arith, nat_tests) in
    ap (has_weight 1 weights) at ∙ own-weight 1 weights k
    ∙ ap (λ n. is_some (entry_of (slice_get weights n))) (sym back)
    ∙ ap (λ b. is_some (cond b None (entry_of (slice_get weights (suc k - 1))))) (sym some)

-- PLACES

same-steps : (a b c : Step) → same_step a c ≡ true → same_step b c ≡ true → same_step a b ≡ true
same-steps (Call a) (Call b) (Call c) h k =
    let one : a.0 ≡ c.0 = eqb-true a.0 c.0 h in
    let two : b.0 ≡ c.0 = eqb-true b.0 c.0 k in
    eq-eqb a.0 b.0 (one ∙ sym two)
same-steps (Call a) (Turn b m) (Call c) h k = absurd (cc)
same-steps (Turn a l) b (Call c) h k = absurd (cc)
same-steps (Call a) b (Turn c n) h k = absurd (cc)
same-steps (Turn a l) (Call b) (Turn c n) h k = absurd (cc)
same-steps (Turn a l) (Turn b m) (Turn c n) h k =
    let first = and_parts (a.0 == c.0) (l == n) h in
    let second = and_parts (b.0 == c.0) (m == n) k in
    and_from (a.0 == b.0) (l == m)
    (eq-eqb a.0 b.0 (eqb-true a.0 c.0 first.0 ∙ sym (eqb-true b.0 c.0 second.0)))
    (eq-eqb l m (eqb-true l n first.1 ∙ sym (eqb-true m n second.1)))

same-paths : (xs ys zs : List Step) → same_path xs zs ≡ true → same_path ys zs ≡ true → same_path xs ys ≡ true
same-paths [] [] zs h k = refl
same-paths [] (y ∷ ys) [] h k = absurd (cc)
same-paths [] (y ∷ ys) (z ∷ zs) h k = absurd (cc)
same-paths (x ∷ xs) ys [] h k = absurd (cc)
same-paths (x ∷ xs) [] (z ∷ zs) h k = absurd (cc)
same-paths (x ∷ xs) (y ∷ ys) (z ∷ zs) h k =
    let first = and_parts (same_step x z) (same_path xs zs) h in
    let second = and_parts (same_step y z) (same_path ys zs) k in
    and_from (same_step x y) (same_path xs ys) (same-steps x y z first.0 second.0)
    (same-paths xs ys zs first.1 second.1)

same-places : (a b c : Place) → is_place a c ≡ true → is_place b c ≡ true → is_place a b ≡ true
same-places a b c h k =
    let first = and_parts (a.stmt.0 == c.stmt.0) (same_path a.path c.path) h in
    let second = and_parts (b.stmt.0 == c.stmt.0) (same_path b.path c.path) k in
    and_from (a.stmt.0 == b.stmt.0) (same_path a.path b.path)
    (eq-eqb a.stmt.0 b.stmt.0 (eqb-true a.stmt.0 c.stmt.0 first.0 ∙ sym (eqb-true b.stmt.0 c.stmt.0
    second.0)))
    (same-paths a.path b.path c.path first.1 second.1)

there-is : (place other : Place) → is_there (path_in [] place.path) place.stmt other ≡ is_place other place
there-is place other =
    ap (λ path. (other.stmt.0 == place.stmt.0) && same_path other.path path)
    (ap reverse (filled-none (reverse place.path)) ∙ reverse-reverse place.path)

-- one of the places, whose first has this number, is this one and in the set
abbrev is_listed : (ℕ → Bool) → ℕ → List Place → Place → Bool
is_listed set number [] place = false
is_listed set number (other ∷ others) place = (set number && is_place other place) || is_listed set (number
    + 1) others place

listed-is : (set : ℕ → Bool) (number : ℕ) (places : List Place) (place : Place)
    → is_in_set set number places (path_in [] place.path) place.stmt ≡ is_listed set number places place
listed-is set number [] place = refl
listed-is set number (other ∷ others) place =
    ap (λ b. (set number && b) || is_in_set set (number + 1) others (path_in [] place.path) place.stmt)
    (there-is place other)
    ∙ ap (λ b. (set number && is_place other place) || b) (listed-is set (number + 1) others place)

none-listed : (set : ℕ → Bool) (number : ℕ) (others : List Place) (own place : Place) →
    is_place own place ≡ true
    → list_any (is_place own) others ≡ false → is_listed set number others place ≡ false
none-listed set number [] own place is none = refl
none-listed set number (other ∷ others) own place is none =
    let both = or_parts (is_place own other) (list_any (is_place own) others) none in
    by_case (is_place other place) refl both.0 (none-listed set (number + 1) others own place is both.1) where
      by_case : (b : Bool) → is_place other place ≡ b → is_place own other ≡ false
          → is_listed set (number + 1) others place ≡ false
          → ((set number && is_place other place) || is_listed set (number + 1) others place) ≡ false
      by_case true same differs rest =
          let both : is_place own other ≡ true = same-places own other place is same in absurd (cc)
      by_case false other_is differs rest =
          ap (λ b. (set number && b) || is_listed set (number + 1) others place) other_is
          ∙ ap (λ b. b || is_listed set (number + 1) others place) (and-false (set number)) ∙ rest

place-member : (set : ℕ → Bool) (number : ℕ) (places : List Place) (place : Place) →
    are_different places ≡ true
    → is_listed set number places place
    ≡ is_member set (places_from number places) (position (λ other. is_place other place) places)
place-member set number [] place differ = refl
place-member set number (own ∷ others) place differ =
    let both = and_parts (not (list_any (is_place own) others)) (are_different others) differ in
    by_case (is_place own place) refl (not-true (list_any (is_place own) others) both.0)
    (place-member set (number + 1) others place both.1) where
      test : Place → Bool
      test other = is_place other place

      groups : List Numbered
      groups = places_from (number + 1) others

      by_case : (b : Bool) → is_place own place ≡ b → list_any (is_place own) others ≡ false
          → is_listed set (number + 1) others place ≡ is_member set groups (position test others)
          → ((set number && is_place own place) || is_listed set (number + 1) others place)
          ≡ is_member set (numbered number own.stmt 1 ∷ groups) (position test (own ∷ others))
      by_case true is none rest =
          ap (λ b. (set number && b) || is_listed set (number + 1) others place) is
          ∙ ap (λ b. (set number && true) || b) (none-listed set (number + 1) others own place is none)
          ∙ alone (set number)
          ∙ ap (is_member set (numbered number own.stmt 1 ∷ groups)) (sym (position-first test own others
          is)) where
            alone : (b : Bool) → ((b && true) || false) ≡ b
            alone true = refl
            alone false = refl
      by_case false is none rest =
          ap (λ b. (set number && b) || is_listed set (number + 1) others place) is
          ∙ ap (λ b. b || is_listed set (number + 1) others place) (and-false (set number)) ∙ rest
          ∙ sym (member-later set (numbered number own.stmt 1) groups (position test others))
          ∙ ap (is_member set (numbered number own.stmt 1 ∷ groups)) (sym (position-later test own others is))

-- THE LAW

pub relaxed-is : (grouping : Grouping) (set : ℕ → Bool) (place : Place) → are_apart grouping ≡ true
    → is_relaxed (relaxes_in grouping set) place
    ≡ is_member set (groups_of grouping) (group_at grouping (groups_of grouping) place)
relaxed-is (ByStatement weights) set place apart =
    ap (λ b. set place.stmt.0 && b) (sym (weight-found weights.of place.stmt.0))
    ∙ sym (statement-member set 1 weights.of place.stmt.0)
relaxed-is (ByPlace places) set place apart =
    listed-is set 1 places place ∙ place-member set 1 places place apart

places-many : (number : ℕ) (places : List Place) → length (places_from number places) ≡ length places
places-many number [] = refl
places-many number (place ∷ places) = ap suc (places-many (number + 1) places)

-- a position that is found is that of a group
pub group-within : (grouping : Grouping) (place : Place) (k : ℕ)
    → group_at grouping (groups_of grouping) place ≡ Some k → k < length (groups_of grouping)
group-within (ByStatement weights) place k found =
    (position-Some (λ (group : Numbered). group.statement.0 == place.stmt.0) (statements_from 1 weights.of)
    k no_group
    found).0
group-within (ByPlace places) place k found =
    let within = (position-Some (λ other. is_place other place) places k place found).0 in
    omega (arith, within, places-many 1 places)
