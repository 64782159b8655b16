-- How often numbers are named by lists.
use Rattle.std.proofs.Common.{true≢false, ◌≡◌, ℕ, zero, suc, ◌+◌, ◌<◌, ◌≤◌, ◌==◌, ltb, Bool, true, false, ◌||◌, List, [], ◌∷◌, length, get_or, map, inl, inr, refl, sym, ap, subst, ◌∙◌, arith}
use Rattle.std.specs.Prelude.{nat_eq, count_by, flat_map}
use Rattle.std.specs.List.{AllByRecursion, IsDistinct}
use Rattle.std.proofs.lemmas.Bool.{eqb-true, eq-eqb}
use Rattle.std.proofs.lemmas.Bool.Decides.{nat_tests}
use Rattle.std.proofs.lemmas.List.Folds.{list_any-append}
use Rattle.std.proofs.lemmas.List.Sums.{sum_by-cons}
use Rattle.ba_tree.proofs.Members.{Has}
use Rattle.ba_rank.specs.Counts.{entry_of, is_named, is_of_same, once_if, times_named}
use Rattle.ba_rank.specs.Ranking.{stands_in}
use Rattle.ba_rank.specs.declared.ranking.Ranked.{Ranked}

-- WHAT IS NAMED is in the list

same_tests : (a b : Bool) → (a ≡ true → b ≡ true) → (b ≡ true → a ≡ true) → a ≡ b
same_tests true true to back = refl
same_tests false false to back = refl
same_tests true false to back = sym (to refl)
same_tests false true to back = back refl

pub has-named : (n : ℕ) (xs : List ℕ) → Has xs n → is_named n xs ≡ true
has-named n [] h = absurd h
has-named n (x ∷ xs) (inl e) = ap (λ b. b || is_named n xs) (eq-eqb n x e)
has-named n (x ∷ xs) (inr h) = by (has-named n xs h) (n == x)
  where
    by : is_named n xs ≡ true → (b : Bool) → (b || is_named n xs) ≡ true
    by later true = refl
    by later false = later

pub named-has : (n : ℕ) (xs : List ℕ) → is_named n xs ≡ true → Has xs n
named-has n [] e = absurd (true≢false (sym e))
named-has n (x ∷ xs) e = by (λ k. named-has n xs k) (n == x) refl e
  where
    by : (is_named n xs ≡ true → Has xs n) → (b : Bool) → (n == x) ≡ b → (b || is_named n xs) ≡ true
        → Has (x ∷ xs) n
    by later true same e = inl (eqb-true n x same)
    by later false other e = inr (later e)

-- two lists with the same numbers name the same
pub same-named : (n : ℕ) (xs ys : List ℕ) → (Has xs n → Has ys n) → (Has ys n → Has xs n)
    → is_named n xs ≡ is_named n ys
same-named n xs ys to back = same_tests (is_named n xs) (is_named n ys)
    (λ e. has-named n ys (to (named-has n xs e))) (λ e. has-named n xs (back (named-has n ys e)))

-- COUNTS, with one number more at the front

count-cons : (p : ℕ → Bool) (x : ℕ) (xs : List ℕ) (b : Bool) → p x ≡ b
    → count_by p (x ∷ xs) ≡ once_if b + count_by p xs
count-cons p x xs b is = sum_by-cons (λ m. once_if (p m)) x xs ∙ ap (λ t. once_if t + count_by p xs) is

times-cons : (n x : ℕ) (xs : List ℕ) (b : Bool) → (n == x) ≡ b
    → times_named n (x ∷ xs) ≡ once_if b + times_named n xs
times-cons n x xs = count-cons (λ m. n == m) x xs

-- WHAT STANDS in a list is named at least once

named-times : (n : ℕ) (xs : List ℕ) → is_named n xs ≡ true → 1 ≤ times_named n xs
named-times n [] e = absurd (true≢false (sym e))
named-times n (x ∷ xs) e = by (λ k. named-times n xs k) (n == x) refl e
  where
    by : (is_named n xs ≡ true → 1 ≤ times_named n xs) → (b : Bool) → (n == x) ≡ b
        → (b || is_named n xs) ≡ true → 1 ≤ times_named n (x ∷ xs)
    by later true same e = omega (arith, times-cons n x xs true same)
    by later false other e = omega (arith, times-cons n x xs false other, later e)

times-named : (n : ℕ) (xs : List ℕ) → 1 ≤ times_named n xs → is_named n xs ≡ true
times-named n [] some = absurd (omega (arith, some))
times-named n (x ∷ xs) some = by (λ k. times-named n xs k) (n == x) refl
  where
    by : (1 ≤ times_named n xs → is_named n xs ≡ true) → (b : Bool) → (n == x) ≡ b
        → (b || is_named n xs) ≡ true
    by later true same = refl
    by later false other = later (omega (arith, some, times-cons n x xs false other))

pub has-times : (n : ℕ) (xs : List ℕ) → Has xs n → 1 ≤ times_named n xs
has-times n xs h = named-times n xs (has-named n xs h)

pub times-has : (n : ℕ) (xs : List ℕ) → 1 ≤ times_named n xs → Has xs n
times-has n xs some = named-has n xs (times-named n xs some)

-- NUMBERS THAT DIFFER are named once

not_again : (n x : ℕ) (xs : List ℕ) → (n == x) ≡ true → AllByRecursion (λ y. nat_eq x y ≡ false) xs
    → times_named n xs ≡ 0
not_again n x [] same others = refl
not_again n x (y ∷ ys) same others =
    let first = times-cons n y ys false (ap (λ k. k == y) (eqb-true n x same) ∙ others.0) in
    omega (arith, first, not_again n x ys same others.1)

pub distinct-once : (n : ℕ) (xs : List ℕ) → IsDistinct nat_eq xs → times_named n xs ≡ once_if (is_named n xs)
unfolding IsDistinct
distinct-once n [] distinct = refl
distinct-once n (x ∷ xs) distinct =
    by (distinct-once n xs distinct.1) (λ e. not_again n x xs e distinct.0) (n == x) refl
  where
    by : times_named n xs ≡ once_if (is_named n xs) → ((n == x) ≡ true → times_named n xs ≡ 0) → (b : Bool)
        → (n == x) ≡ b → times_named n (x ∷ xs) ≡ once_if (b || is_named n xs)
    by later none true same = omega (arith, times-cons n x xs true same, none same)
    by later none false other = omega (arith, times-cons n x xs false other, later)

-- THE SETS of a list, one after the other

pub stands-named : (n : ℕ) (sets : List (List ℕ)) → is_named n (flat_map (λ set. set) sets) ≡ stands_in n sets
stands-named n [] = refl
stands-named n (set ∷ sets) = list_any-append (λ m. n == m) set (flat_map (λ set. set) sets)
    ∙ ap (λ b. is_named n set || b) (stands-named n sets)

-- NUMBERS BELOW A LIMIT are before the others

pub count_at : (p : ℕ → Bool) (xs : List ℕ) (i : ℕ) → i ≤ length xs
    → ((k d : ℕ) → 0 ≤ k → k < i → p (get_or xs k d) ≡ true)
    → ((k d : ℕ) → i ≤ k → k < length xs → p (get_or xs k d) ≡ false) → count_by p xs ≡ i
count_at p [] i few before behind = omega (arith, few)
count_at p (x ∷ xs) zero few before behind =
    let first = count-cons p x xs false (behind 0 x (omega arith) (omega arith)) in
    let later = count_at p xs 0 (omega arith) (λ k d from low. absurd (omega (arith, low)))
    (λ k d from low. behind (suc k) d (omega arith) (omega (arith, low))) in
    omega (arith, first, later)
count_at p (x ∷ xs) (suc i) few before behind =
    let first = count-cons p x xs true (before 0 x (omega arith) (omega arith)) in
    let later = count_at p xs i (omega (arith, few))
    (λ k d from low. before (suc k) d (omega arith) (omega (arith, low)))
    (λ k d from low. behind (suc k) d (omega (arith, from)) (omega (arith, low))) in
    omega (arith, first, later)

-- those below the next number are those below this one, and those that equal it
pub count-next : (n : ℕ) (xs : List ℕ)
    → count_by (λ m. ltb m (n + 1)) xs ≡ count_by (λ m. ltb m n) xs + times_named n xs
count-next n [] = refl
count-next n (x ∷ xs) =
    let upto = count-cons (λ m. ltb m (n + 1)) x xs (ltb x (n + 1)) refl in
    let below = count-cons (λ m. ltb m n) x xs (ltb x n) refl in
    let equal = times-cons n x xs (n == x) refl in
    omega (arith, upto, below, equal, count-next n xs, one n x)
  where
    one : (n m : ℕ) → once_if (ltb m (n + 1)) ≡ once_if (ltb m n) + once_if (n == m)
    one n m = grind (arith, nat_tests)

-- ENTRIES

pub has-map : (named : List ℕ) (n : ℕ) (ns : List ℕ) → Has ns n
    → Has (map (entry_of named) ns) (entry_of named n)
has-map named n [] h = absurd h
has-map named n (m ∷ ns) (inl e) = inl (ap (entry_of named) e)
has-map named n (m ∷ ns) (inr h) = inr (has-map named n ns h)

pub map-has : (named : List ℕ) (entry : Ranked) (ns : List ℕ) → Has (map (entry_of named) ns) entry
    → Has ns entry.stmt.0 × (entry.inputs ≡ times_named entry.stmt.0 named)
map-has named entry [] h = absurd h
map-has named entry (n ∷ ns) (inl e) = (
  inl (ap (λ (r : Ranked). r.stmt.0) e),
  subst (λ (r : Ranked). r.inputs ≡ times_named r.stmt.0 named) (sym e) refl,
)
map-has named entry (n ∷ ns) (inr h) =
    let both = map-has named entry ns h in (inr both.0, both.1)

-- entries of numbers that differ are of statements that differ
apart : (named : List ℕ) (n : ℕ) (ns : List ℕ) → AllByRecursion (λ m. nat_eq n m ≡ false) ns
    → AllByRecursion (λ other. is_of_same (entry_of named n) other ≡ false) (map (entry_of named) ns)
apart named n [] others = tt
apart named n (m ∷ ns) others = (others.0, apart named n ns others.1)

pub distinct-entries : (named ns : List ℕ) → IsDistinct nat_eq ns
    → IsDistinct is_of_same (map (entry_of named) ns)
unfolding IsDistinct
distinct-entries named [] distinct = tt
distinct-entries named (n ∷ ns) distinct =
    (apart named n ns distinct.0, distinct-entries named ns distinct.1)
