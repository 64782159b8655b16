-- Numbers that each occur once in a list: the test says so.
use Rattle.std.proofs.Common.{◌≡◌, ℕ, suc, zero, ◌+◌, ◌≤◌, ◌<◌, Bool, true, false, ◌&&◌, ◌||◌, not, ◌==◌, cond, List, [], ◌∷◌, length, refl, sym, ◌∙◌, ap, subst, arith, sum_by, nat_le, nat_lt, IsPermutation}
use Rattle.std.specs.List.{list_all, list_any, range_with_len}
use Rattle.std.proofs.lemmas.Bool.{and_from, eq-eqb, eqb-true, le-leb, lt-ltb}
use Rattle.std.proofs.lemmas.List.FromFn.{length-range_with_len}
use Rattle.std.proofs.lemmas.List.Sorted.{All-permutation, length_permutation, sum_by-IsPermutation}
use Rattle.std.proofs.lemmas.List.Sums.{AllPass-from_list_all, list_all-from_AllPass, sum_by-cons}
use Rattle.ba_tree.specs.Facts.{are_distinct, has_each_once}
use Rattle.ba_typing_facts.proofs.SequenceFacts.{IsEach}

moved : (test : ℕ → Bool) (ms ns : List ℕ) → IsPermutation ms ns → list_all test ms ≡ true
    → list_all test ns ≡ true
moved test ms ns h all = list_all-from_AllPass test ns
    (All-permutation (λ n. test n ≡ true) ms ns h (AllPass-from_list_all test ms all))

-- how often a number is in a list
abbrev one_if : ℕ → ℕ → ℕ
one_if n m = cond (m == n) 1 0

abbrev times : ℕ → List ℕ → ℕ
times n = sum_by (one_if n)

past_range : (n first count : ℕ) → n < first → times n (range_with_len first count) ≡ 0
past_range n first zero below = refl
past_range n first (suc count) below = sum_by-cons (one_if n) first (range_with_len (first + 1) count)
    ∙ from (first == n) (eqb-true first n) (past_range n (first + 1) count (let e : n < first + 1 = omega
    (arith, below) in e)) where
      from : (b : Bool) → (b ≡ true → first ≡ n) → times n (range_with_len (first + 1) count) ≡ 0
          → cond b 1 0 + times n (range_with_len (first + 1) count) ≡ 0
      from true same none = let e = same refl in absurd (let e : ⊥ = omega (arith, e, below) in e)
      from false same none = omega (arith, none)

once_in_range : (n first count : ℕ) → times n (range_with_len first count) ≤ 1
once_in_range n first zero = omega arith
once_in_range n first (suc count) = subst (λ k. k ≤ 1) (sym (sum_by-cons (one_if n) first (range_with_len
    (first + 1) count)))
    (from (first == n) (eqb-true first n) (λ same. past_range n (first + 1) count
    (let e : n < first + 1 = omega (arith, same) in e))
    (once_in_range n (first + 1) count)) where
      from : (b : Bool) → (b ≡ true → first ≡ n) → (first ≡ n → times n (range_with_len (first + 1) count)
          ≡ 0)
          → times n (range_with_len (first + 1) count) ≤ 1 → cond b 1 0 + times n (range_with_len
          (first + 1) count) ≤ 1
      from true same none few = let e = none (same refl) in omega (arith, e)
      from false same none few = omega (arith, few)

not_among : (n : ℕ) (ns : List ℕ) → times n ns ≡ 0 → list_any (λ m. m == n) ns ≡ false
not_among n [] h = refl
not_among n (m ∷ ns) h = from (m == n) (sym (sum_by-cons (one_if n) m ns) ∙ h) (not_among n ns) where
  from : (b : Bool) → cond b 1 0 + times n ns ≡ 0 → (times n ns ≡ 0 → list_any (λ m. m == n) ns ≡ false)
      → (b || list_any (λ m. m == n) ns) ≡ false
  from true h rest = absurd (let e : ⊥ = omega (arith, h) in e)
  from false h rest = rest (let e : times n ns ≡ 0 = omega (arith, h) in e)

distinct : (ns : List ℕ) → ((n : ℕ) → times n ns ≤ 1) → are_distinct ns ≡ true
distinct [] h = refl
distinct (m ∷ ns) h =
    let here = h m in
    let split = sum_by-cons (one_if m) m ns in
    let one : one_if m m ≡ 1 = ap (λ b. cond b 1 0) (eq-eqb m m refl) in
    and_from _ _ (ap not (not_among m ns (let e : times m ns ≡ 0 = omega (arith, here, split, one) in e)))
    (distinct ns (λ n. let all = h n in let parts = sum_by-cons (one_if n) m ns in omega (arith, all, parts)))

pub each_distinct : (first count : ℕ) (ns : List ℕ) → IsEach first count ns → are_distinct ns ≡ true
each_distinct first count ns h = distinct ns (λ n. subst (λ k. k ≤ 1)
    (sym (sum_by-IsPermutation (one_if n) (range_with_len first count) ns h.order))
    (once_in_range n first count))

in_range : (first count low high : ℕ) → low ≤ first → first + count ≤ high
    → list_all (λ n. nat_le low n && nat_lt n high) (range_with_len first count) ≡ true
in_range first zero low high above below = refl
in_range first (suc count) low high above below = and_from _ _
    (and_from _ _ (le-leb low first above) (lt-ltb first high (let e : first < high = omega
    (arith, below) in e)))
    (in_range (first + 1) count low high (let e : low ≤ first + 1 = omega (arith, above) in e)
    (let e : (first + 1) + count ≤ high = omega (arith, below) in e))

pub each_once : (first count : ℕ) (ns : List ℕ) → IsEach first count ns → has_each_once first count ns ≡ true
each_once first count ns h = and_from _ _ (and_from _ _ (each_distinct first count ns h)
    (moved (λ n. nat_le first n && nat_lt n (first + count)) (range_with_len first count) ns h.order
    (in_range first count first (first + count) (omega arith) (omega arith))))
    (eq-eqb (length ns) count (length_permutation (range_with_len first count) ns h.order
    ∙ length-range_with_len first count))
