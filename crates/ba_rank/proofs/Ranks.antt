-- The entries are those of the ranking.
use Rattle.std.proofs.Common.{◌≡◌, ℕ, ◌+◌, ◌<◌, ◌≤◌, Bool, true, false, List, ◌++◌, length, take, get_or, map, refl, sym, ap, ap₂, subst, ◌∙◌, arith}
use Rattle.std.specs.Prelude.{AllPairs, Contains, IsPermutation, nat_eq}
use Rattle.std.proofs.lemmas.List.Sorted.{Contains-permutation, IsPermutation-sym, sum_by-IsPermutation}
use Rattle.std.proofs.lemmas.List.Filters.{length-filter_more}
use Rattle.std.proofs.lemmas.List.Sums.{sum_by-append}
use Rattle.ba_tree.proofs.Members.{Has, contains_has, has_contains}
use Rattle.ba_rank.specs.Counts.{entry_of, is_named, once_if, times_named}
use Rattle.ba_rank.specs.Ranking.{IsRanking, Precedes, lists_with, stands_in}
use Rattle.ba_rank.specs.declared.ranking.Ranked.{Ranked}
use Rattle.ba_rank.proofs.Counting.{has-map, has-named, has-times, map-has, named-has, times-has}

-- the numbers of one list more
pub named-more : (n : ℕ) (lists : List (List (List ℕ))) (i : ℕ) (sets : List (List ℕ))
    (numbers others more : List ℕ) → i < length lists → sets ≡ get_or lists i sets → times_named n numbers ≡ lists_with n (take i lists)
    → times_named n others ≡ once_if (stands_in n sets) → more ≡ numbers ++ others
    → times_named n more ≡ lists_with n (take (i + 1) lists)
named-more n lists i sets numbers others more within is so_far one joined =
    let whole : times_named n more ≡ times_named n numbers + times_named n others =
    ap (times_named n) joined ∙ sum_by-append (λ m. once_if (nat_eq n m)) numbers others in
    let next : lists_with n (take (i + 1) lists)
    ≡ lists_with n (take i lists) + once_if (stands_in n (get_or lists i sets)) =
    length-filter_more (stands_in n) lists i sets within in
    let same : once_if (stands_in n sets) ≡ once_if (stands_in n (get_or lists i sets)) =
    ap (λ ss. once_if (stands_in n ss)) is in
    omega (arith, whole, next, same, so_far, one)

-- each number that is named occurs once in a list
abbrev pub AreNamed : List ℕ → List ℕ → Type 0
AreNamed named numbers = (n : ℕ) → times_named n numbers ≡ once_if (is_named n named)

named-here : (named numbers : List ℕ) (n : ℕ) → AreNamed named numbers → Has named n → Has numbers n
named-here named numbers n once h =
    let one : times_named n numbers ≡ 1 = once n ∙ ap once_if (has-named n named h) in
    times-has n numbers (omega (arith, one))

here-named : (named numbers : List ℕ) (n : ℕ) → AreNamed named numbers → Has numbers n → Has named n
here-named named numbers n once h =
    named-has n named (by (is_named n named) (sym (once n)) (has-times n numbers h))
  where
    by : (b : Bool) → once_if b ≡ times_named n numbers → 1 ≤ times_named n numbers → b ≡ true
    by true is some = refl
    by false is some = absurd (omega (arith, is, some))

-- entries that are made of lists are those of equal lists
pub made-of : (entries : List Ranked) (xs ys named numbers : List ℕ) → entries ≡ map (entry_of xs) ys
    → xs ≡ named → ys ≡ numbers → entries ≡ map (entry_of named) numbers
made-of entries xs ys named numbers made is are =
    made ∙ ap₂ (λ (xs ys : List ℕ). map (entry_of xs) ys) is are

-- the entries of the numbers that the lists name, in order
pub is-ranking : (lists : List (List (List ℕ))) (unsorted named numbers : List ℕ)
    (entries ordered : List Ranked) → ((n : ℕ) → times_named n unsorted ≡ lists_with n lists) → IsPermutation unsorted named
    → AreNamed named numbers → entries ≡ map (entry_of named) numbers → IsPermutation entries ordered
    → AllPairs Precedes ordered → IsRanking lists ordered
is-ranking lists unsorted named numbers entries ordered counted moved once made placed order = record {
  exactly = λ entry. (to entry, back entry);
  in_order = order;
}
  where
    count : (n : ℕ) → times_named n named ≡ lists_with n lists
    count n = sum_by-IsPermutation (λ m. once_if (nat_eq n m)) unsorted named moved ∙ counted n

    to : (entry : Ranked) → Contains ordered entry
        → (1 ≤ entry.inputs) × (entry.inputs ≡ lists_with entry.stmt.0 lists)
    to entry h =
        let among : Has entries entry = contains_has entries entry
        (Contains-permutation ordered entries entry (IsPermutation-sym entries ordered placed) h) in
        let both = map-has named entry numbers (subst (λ (es : List Ranked). Has es entry) made among) in
        let some = has-times entry.stmt.0 named (here-named named numbers entry.stmt.0 once both.0) in
        let is = both.1 in (omega (arith, some, is), is ∙ count entry.stmt.0)

    back : (entry : Ranked) → (1 ≤ entry.inputs) × (entry.inputs ≡ lists_with entry.stmt.0 lists)
        → Contains ordered entry
    back entry (some, is) =
        let same : entry.inputs ≡ times_named entry.stmt.0 named = is ∙ sym (count entry.stmt.0) in
        let here : Has named entry.stmt.0 = times-has entry.stmt.0 named (omega (arith, some, same)) in
        let among : Has (map (entry_of named) numbers) (entry_of named entry.stmt.0) =
        has-map named entry.stmt.0 numbers (named-here named numbers entry.stmt.0 once here) in
        let it : entry_of named entry.stmt.0 ≡ entry =
        λ i. record { stmt = entry.stmt; inputs = sym same i } in
        Contains-permutation entries ordered entry placed (has_contains entries entry
        (subst (λ (es : List Ranked). Has es entry) (sym made)
        (subst (Has (map (entry_of named) numbers)) it among)))
