-- What the groups of an assignment weigh, and how a set of false groups stands to all of them.
use Rattle.std.proofs.Common.{◌≡◌, ℕ, suc, zero, ◌+◌, ◌-◌, ◌<◌, ◌≤◌, ◌==◌, Bool, true, false, not, ◌&&◌, ◌||◌, cond, ltb, Option, None, Some, List, [], ◌∷◌, refl, sym, ap, ◌∙◌, subst, arith, unwrap_or, is_some}
use Rattle.std.proofs.lemmas.Bool.{or_parts, and_parts, and_from}
use Rattle.std.proofs.lemmas.Bool.Decides.{nat_tests}
use Rattle.std.proofs.lemmas.List.Sums.{sum_by-cons}
use Rattle.std.specs.List.{slice_get}
use Rattle.ba_lits.specs.Literals.{Literal, negate}
use Rattle.ba_lits.specs.Satisfaction.{Assignment, Soft, signed, lit_true, any_true, cost}
use Rattle.ba_steps.specs.Steps.{AreAbove}
use Rattle.ba_checker.specs.Blocks.{entry_of, entry_weight, weight_at, set_weight, lacks_group, inserted, with_selector, block_clause}
use Rattle.ba_checker.specs.States.{present}
use Rattle.ba_checker.proofs.BlockLaws.{heavy}
use Rattle.ba_tree.specs.Least as least
use Rattle.ba_tree.specs.Least.{WeightList, AreRelaxableAbove, weight_of}
use Rattle.ba_derivations.specs.Encodings.{is_false_group, with_if, false_groups_from, false_groups, weight_if}

-- the entries from a place on
abbrev pub AreFrom : List Soft → ℕ → List Soft → Type 0
AreFrom softs k ss = (j : ℕ) → slice_get softs (k + j) ≡ slice_get ss j

pub from_start : (softs : List Soft) → AreFrom softs 0 softs
from_start softs j = let same : 0 + j ≡ j = omega arith in ap (slice_get softs) same

pub from_next : (softs : List Soft) (k : ℕ) (s : Soft) (ss : List Soft) → AreFrom softs k (s ∷ ss) →
    AreFrom softs (suc k) ss
from_next softs k s ss from j =
    let same : suc k + j ≡ k + suc j = omega arith in ap (slice_get softs) same ∙ from (suc j)

pub entry_here : (softs : List Soft) (k : ℕ) (s : Soft) (ss : List Soft) → AreFrom softs k (s ∷ ss) →
    entry_of softs (suc k) ≡ Some s
entry_here softs k s ss from = let same : k ≡ k + 0 = omega arith in ap (slice_get softs) same ∙ from 0

weighs_some : (w : ℕ) → ltb 0 w ≡ true → 1 ≤ w
weighs_some w e = grind (arith, nat_tests)

weighty : (v : Assignment) (s : Soft) → is_false_group v s ≡ true → 1 ≤ s.1
weighty v s is = weighs_some s.1 ((and_parts (ltb 0 s.1) (not (lit_true v s.0)) is).0)

-- THE COST of an assignment is the weight of its groups
cost_from : (v : Assignment) (softs : List Soft) (k : ℕ) (ss : List Soft) → AreFrom softs k ss →
    set_weight softs (false_groups_from k v ss) ≡ cost v (present ss)
cost_from v softs k [] from = refl
cost_from v softs k (s ∷ ss) from =
    by_case (ltb 0 s.1) (lit_true v s.0) refl (ap entry_weight (entry_here softs k s ss from))
    (cost_from v softs (suc k) ss (from_next softs k s ss from))
  where
    rest : List ℕ
    rest = false_groups_from (suc k) v ss

    by_case : (weighs holds : Bool) → lit_true v s.0 ≡ holds → weight_at softs (suc k) ≡ s.1 →
        set_weight softs rest ≡ cost v (present ss) →
        set_weight softs (with_if (weighs && not holds) (suc k) rest) ≡ cost v (cond weighs (s ∷ present
        ss) (present ss))
    by_case true true e here later =
        let none : cost v (present ss) ≡ cond true 0 s.1 + cost v (present ss) = omega arith in
        later ∙ (none ∙ ap (λ b. cond b 0 s.1 + cost v (present ss)) (sym e))
    by_case true false e here later =
        ap (λ n. n + set_weight softs rest) here ∙ (ap (λ n. s.1 + n) later
        ∙ ap (λ b. cond b 0 s.1 + cost v (present ss)) (sym e))
    by_case false holds e here later = later

pub cost_is : (v : Assignment) (softs : List Soft) →
    set_weight softs (false_groups v softs) ≡ cost v (present softs)
cost_is v softs = cost_from v softs 0 softs (from_start softs)

-- FALSE GROUPS: each number of the set is that of a group whose selector is false
abbrev is_false_at : Assignment → Option Soft → Bool
is_false_at v None = false
is_false_at v (Some s) = is_false_group v s

abbrev pub AreFalse : Assignment → List Soft → List ℕ → Type 0
AreFalse v softs [] = Unit {0}
AreFalse v softs (n ∷ ns) = (is_false_at v (entry_of softs n) ≡ true) × AreFalse v softs ns

-- the one weighs no more, and as much only if this holds
abbrev pub IsWithin : ℕ → ℕ → Type 0 → Type 0
IsWithin a b P = (a ≤ b) × (b ≤ a → P)

none_past : (softs : List Soft) (k n : ℕ) → AreFrom softs k [] → k < n → entry_of softs n ≡ None
none_past softs k zero from lt = absurd (omega (arith, lt))
none_past softs k (suc j) from lt =
    let same : j ≡ k + (j - k) = omega (arith, lt) in ap (slice_get softs) same ∙ from (j - k)

-- a false group more in front
false_more : (v : Assignment) (softs : List Soft) (k : ℕ) (s : Soft) (set rest : List ℕ) →
    weight_at softs (suc k) ≡ s.1 →
    IsWithin (set_weight softs set) (set_weight softs rest) (set ≡ rest) → (b : Bool) →
    is_false_group v s ≡ b →
    IsWithin (set_weight softs set) (set_weight softs (with_if b (suc k) rest)) (set ≡ with_if b (suc k) rest)
false_more v softs k s set rest here (within, same) true is =
    let some : 1 ≤ weight_at softs (suc k) = subst (λ n. 1 ≤ n) (sym here) (weighty v s is) in
    (omega (arith, within, some), λ le. absurd (omega (arith, within, some, le)))
false_more v softs k s set rest here within false is = within

-- a set of false groups weighs no more than all of them, and as much only if it is all of them
compare_from : (v : Assignment) (softs : List Soft) (k : ℕ) (ss : List Soft) → AreFrom softs k ss →
    (set : List ℕ) →
    AreAbove k set → AreFalse v softs set →
    IsWithin (set_weight softs set) (set_weight softs (false_groups_from k v ss)) (set ≡ false_groups_from
    k v ss)
compare_from v softs k [] from [] above falses = (omega arith, λ le. refl)
compare_from v softs k [] from (n ∷ ns) above falses =
    let none : false ≡ true = ap (is_false_at v) (sym (none_past softs k n from above.0)) ∙ falses.0 in cc
compare_from v softs k (s ∷ ss) from [] above falses =
    false_more v softs k s [] (false_groups_from (suc k) v ss) (ap entry_weight (entry_here softs k s ss
    from))
    (compare_from v softs (suc k) ss (from_next softs k s ss from) [] tt tt) (is_false_group v s) refl
compare_from v softs k (s ∷ ss) from (n ∷ ns) above falses =
    by_case (λ more. compare_from v softs (suc k) ss (from_next softs k s ss from) (n ∷ ns) (more, above.1)
    falses)
    (λ is. compare_from v softs (suc k) ss (from_next softs k s ss from) ns (subst (λ m. AreAbove m ns) is
    above.1) falses.1)
    (ltb (suc k) n) refl
  where
    rest : List ℕ
    rest = false_groups_from (suc k) v ss

    here : entry_of softs (suc k) ≡ Some s
    here = entry_here softs k s ss from

    later : (a b : ℕ) → ltb a b ≡ true → a < b
    later a b e = grind (arith, nat_tests)

    equal : (a b : ℕ) → a < b → ltb (suc a) b ≡ false → b ≡ suc a
    equal a b lt e = grind (arith, nat_tests)

    -- the first of the set is this group
    first : n ≡ suc k → IsWithin (set_weight softs ns) (set_weight softs rest) (ns ≡ rest) →
        IsWithin (set_weight softs (n ∷ ns)) (set_weight softs (with_if (is_false_group v s) (suc k) rest))
        ((n ∷ ns) ≡ with_if (is_false_group v s) (suc k) rest)
    first is (within, same) =
        let false_here : is_false_group v s ≡ true =
        ap (is_false_at v) (sym here) ∙ (ap (λ m. is_false_at v (entry_of softs m)) (sym is) ∙ falses.0) in
        let Goal : Bool → ℕ → Type 0 = λ b m. IsWithin (set_weight softs (m ∷ ns))
        (set_weight softs (with_if b (suc k) rest)) ((m ∷ ns) ≡ with_if b (suc k) rest) in
        subst (λ b. Goal b n) (sym false_here) (subst (λ m. Goal true m) (sym is)
        (omega (arith, within), λ le. ap (λ ms. suc k ∷ ms) (same (omega (arith, le)))))

    by_case : (suc k < n → IsWithin (set_weight softs (n ∷ ns)) (set_weight softs rest) ((n ∷ ns) ≡ rest)) →
        (n ≡ suc k → IsWithin (set_weight softs ns) (set_weight softs rest) (ns ≡ rest)) →
        (t : Bool) → ltb (suc k) n ≡ t →
        IsWithin (set_weight softs (n ∷ ns)) (set_weight softs (with_if (is_false_group v s) (suc k) rest))
        ((n ∷ ns) ≡ with_if (is_false_group v s) (suc k) rest)
    by_case past here_first true e =
        false_more v softs k s (n ∷ ns) rest (ap entry_weight here) (past (later (suc k) n e))
        (is_false_group v s) refl
    by_case past here_first false e = let is : n ≡ suc k = equal k n above.0 e in first is (here_first is)

pub compare : (v : Assignment) (softs : List Soft) (set : List ℕ) → AreAbove 0 set → AreFalse v softs set →
    IsWithin (set_weight softs set) (set_weight softs (false_groups v softs)) (set ≡ false_groups v softs)
compare v softs set = compare_from v softs 0 softs (from_start softs) set

-- THE CLAUSE OF A BLOCKED SET is false exactly if all its groups are
swap : (a b c : Bool) → (a || (b || c)) ≡ (b || (a || c))
swap true true c = refl
swap true false c = refl
swap false b c = refl

inserted_true : (v : Assignment) (l : Literal) (lits : List Literal) →
    any_true v (inserted l lits) ≡ (lit_true v l || any_true v lits)
inserted_true v l [] = refl
inserted_true v l (m ∷ ms) = by_case (ltb l.variable m.variable) (inserted_true v l ms)
  where
    by_case : (t : Bool) → any_true v (inserted l ms) ≡ (lit_true v l || any_true v ms) →
        any_true v (cond t (l ∷ m ∷ ms) (m ∷ inserted l ms)) ≡ (lit_true v l || (lit_true v m || any_true v
        ms))
    by_case true rest = refl
    by_case false rest = ap (λ b. lit_true v m || b) rest ∙ swap (lit_true v m) (lit_true v l) (any_true v ms)

pub falsified : (v : Assignment) (softs : List Soft) (set : List ℕ) → lacks_group softs set ≡ false →
    any_true v (block_clause softs set) ≡ false → AreFalse v softs set
falsified v softs [] exist is_false = tt
falsified v softs (n ∷ ns) exist is_false =
    let parts = or_parts (weight_at softs n == 0) (lacks_group softs ns) exist in
    by_case (falsified v softs ns parts.1) (entry_of softs n) refl parts.0 is_false
  where
    by_case : (any_true v (block_clause softs ns) ≡ false → AreFalse v softs ns) → (o : Option Soft) →
        entry_of softs n ≡ o → (entry_weight o == 0) ≡ false →
        any_true v (with_selector o (block_clause softs ns)) ≡ false → AreFalse v softs (n ∷ ns)
    by_case rest None e none clause = cc
    by_case rest (Some s) e some clause =
        let parts = or_parts (lit_true v s.0) (any_true v (block_clause softs ns))
        (sym (inserted_true v s.0 (block_clause softs ns)) ∙ clause) in (
          ap (is_false_at v) e ∙ and_from (ltb 0 s.1) (not (lit_true v s.0)) (heavy s.1 some) (ap not
              parts.0),
          rest parts.1,
        )

-- WEIGHTS of groups are those of statements
abbrev pub Weighs : WeightList → List Soft → Type 0
Weighs weights softs = (n : ℕ) → least.weight_at weights n ≡ weight_if (weight_at softs n)

weight_of_if : (w : ℕ) → unwrap_or (weight_if w) 0 ≡ w
weight_of_if w = by_case (w == 0) refl
  where
    none : (n : ℕ) → (n == 0) ≡ true → 0 ≡ n
    none n e = grind (arith, nat_tests)

    by_case : (t : Bool) → (w == 0) ≡ t → unwrap_or (cond t None (Some w)) 0 ≡ w
    by_case true e = none w e
    by_case false e = refl

pub weight_same : (weights : WeightList) (softs : List Soft) → Weighs weights softs → (set : List ℕ) →
    weight_of weights set ≡ set_weight softs set
weight_same weights softs weighs [] = refl
weight_same weights softs weighs (n ∷ ns) =
    sum_by-cons (λ m. unwrap_or (least.weight_at weights m) 0) n ns
    ∙ (ap (λ w. w + weight_of weights ns) (ap (λ o. unwrap_or o 0) (weighs n) ∙ weight_of_if (weight_at
    softs n))
    ∙ ap (λ w. weight_at softs n + w) (weight_same weights softs weighs ns))

relaxable_from : (weights : WeightList) (softs : List Soft) → Weighs weights softs →
    (low : ℕ) (set : List ℕ) →
    AreAbove low set → lacks_group softs set ≡ false → AreRelaxableAbove weights low set
relaxable_from weights softs weighs low [] above exist = tt
relaxable_from weights softs weighs low (n ∷ ns) above exist =
    let parts = or_parts (weight_at softs n == 0) (lacks_group softs ns) exist in (
      above.0,
      ap is_some (weighs n) ∙ ap (λ b. is_some (cond b None (Some (weight_at softs n)))) parts.0,
      relaxable_from weights softs weighs n ns above.1 parts.1,
    )

pub relaxable : (weights : WeightList) (softs : List Soft) → Weighs weights softs → (set : List ℕ) →
    AreAbove 0 set → lacks_group softs set ≡ false → AreRelaxableAbove weights 0 set
relaxable weights softs weighs set = relaxable_from weights softs weighs 0 set

-- A FALSE SOFT LITERAL costs at least 1
pub negate_false : (v : Assignment) (l : Literal) → lit_true v l ≡ true → lit_true v (negate l) ≡ false
negate_false v l is = by_case l.negated (v l.variable) is
  where
    by_case : (n b : Bool) → signed n b ≡ true → signed (not n) b ≡ false
    by_case true true e = cc
    by_case true false e = refl
    by_case false true e = refl
    by_case false false e = cc
