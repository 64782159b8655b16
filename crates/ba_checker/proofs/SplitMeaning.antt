-- What the split of a core says, and that it keeps costs.

use Rattle.std.proofs.Common.{◌≡◌, ℕ, suc, ◌+◌, ◌*◌, ◌-◌, ◌<◌, ◌≤◌, Bool, true, false, not, ◌&&◌, ◌||◌, cond, ltb, if◌then◌else◌, List, [], ◌∷◌, length, drop, get_or, refl, sym, ap, ◌∙◌, arith, ⊎_elim}
use Rattle.std.proofs.Math.Nat.{mul-add}
use Rattle.std.proofs.lemmas.Bool.{cases_eq, and_parts, and_from}
use Rattle.std.proofs.lemmas.Bool.Decides.{nat_tests}
use mathlib.Core.Bool.{or-false}
use Rattle.ba_lits.specs.Literals.{Literal, negate, negative, no_literal, positive}
use Rattle.ba_lits.specs.Satisfaction.{Assignment, lit_true, any_true, all_true, cost, Agree, one_if}
use Rattle.ba_lits.proofs.Satisfied.{ClauseBelow, lit_true-negate, lit_true-agree, any_true-agree, all_true-append}
use Rattle.ba_checker.specs.Splits.{in_order, or_gate, and_gate, some_of, or_clauses, and_clauses, split_clauses, late_softs}

-- two truth values are the same
abbrev pub eqv : Bool → Bool → Bool
eqv true b = b
eqv false b = not b

pub eqv_same : (a b : Bool) → eqv a b ≡ true → a ≡ b
eqv_same true b e = sym e
eqv_same false true e = absurd (cc)
eqv_same false false e = refl

pub same_eqv : (a b : Bool) → a ≡ b → eqv a b ≡ true
same_eqv true b e = sym e
same_eqv false true e = absurd (cc)
same_eqv false false e = refl

in_order_true : (v : Assignment) (a b : Literal) → any_true v (in_order a b) ≡ (lit_true v a || lit_true v b)
in_order_true v a b = cases (ltb a.variable b.variable)
  where
    table : (x y : Bool) → (x || (y || false)) ≡ (x || y)
    table true y = refl
    table false true = refl
    table false false = refl

    turned : (x y : Bool) → (y || (x || false)) ≡ (x || y)
    turned true true = refl
    turned true false = refl
    turned false true = refl
    turned false false = refl

    cases : (t : Bool) → any_true v (cond t (a ∷ b ∷ []) (b ∷ a ∷ [])) ≡ (lit_true v a || lit_true v b)
    cases true = table (lit_true v a) (lit_true v b)
    cases false = turned (lit_true v a) (lit_true v b)

-- the clauses of each gate say what its variable means
pub or_gate_true : (v : Assignment) (d : ℕ) (b c : Literal) →
    all_true v (or_gate d b c) ≡ eqv (v d) (lit_true v b || lit_true v c)
or_gate_true v d b c =
    ap (λ x. (lit_true v b || x) && ((lit_true v (negate b) || (v d || false))
    && (any_true v (in_order (positive d) (negate c)) && true))) (in_order_true v (negative d) c)
    ∙ (ap (λ x. (lit_true v b || (not (v d) || lit_true v c))
    && ((x || (v d || false)) && (any_true v (in_order (positive d) (negate c)) && true)))
    (lit_true-negate v b)
    ∙ (ap (λ x. (lit_true v b || (not (v d) || lit_true v c))
    && ((not (lit_true v b) || (v d || false)) && (x && true))) (in_order_true v (positive d) (negate c)
    ∙ ap (λ x. v d || x) (lit_true-negate v c))
    ∙ table (v d) (lit_true v b) (lit_true v c)))
  where
    table : (x y z : Bool) → ((y || (not x || z)) && ((not y || (x || false)) && ((x || not z) && true)))
        ≡ eqv x (y || z)
    table true true true = refl
    table true true false = refl
    table true false true = refl
    table true false false = refl
    table false true true = refl
    table false true false = refl
    table false false true = refl
    table false false false = refl

pub and_gate_true : (v : Assignment) (e : ℕ) (b c : Literal) →
    all_true v (and_gate e b c) ≡ eqv (v e) (lit_true v b && lit_true v c)
and_gate_true v e b c =
    ap (λ x. (lit_true v b || (not (v e) || false))
    && ((lit_true v c || (not (v e) || false)) && ((x || (lit_true v (negate c) || (v e || false)))
    && true))) (lit_true-negate v b)
    ∙ (ap (λ x. (lit_true v b || (not (v e) || false))
    && ((lit_true v c || (not (v e) || false)) && ((not (lit_true v b) || (x || (v e || false)))
    && true))) (lit_true-negate v c)
    ∙ table (v e) (lit_true v b) (lit_true v c))
  where
    table : (x y z : Bool) → ((y || (not x || false))
        && ((z || (not x || false)) && ((not y || (not z || (x || false))) && true))) ≡ eqv x (y && z)
    table true true true = refl
    table true true false = refl
    table true false true = refl
    table true false false = refl
    table false true true = refl
    table false true false = refl
    table false false true = refl
    table false false false = refl

-- w gives the variables from d on what v says: one of the literals from here on is true
abbrev pub OrsHave : Assignment → Assignment → ℕ → List Literal → Type 0
OrsHave v w d [] = Unit {0}
OrsHave v w d (b ∷ []) = Unit {0}
OrsHave v w d (b ∷ c ∷ rest) = (w d ≡ any_true v (b ∷ c ∷ rest)) × OrsHave v w (d + 1) (c ∷ rest)

-- w gives the variables from e on what v says: this literal and a later one are true
abbrev pub AndsHave : Assignment → Assignment → ℕ → List Literal → Type 0
AndsHave v w e [] = Unit {0}
AndsHave v w e (b ∷ []) = Unit {0}
AndsHave v w e (b ∷ c ∷ rest) = (w e ≡ (lit_true v b && any_true v (c ∷ rest)))
    × AndsHave v w (e + 1) (c ∷ rest)

-- what stands for `one of these is true` is true if one is
pub some_of_true : (n : ℕ) (v w : Assignment) (d : ℕ) (b : Literal) (rest : List Literal) → Agree n v w →
    ClauseBelow n (b ∷ rest) → OrsHave v w d (b ∷ rest) →
    lit_true w (some_of d (b ∷ rest)) ≡ any_true v (b ∷ rest)
some_of_true n v w d b [] same below have = sym (lit_true-agree n v w b same below.0)
    ∙ sym (or-false (lit_true v b))
some_of_true n v w d b (c ∷ rest) same below have = have.0

-- clauses that hold give the variables their meaning, and the other way round
pub ors_have : (n : ℕ) (v w : Assignment) (d : ℕ) (lits : List Literal) → Agree n v w → ClauseBelow n lits →
    all_true w (or_clauses d lits) ≡ true → OrsHave v w d lits
ors_have n v w d [] same below holds = tt
ors_have n v w d (b ∷ []) same below holds = tt
ors_have n v w d (b ∷ c ∷ rest) same below holds =
    let parts = and_parts (all_true w (or_gate d b (some_of (d + 1) (c ∷ rest))))
    (all_true w (or_clauses (d + 1) (c ∷ rest))) (sym
    (all_true-append w (or_gate d b (some_of (d + 1) (c ∷ rest))) (or_clauses (d + 1) (c ∷ rest)))
    ∙ holds) in
    let later = ors_have n v w (d + 1) (c ∷ rest) same below.1 parts.1 in
    let gate = eqv_same (w d) (lit_true w b || lit_true w (some_of (d + 1) (c ∷ rest)))
    (sym (or_gate_true w d b (some_of (d + 1) (c ∷ rest))) ∙ parts.0) in (
      gate ∙ (ap (λ x. x || lit_true w (some_of (d + 1) (c ∷ rest)))
          (sym (lit_true-agree n v w b same below.0)) ∙ ap (λ x. lit_true v b || x)
          (some_of_true n v w (d + 1) c rest same below.1 later)),
      later,
    )

pub ors_hold : (n : ℕ) (v w : Assignment) (d : ℕ) (lits : List Literal) → Agree n v w → ClauseBelow n lits →
    OrsHave v w d lits → all_true w (or_clauses d lits) ≡ true
ors_hold n v w d [] same below have = refl
ors_hold n v w d (b ∷ []) same below have = refl
ors_hold n v w d (b ∷ c ∷ rest) same below have =
    let gate = same_eqv (w d) (lit_true w b || lit_true w (some_of (d + 1) (c ∷ rest)))
    (have.0 ∙ (ap (λ x. lit_true v b || x) (sym (some_of_true n v w (d + 1) c rest same below.1 have.1))
    ∙ ap (λ x. x || lit_true w (some_of (d + 1) (c ∷ rest))) (lit_true-agree n v w b same below.0))) in
    all_true-append w (or_gate d b (some_of (d + 1) (c ∷ rest))) (or_clauses (d + 1) (c ∷ rest))
    ∙ and_from (all_true w (or_gate d b (some_of (d + 1) (c ∷ rest))))
    (all_true w (or_clauses (d + 1) (c ∷ rest))) (or_gate_true w d b (some_of (d + 1) (c ∷ rest)) ∙ gate)
    (ors_hold n v w (d + 1) (c ∷ rest) same below.1 have.1)

-- the rest of the literals has its variables too
ors_later : (v w : Assignment) (d : ℕ) (c : Literal) (rest : List Literal) → OrsHave v w d (c ∷ rest) →
    OrsHave v w (d + 1) rest
ors_later v w d c [] have = tt
ors_later v w d c (x ∷ rest) have = have.1

pub ands_have : (n : ℕ) (v w : Assignment) (d e : ℕ) (b : Literal) (rest : List Literal) → Agree n v w →
    ClauseBelow n (b ∷ rest) → OrsHave v w d rest → all_true w (and_clauses d e (b ∷ rest)) ≡ true →
    AndsHave v w e (b ∷ rest)
ands_have n v w d e b [] same below ors holds = tt
ands_have n v w d e b (c ∷ rest) same below ors holds =
    let parts = and_parts (all_true w (and_gate e b (some_of d (c ∷ rest))))
    (all_true w (and_clauses (d + 1) (e + 1) (c ∷ rest)))
    (sym (all_true-append w (and_gate e b (some_of d (c ∷ rest)))
    (and_clauses (d + 1) (e + 1) (c ∷ rest))) ∙ holds) in
    let gate = eqv_same (w e) (lit_true w b && lit_true w (some_of d (c ∷ rest)))
    (sym (and_gate_true w e b (some_of d (c ∷ rest))) ∙ parts.0) in (
      gate ∙ (ap (λ x. x && lit_true w (some_of d (c ∷ rest))) (sym (lit_true-agree n v w b same below.0))
          ∙ ap (λ x. lit_true v b && x) (some_of_true n v w d c rest same below.1 ors)),
      ands_have n v w (d + 1) (e + 1) c rest same below.1 (ors_later v w d c rest ors) parts.1,
    )

pub ands_hold : (n : ℕ) (v w : Assignment) (d e : ℕ) (b : Literal) (rest : List Literal) → Agree n v w →
    ClauseBelow n (b ∷ rest) → OrsHave v w d rest → AndsHave v w e (b ∷ rest) →
    all_true w (and_clauses d e (b ∷ rest)) ≡ true
ands_hold n v w d e b [] same below ors have = refl
ands_hold n v w d e b (c ∷ rest) same below ors have =
    let gate = same_eqv (w e) (lit_true w b && lit_true w (some_of d (c ∷ rest)))
    (have.0 ∙ (ap (λ x. lit_true v b && x) (sym (some_of_true n v w d c rest same below.1 ors))
    ∙ ap (λ x. x && lit_true w (some_of d (c ∷ rest))) (lit_true-agree n v w b same below.0))) in
    all_true-append w (and_gate e b (some_of d (c ∷ rest))) (and_clauses (d + 1) (e + 1) (c ∷ rest))
    ∙ and_from (all_true w (and_gate e b (some_of d (c ∷ rest))))
    (all_true w (and_clauses (d + 1) (e + 1) (c ∷ rest)))
    (and_gate_true w e b (some_of d (c ∷ rest)) ∙ gate)
    (ands_hold n v w (d + 1) (e + 1) c rest same below.1 (ors_later v w d c rest ors) have.1)

-- the whole split
pub split_holds : (n : ℕ) (v w : Assignment) (b : Literal) (rest : List Literal) → Agree n v w →
    ClauseBelow n (b ∷ rest) → OrsHave v w n rest → AndsHave v w (n + (length rest - 1)) (b ∷ rest) →
    all_true w (split_clauses n (b ∷ rest)) ≡ true
split_holds n v w b rest same below ors ands =
    all_true-append w (or_clauses n rest) (and_clauses n (n + (length rest - 1)) (b ∷ rest))
    ∙ and_from (all_true w (or_clauses n rest))
    (all_true w (and_clauses n (n + (length rest - 1)) (b ∷ rest)))
    (ors_hold n v w n rest same below.1 ors)
    (ands_hold n v w n (n + (length rest - 1)) b rest same below ors ands)

pub split_has : (n : ℕ) (v w : Assignment) (b : Literal) (rest : List Literal) → Agree n v w →
    ClauseBelow n (b ∷ rest) → all_true w (split_clauses n (b ∷ rest)) ≡ true →
    OrsHave v w n rest × AndsHave v w (n + (length rest - 1)) (b ∷ rest)
split_has n v w b rest same below holds =
    let parts = and_parts (all_true w (or_clauses n rest))
    (all_true w (and_clauses n (n + (length rest - 1)) (b ∷ rest)))
    (sym (all_true-append w (or_clauses n rest) (and_clauses n (n + (length rest - 1)) (b ∷ rest)))
    ∙ holds) in
    let ors = ors_have n v w n rest same below.1 parts.0 in
    (ors, ands_have n v w n (n + (length rest - 1)) b rest same below ors parts.1)

-- THE EXTENSION to the fresh variables: from n on those of the ors, and from e on those of the ands
abbrev pub extended : Assignment → ℕ → ℕ → List Literal → List Literal → Assignment
extended v n e rest core u =
    if ltb u n then v u else (if ltb u e then any_true v (drop (u - n) rest)
    else (lit_true v (get_or core (u - e) no_literal) && any_true v (drop (u - e + 1) core)))

pub extended-old : (v : Assignment) (n e : ℕ) (rest core : List Literal) →
    Agree n v (extended v n e rest core)
extended-old v n e rest core u lt = old u lt (v u)
    (if ltb u e then any_true v (drop (u - n) rest) else (lit_true v (get_or core (u - e) no_literal)
    && any_true v (drop (u - e + 1) core)))
  where
    old : (u : ℕ) → u < n → (a b : Bool) → a ≡ cond (ltb u n) a b
    old u lt a b = grind (arith, nat_tests)

pub extended-ors : (v : Assignment) (n e : ℕ) (rest core : List Literal) (j : ℕ) → n + j < e →
    extended v n e rest core (n + j) ≡ any_true v (drop j rest)
extended-ors v n e rest core j lt =
    let back : n + j - n ≡ j = omega arith in
    middle (n + j) (v (n + j)) (any_true v (drop (n + j - n) rest))
    (lit_true v (get_or core (n + j - e) no_literal) && any_true v (drop (n + j - e + 1) core))
    (omega arith) lt ∙ ap (λ i. any_true v (drop i rest)) back
  where
    middle : (u : ℕ) (a b c : Bool) → n ≤ u → u < e → cond (ltb u n) a (cond (ltb u e) b c) ≡ b
    middle u a b c ge lt = grind (arith, nat_tests)

pub extended-ands : (v : Assignment) (n e : ℕ) (rest core : List Literal) (j : ℕ) → n ≤ e →
    extended v n e rest core (e + j) ≡ (lit_true v (get_or core j no_literal)
    && any_true v (drop (j + 1) core))
extended-ands v n e rest core j le =
    let back : e + j - e ≡ j = omega arith in
    last (e + j) (v (e + j)) (any_true v (drop (e + j - n) rest))
    (lit_true v (get_or core (e + j - e) no_literal) && any_true v (drop (e + j - e + 1) core))
    (omega arith) (omega arith) ∙ ap (λ i. lit_true v (get_or core i no_literal)
    && any_true v (drop (i + 1) core)) back
  where
    last : (u : ℕ) (a b c : Bool) → n ≤ u → e ≤ u → cond (ltb u n) a (cond (ltb u e) b c) ≡ c
    last u a b c ge_n ge_e = grind (arith, nat_tests)

-- values by the index give values by the list
pub OrsHave-each : (v w : Assignment) (d : ℕ) (lits : List Literal) →
    ((j : ℕ) → j + 1 < length lits → w (d + j) ≡ any_true v (drop j lits)) → OrsHave v w d lits
OrsHave-each v w d [] h = tt
OrsHave-each v w d (b ∷ []) h = tt
OrsHave-each v w d (b ∷ c ∷ rest) h = (
  ap w (at_zero d) ∙ h 0 (omega arith),
  OrsHave-each v w (d + 1) (c ∷ rest) (λ j lt. ap w (shift d j) ∙ h (suc j) (omega arith)),
)
  where
    at_zero : (d : ℕ) → d ≡ d + 0
    at_zero d = omega arith

    shift : (d j : ℕ) → d + 1 + j ≡ d + suc j
    shift d j = omega arith

pub AndsHave-each : (v w : Assignment) (e : ℕ) (lits : List Literal) →
    ((j : ℕ) → j + 1 < length lits → w (e + j) ≡ (lit_true v (get_or lits j no_literal)
    && any_true v (drop (j + 1) lits))) → AndsHave v w e lits
AndsHave-each v w e [] h = tt
AndsHave-each v w e (b ∷ []) h = tt
AndsHave-each v w e (b ∷ c ∷ rest) h = (
  ap w (at_zero e) ∙ (h 0 (omega arith) ∙ refl),
  AndsHave-each v w (e + 1) (c ∷ rest) (λ j lt. ap w (shift e j)
      ∙ (h (suc j) (omega arith) ∙ ap (λ i. lit_true v (get_or (c ∷ rest) j no_literal)
      && any_true v (drop i (b ∷ c ∷ rest))) (one_more j))),
)
  where
    at_zero : (e : ℕ) → e ≡ e + 0
    at_zero e = omega arith

    shift : (e j : ℕ) → e + 1 + j ≡ e + suc j
    shift e j = omega arith

    one_more : (j : ℕ) → suc j + 1 ≡ suc (j + 1)
    one_more j = omega arith

-- THE EXTENSION IS THE ONLY ONE: the clauses determine the fresh variables
pub ors_alone : (n : ℕ) (a z : Assignment) (d : ℕ) (lits : List Literal) → Agree n a z →
    ClauseBelow n lits → OrsHave a a d lits → OrsHave z z d lits → (u : ℕ) → d ≤ u →
    u < d + (length lits - 1) → a u ≡ z u
ors_alone n a z d [] same below first second u ge lt = absurd (omega arith)
ors_alone n a z d (b ∷ []) same below first second u ge lt = absurd (omega arith)
ors_alone n a z d (b ∷ c ∷ rest) same below first second u ge lt =
    ⊎_elim
    (λ here. ap a here ∙ (first.0 ∙ (any_true-agree n a z (b ∷ c ∷ rest) same below
    ∙ (sym second.0 ∙ ap z (sym here)))))
    (λ later. ors_alone n a z (d + 1) (c ∷ rest) same below.1 first.1 second.1 u (omega arith) (omega arith))
    (cases_eq u d)

pub ands_alone : (n : ℕ) (a z : Assignment) (e : ℕ) (lits : List Literal) → Agree n a z →
    ClauseBelow n lits → AndsHave a a e lits → AndsHave z z e lits → (u : ℕ) → e ≤ u →
    u < e + (length lits - 1) → a u ≡ z u
ands_alone n a z e [] same below first second u ge lt = absurd (omega arith)
ands_alone n a z e (b ∷ []) same below first second u ge lt = absurd (omega arith)
ands_alone n a z e (b ∷ c ∷ rest) same below first second u ge lt =
    ⊎_elim
    (λ here. ap a here ∙ (first.0 ∙ (ap (λ x. x && any_true a (c ∷ rest))
    (lit_true-agree n a z b same below.0) ∙ (ap (λ x. lit_true z b && x)
    (any_true-agree n a z (c ∷ rest) same below.1) ∙ (sym second.0 ∙ ap z (sym here))))))
    (λ later. ands_alone n a z (e + 1) (c ∷ rest) same below.1 first.1 second.1 u (omega arith) (omega arith))
    (cases_eq u e)

-- how many literals are true, and how many are with a later one
abbrev pub count_true : Assignment → List Literal → ℕ
count_true v [] = 0
count_true v (l ∷ ls) = one_if (lit_true v l) + count_true v ls

abbrev pub pairs : Assignment → List Literal → ℕ
pairs v [] = 0
pairs v (b ∷ []) = 0
pairs v (b ∷ c ∷ rest) = one_if (lit_true v b && any_true v (c ∷ rest)) + pairs v (c ∷ rest)

pub count_pairs : (v : Assignment) (b : Literal) (rest : List Literal) →
    count_true v (b ∷ rest) ≡ one_if (any_true v (b ∷ rest)) + pairs v (b ∷ rest)
count_pairs v b [] = single (lit_true v b)
  where
    single : (x : Bool) → one_if x + 0 ≡ one_if (x || false) + 0
    single true = refl
    single false = refl
count_pairs v b (c ∷ rest) =
    ap (λ k. one_if (lit_true v b) + k) (count_pairs v c rest)
    ∙ several (lit_true v b) (any_true v (c ∷ rest)) (pairs v (c ∷ rest))
  where
    several : (x y : Bool) (p : ℕ) → one_if x + (one_if y + p) ≡ one_if (x || y) + (one_if (x && y) + p)
    several true true p = omega arith
    several true false p = omega arith
    several false true p = omega arith
    several false false p = omega arith

-- the late softs cost the weight for each pair
pub late_cost : (v w : Assignment) (weight e : ℕ) (lits : List Literal) → AndsHave v w e lits →
    cost w (late_softs weight e lits) ≡ weight * pairs v lits
late_cost v w weight e [] have = omega arith
late_cost v w weight e (b ∷ []) have = omega arith
late_cost v w weight e (b ∷ c ∷ rest) have =
    ap (λ x. cond (not x) 0 weight + cost w (late_softs weight (e + 1) (c ∷ rest))) have.0
    ∙ (ap (λ k. cond (not (lit_true v b && any_true v (c ∷ rest))) 0 weight + k)
    (late_cost v w weight (e + 1) (c ∷ rest) have.1)
    ∙ step (lit_true v b && any_true v (c ∷ rest)) (pairs v (c ∷ rest)))
  where
    step : (x : Bool) (p : ℕ) → cond (not x) 0 weight + weight * p ≡ weight * (one_if x + p)
    step true p = let m = mul-add weight 1 p in omega (arith, m)
    step false p = let m = mul-add weight 0 p in omega (arith, m)
