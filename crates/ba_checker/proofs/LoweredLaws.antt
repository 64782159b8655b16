-- What the soft literals of a core lose.

use Rattle.std.proofs.Common.{◌≡◌, ℕ, suc, ◌+◌, ◌*◌, ◌-◌, ◌≤◌, Bool, true, false, not, ◌||◌, cond, ltb, eqb, min, unwrap_or, Option, None, Some, List, [], ◌∷◌, refl, sym, ap, ◌∙◌, arith, subst, ⊎_elim}
use Rattle.std.proofs.lemmas.Bool.{eq-eqb, or_parts, or_cases, false_from_ne_true}
use Rattle.std.proofs.Math.Nat.{mul-add}
use Rattle.std.proofs.lemmas.Bool.Decides.{nat_tests}
use Rattle.std.proofs.lemmas.Option.{same_Some}
use Rattle.std.specs.List.{list_any}
use Rattle.ba_lits.specs.Literals.{Literal, negate, index_of, IsClause}
use Rattle.ba_lits.specs.Satisfaction.{Assignment, lit_true, Soft, cost, one_if}
use Rattle.ba_lits.specs.Hints.{has_literal}
use Rattle.ba_lits.proofs.Satisfied.{lit_true-negate}
use Rattle.ba_lits.proofs.Members.{same_literal, negate-negate, literal_found}
use Rattle.ba_lits.proofs.ClauseLaws.{IsClause-rest}
use Rattle.ba_checker.specs.Splits.{is_soft, lesser, lightest, lowered}
use Rattle.ba_checker.specs.Facts.{Differs, AreDifferent}
use Rattle.ba_checker.proofs.SplitMeaning.{count_true}

-- how many soft literals of a core are false
abbrev pub hits : Assignment → List Literal → List Soft → ℕ
hits v core [] = 0
hits v core (s ∷ ss) = cond (has_literal (negate s.0) core) (one_if (not (lit_true v s.0))) 0 + hits v core ss

-- the soft literals of a core have at least this weight
abbrev pub AreAtLeast : ℕ → List Literal → List Soft → Type 0
AreAtLeast w core [] = Unit {0}
AreAtLeast w core (s ∷ ss) = (has_literal (negate s.0) core ≡ true → w ≤ s.1) × AreAtLeast w core ss

pub lowered_cost : (v : Assignment) (w : ℕ) (core : List Literal) (softs : List Soft) →
    AreAtLeast w core softs → cost v softs ≡ w * hits v core softs + cost v (lowered core w softs)
lowered_cost v w core [] h = omega arith
lowered_cost v w core (s ∷ ss) h =
    member (has_literal (negate s.0) core) refl (lowered_cost v w core ss h.1)
  where
    outside : (t : Bool) (x c k l : ℕ) → c ≡ w * k + l → cond t 0 x + c ≡ w * (0 + k) + (cond t 0 x + l)
    outside t x c k l e = let m = mul-add w 0 k in omega (arith, m, e)

    heavier : (t : Bool) (x c k l : ℕ) → w ≤ x → c ≡ w * k + l →
        cond t 0 x + c ≡ w * (one_if (not t) + k) + (cond t 0 (x - w) + l)
    heavier true x c k l le e = let m = mul-add w 0 k in omega (arith, m, e)
    heavier false x c k l le e = let m = mul-add w 1 k in omega (arith, m, e, le)

    gone : (t : Bool) (x c k l : ℕ) → w ≡ x → c ≡ w * k + l → cond t 0 x + c ≡ w * (one_if (not t) + k) + l
    gone true x c k l le e = let m = mul-add w 0 k in omega (arith, m, e)
    gone false x c k l le e = let m = mul-add w 1 k in omega (arith, m, e, le)

    above : (b : Bool) → ltb w s.1 ≡ b → w ≤ s.1 →
        cost v ss ≡ w * hits v core ss + cost v (lowered core w ss) →
        cost v (s ∷ ss) ≡ w * (one_if (not (lit_true v s.0)) + hits v core ss) + cost v
        (cond b ((s.0, s.1 - w) ∷ lowered core w ss) (lowered core w ss))
    above true is le rest = heavier (lit_true v s.0) s.1 (cost v ss) (hits v core ss)
        (cost v (lowered core w ss)) le rest
    above false is le rest = gone (lit_true v s.0) s.1 (cost v ss) (hits v core ss)
        (cost v (lowered core w ss)) (equal w s.1 is le) rest
      where
        equal : (a b : ℕ) → ltb a b ≡ false → a ≤ b → a ≡ b
        equal a b is le = grind (arith, nat_tests)

    member : (m : Bool) → has_literal (negate s.0) core ≡ m →
        cost v ss ≡ w * hits v core ss + cost v (lowered core w ss) →
        cost v (s ∷ ss) ≡ w * (cond (has_literal (negate s.0) core) (one_if (not (lit_true v s.0))) 0 + hits
        v core ss) + cost v (cond (has_literal (negate s.0) core)
        (cond (ltb w s.1) ((s.0, s.1 - w) ∷ lowered core w ss) (lowered core w ss)) (s
        ∷ lowered core w ss))
    member true is rest = rw is (above (ltb w s.1) refl (h.0 is) rest)
    member false is rest = rw is (outside (lit_true v s.0) s.1 (cost v ss) (hits v core ss)
        (cost v (lowered core w ss)) rest)

-- a literal whose variable no soft literal has hits none
hits_none : (v : Assignment) (b : Literal) (rest : List Literal) (softs : List Soft) →
    Differs b.variable softs → hits v (b ∷ rest) softs ≡ hits v rest softs
hits_none v b rest [] h = refl
hits_none v b rest (s ∷ ss) h =
    ap (λ t. cond (t || has_literal (negate s.0) rest) (one_if (not (lit_true v s.0))) 0 + hits v (b ∷ rest)
    ss)
    (false_from_ne_true (eqb (index_of b) (index_of (negate s.0)))
    (λ e. h.0 (sym (ap (λ (l : Literal). l.variable) (same_literal b (negate s.0) e)))))
    ∙ ap (λ k. cond (has_literal (negate s.0) rest) (one_if (not (lit_true v s.0))) 0 + k)
    (hits_none v b rest ss h.1)

-- one whose negation is a soft literal hits that
hits_one : (v : Assignment) (b : Literal) (rest : List Literal) (softs : List Soft) →
    is_soft softs (negate b) ≡ true → AreDifferent softs → has_literal b rest ≡ false →
    hits v (b ∷ rest) softs ≡ one_if (lit_true v b) + hits v rest softs
hits_one v b rest [] is differ new = absurd (cc)
hits_one v b rest (s ∷ ss) is differ new = cases (eqb (index_of s.0) (index_of (negate b))) refl
    (λ e. hits_one v b rest ss e differ.1 new)
  where
    turned : (x : Bool) → one_if (not (not x)) ≡ one_if x
    turned true = refl
    turned false = refl

    here : s.0 ≡ negate b → hits v (b ∷ rest) (s ∷ ss) ≡ one_if (lit_true v b) + hits v rest (s ∷ ss)
    here same =
        let back : negate s.0 ≡ b = ap negate same ∙ negate-negate b in
        let known : has_literal (negate s.0) (b ∷ rest) ≡ true = ap (λ l. has_literal l (b ∷ rest)) back
        ∙ ap (λ t. t || has_literal b rest) (eq-eqb (index_of b) (index_of b) refl) in
        let none : has_literal (negate s.0) rest ≡ false = ap (λ l. has_literal l rest) back ∙ new in
        let value : one_if (not (lit_true v s.0)) ≡ one_if (lit_true v b) =
        ap (λ l. one_if (not (lit_true v l))) same ∙ (ap (λ t. one_if (not t)) (lit_true-negate v b)
        ∙ turned (lit_true v b)) in
        let apart : Differs b.variable ss = let P : ℕ → Type 0 = λ x. Differs x ss in
        subst P (ap (λ (l : Literal). l.variable) same) differ.0 in
        ap (λ t. cond t (one_if (not (lit_true v s.0))) 0 + hits v (b ∷ rest) ss) known
        ∙ (ap (λ k. k + hits v (b ∷ rest) ss) value
        ∙ (ap (λ k. one_if (lit_true v b) + k) (hits_none v b rest ss apart)
        ∙ (ap (λ k. one_if (lit_true v b) + k) (from_zero (hits v rest ss))
        ∙ ap (λ t. one_if (lit_true v b) + (cond t (one_if (not (lit_true v s.0))) 0 + hits v rest ss))
        (sym none))))
      where
        from_zero : (k : ℕ) → k ≡ 0 + k
        from_zero k = omega arith

    there : eqb (index_of s.0) (index_of (negate b)) ≡ false →
        hits v (b ∷ rest) ss ≡ one_if (lit_true v b) + hits v rest ss →
        hits v (b ∷ rest) (s ∷ ss) ≡ one_if (lit_true v b) + hits v rest (s ∷ ss)
    there other later =
        let apart : eqb (index_of b) (index_of (negate s.0)) ≡ false =
        false_from_ne_true (eqb (index_of b) (index_of (negate s.0))) (λ e.
        let same = same_literal b (negate s.0) e in
        let back : negate b ≡ s.0 = ap negate same ∙ negate-negate s.0 in
        let known : eqb (index_of s.0) (index_of (negate b)) ≡ true =
        ap (λ l. eqb (index_of s.0) (index_of l)) back ∙ eq-eqb (index_of s.0) (index_of s.0) refl in
        (cc)) in
        ap (λ t. cond (t || has_literal (negate s.0) rest) (one_if (not (lit_true v s.0))) 0 + hits v (b
        ∷ rest) ss) apart
        ∙ (ap (λ k. cond (has_literal (negate s.0) rest) (one_if (not (lit_true v s.0))) 0 + k) later
        ∙ swap (cond (has_literal (negate s.0) rest) (one_if (not (lit_true v s.0))) 0)
        (one_if (lit_true v b)) (hits v rest ss))
      where
        swap : (x y z : ℕ) → x + (y + z) ≡ y + (x + z)
        swap x y z = omega arith

    cases : (e : Bool) → eqb (index_of s.0) (index_of (negate b)) ≡ e →
        (is_soft ss (negate b) ≡ true → hits v (b ∷ rest) ss ≡ one_if (lit_true v b) + hits v rest ss) →
        hits v (b ∷ rest) (s ∷ ss) ≡ one_if (lit_true v b) + hits v rest (s ∷ ss)
    cases true e next = here (same_literal s.0 (negate b) e)
    cases false e next = there e (next (⊎_elim (λ first. absurd (cc)) (λ later. later)
        (or_cases (eqb (index_of s.0) (index_of (negate b))) (is_soft ss (negate b)) is)))

hits_nothing : (v : Assignment) (softs : List Soft) → hits v [] softs ≡ 0
hits_nothing v [] = refl
hits_nothing v (s ∷ ss) = ap (λ k. 0 + k) (hits_nothing v ss) ∙ none
  where
    none : 0 + 0 ≡ 0
    none = refl

-- a clause's first literal doesn't come again
pub first_new : (n : ℕ) (b : Literal) (rest : List Literal) → IsClause n (b ∷ rest) →
    has_literal b rest ≡ false
first_new n b rest clause =
    false_from_ne_true (has_literal b rest) (λ has.
    let (k, lt, is) = literal_found b rest has in
    let above = clause.ascends 0 (suc k) (omega arith) (omega arith) in
    absurd (omega (arith, above, ap (λ (l : Literal). l.variable) is)))

-- the soft literals of a core that are false are as many as its true literals
pub hits_count : (n : ℕ) (v : Assignment) (core : List Literal) (softs : List Soft) → IsClause n core →
    list_any (λ (l : Literal). not (is_soft softs (negate l))) core ≡ false → AreDifferent softs →
    hits v core softs ≡ count_true v core
hits_count n v [] softs clause known differ = hits_nothing v softs
hits_count n v (b ∷ rest) softs clause known differ =
    let parts = or_parts (not (is_soft softs (negate b)))
    (list_any (λ (l : Literal). not (is_soft softs (negate l))) rest) known in
    hits_one v b rest softs (positive (is_soft softs (negate b)) parts.0) differ (first_new n b rest clause)
    ∙ ap (λ k. one_if (lit_true v b) + k) (hits_count n v rest softs (IsClause-rest n b rest clause) parts.1
    differ)
  where
    positive : (x : Bool) → not x ≡ false → x ≡ true
    positive true e = refl
    positive false e = absurd (cc)

-- the least weight is at most each
at_most : (w u : ℕ) (core : List Literal) (softs : List Soft) → u ≤ w → AreAtLeast w core softs →
    AreAtLeast u core softs
at_most w u core [] le h = tt
at_most w u core (s ∷ ss) le h = (
  λ is. let more = h.0 is in
      omega (arith, more, le),
  at_most w u core ss le h.1,
)

none_at_least : (w : ℕ) (core : List Literal) (softs : List Soft) → lightest core softs ≡ None →
    AreAtLeast w core softs
none_at_least w core [] none = tt
none_at_least w core (s ∷ ss) none = cases (has_literal (negate s.0) core) refl
    (λ e. none_at_least w core ss e)
  where
    cases : (m : Bool) → has_literal (negate s.0) core ≡ m →
        (lightest core ss ≡ None → AreAtLeast w core ss) → AreAtLeast w core (s ∷ ss)
    cases true is next = absurd (let e = ap (λ t. cond t (Some (lesser s.1 (lightest core ss)))
        (lightest core ss)) (sym is) ∙ none in cc)
    cases false is next = (
      λ e. absurd (cc),
      next
          (ap (λ t. cond t (Some (lesser s.1 (lightest core ss))) (lightest core ss)) (sym is) ∙ none),
    )

some_at_least : (w : ℕ) (core : List Literal) (softs : List Soft) → lightest core softs ≡ Some w →
    AreAtLeast w core softs
some_at_least w core [] is = absurd (cc)
some_at_least w core (s ∷ ss) is = cases (has_literal (negate s.0) core) refl (lightest core ss) refl
    (λ u e. some_at_least u core ss e)
  where
    cases : (m : Bool) → has_literal (negate s.0) core ≡ m → (o : Option ℕ) → lightest core ss ≡ o →
        ((u : ℕ) → lightest core ss ≡ Some u → AreAtLeast u core ss) → AreAtLeast w core (s ∷ ss)
    cases true m None o next =
        let e : s.1 ≡ w = same_Some s.1 w
        (sym (ap (λ t. cond t (Some (lesser s.1 (lightest core ss))) (lightest core ss)) m
        ∙ ap (λ l. Some (lesser s.1 l)) o) ∙ is) in
        (λ _. omega (arith, e), none_at_least w core ss o)
    cases true m (Some u) o next =
        let e : min s.1 u ≡ w = same_Some (min s.1 u) w
        (sym (ap (λ t. cond t (Some (lesser s.1 (lightest core ss))) (lightest core ss)) m
        ∙ ap (λ l. Some (lesser s.1 l)) o) ∙ is) in
        (λ _. omega (arith, e), at_most u w core ss (omega (arith, e)) (next u o))
    cases false m o e next = (
      λ t. absurd (cc),
      next w
          (sym (ap (λ t. cond t (Some (lesser s.1 (lightest core ss))) (lightest core ss)) m) ∙ is),
    )

pub lightest_at_least : (core : List Literal) (softs : List Soft) →
    AreAtLeast (unwrap_or (lightest core softs) 0) core softs
lightest_at_least core softs = cases (lightest core softs) refl
  where
    cases : (o : Option ℕ) → lightest core softs ≡ o → AreAtLeast (unwrap_or o 0) core softs
    cases None is = none_at_least 0 core softs is
    cases (Some w) is = some_at_least w core softs is
