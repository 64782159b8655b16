-- The facts of a watch, as the trail grows.

use Rattle.std.proofs.Common.{◌≡◌, ◌≢◌, ℕ, suc, ◌+◌, ◌<◌, ◌≤◌, Bool, true, false, not, ◌&&◌, Option, None, Some, List, [], ◌∷◌, ◌++◌, length, get_or, take, drop, eqb, cond, refl, sym, ap, subst, ◌∙◌, arith, ⊎_elim}
use Rattle.std.proofs.lemmas.Bool.{cases_lt}
use Rattle.std.proofs.lemmas.List.{length_push, take-append-le, take_at, drop_all, drop-append-le, get_or_append_left, get_or_push}
use Rattle.std.specs.List.{swap}
use Rattle.ba_lits.specs.Literals.{Literal, negate, index_of, lit_at, no_literal}
use Rattle.ba_lits.specs.Hints.{has_literal}
use Rattle.ba_lits.proofs.Members.{has_literal-not, has_literal-none}
use Rattle.ba_arena.specs.Clauses.{Clauses, lits_at}
use Rattle.ba_watch.specs.Trails.{same_sign, value_of, trail_index, decided, level_at, IsTrail}
use Rattle.ba_watch.specs.Propagation.{falsified, is_false, IsReason, HasReasons, IsGuarded, AreGuarded, AreFacts, AreUnits}
use Rattle.ba_watch.proofs.Values.{value_of-more, value_of-take, trail_index-some, trail_index-append}
use Rattle.ba_watch.proofs.Levels.{decided-append}
use Rattle.ba_watch.proofs.Swaps.{each-swap, each-from_swap}

-- the negation of a literal has the other value
pub value_of-negate : (xs : List Literal) (l : Literal) (b : Bool) → value_of xs l ≡ Some b →
    value_of xs (negate l) ≡ Some (not b)
value_of-negate [] l b has = absurd (cc has)
value_of-negate (t ∷ ts) l b has = step (eqb t.variable l.variable) t.negated l.negated (value_of ts l)
    (value_of ts (negate l)) (value_of-negate ts l b) has
  where
    turn : (s t : Bool) → same_sign s t ≡ b → same_sign s (not t) ≡ not b
    turn true t e = ap not e
    turn false true e = ap not e
    turn false false e = ap not e

    step : (c s n : Bool) (v w : Option Bool) → (v ≡ Some b → w ≡ Some (not b)) →
        cond c (Some (same_sign s n)) v ≡ Some b → cond c (Some (same_sign s (not n))) w ≡ Some (not b)
    step true s n v w rest has = let e : same_sign s n ≡ b = cc has in ap (λ (x : Bool). Some x) (turn s n e)
    step false s n v w rest has = rest has

-- a place in front stays
pub trail_index-front : (xs ys : List Literal) (x : ℕ) → trail_index (xs ++ ys) x < length xs →
    trail_index xs x ≡ trail_index (xs ++ ys) x
trail_index-front [] ys x within = absurd (omega arith)
trail_index-front (t ∷ ts) ys x within = step (eqb t.variable x) (trail_index ts x) (trail_index (ts ++ ys) x)
    (length ts) (trail_index-front ts ys x) within
  where
    step : (c : Bool) (p q n : ℕ) → (q < n → p ≡ q) → cond c 0 (suc q) < suc n →
        cond c 0 (suc p) ≡ cond c 0 (suc q)
    step true p q n rest h = refl
    step false p q n rest h = ap suc (rest (omega arith))

level_at-append : (R S : List (Option ℕ)) (p : ℕ) → p < length R → level_at (R ++ S) p ≡ level_at R p
level_at-append R S p within = ap decided (take-append-le (p + 1) R S (omega arith))

pub IsGuarded-append : (T U : List Literal) (R S : List (Option ℕ)) (h : ℕ) (a b : Literal) →
    length R ≡ length T → h ≤ length T → IsGuarded T R h a b → IsGuarded (T ++ U) (R ++ S) h a b
IsGuarded-append T U R S h a b len le g a_false a_before =
    let p_is : trail_index T a.variable ≡ trail_index (T ++ U) a.variable =
    trail_index-front T U a.variable (omega arith) in
    let front : value_of T a ≡ Some false =
    ap (λ (ys : List Literal). value_of ys a) (sym (take_at T U (length T) refl))
    ∙ (value_of-take (length T) (T ++ U) a (omega arith) ∙ a_false) in
    let old = g front (omega arith) in
    let b_in : trail_index T b.variable < length T = trail_index-some T b true old.0 in
    let b_is : trail_index (T ++ U) b.variable ≡ trail_index T b.variable =
    trail_index-append T U b.variable b_in in
    let a_in : trail_index T a.variable < length T = omega arith in (
      value_of-more T U b true old.0,
      omega (
        arith,
        old.1,
        ap (level_at (R ++ S)) b_is,
        ap (level_at (R ++ S)) p_is,
        level_at-append R S
            (trail_index T b.variable) (omega arith),
        level_at-append R S (trail_index T a.variable) (omega arith),
      ),
    )

pub AreGuarded-append : (L : ℕ → List Literal) (T U : List Literal) (R S : List (Option ℕ)) (h : ℕ) →
    length R ≡ length T → h ≤ length T → AreGuarded L T R h → AreGuarded L (T ++ U) (R ++ S) h
AreGuarded-append L T U R S h len le g = record {
  first = λ r long. IsGuarded-append T U R S h (lit_at (L r) 0) (lit_at (L r) 1) len le (g.first r long);
  second = λ r long. IsGuarded-append T U R S h (lit_at (L r) 1) (lit_at (L r) 0) len le (g.second r long);
}

-- the reasons, with one more
pub HasReasons-push : (L : ℕ → List Literal) (T : List Literal) (R : List (Option ℕ)) (t : Literal)
    (x : Option ℕ) → length R ≡ length T → HasReasons L T R → ((r : ℕ) → x ≡ Some r → IsReason (L r) T t) →
    HasReasons L (T ++ t ∷ []) (R ++ x ∷ [])
HasReasons-push L T R t x len old new p r p_in reason = ⊎_elim
    (λ below.
    let was : get_or R p None ≡ Some r = sym (get_or_append_left R (x ∷ []) None p (omega arith)) ∙ reason in
    subst (λ (ys : List Literal). IsReason (L r) ys (lit_at (T ++ t ∷ []) p))
    (sym (take-append-le p T (t ∷ []) (omega arith)))
    (subst (λ (l : Literal). IsReason (L r) (take p T) l)
    (sym (get_or_append_left T (t ∷ []) no_literal p below)) (old p r below was)))
    (λ above.
    let p_is : length T ≡ p = omega (arith, above, p_in, length_push T t) in
    let is : x ≡ Some r = sym (get_or_push R x None p (omega arith)) ∙ reason in
    subst (λ (ys : List Literal). IsReason (L r) ys (lit_at (T ++ t ∷ []) p))
    (sym (take_at T (t ∷ []) p p_is))
    (subst (λ (l : Literal). IsReason (L r) T l) (sym (get_or_push T t no_literal p p_is)) (new r is)))
    (cases_lt p (length T))

decided-some : (x : Option ℕ) (r : ℕ) → x ≡ Some r → decided (x ∷ []) ≡ 0
decided-some x r e = ap (λ (o : Option ℕ). decided (o ∷ [])) e

present-push : (R : List (Option ℕ)) (x : Option ℕ) (h : ℕ) → h ≤ length R → decided (drop (suc h) R) ≡ 0 →
    (h < length R → decided (x ∷ []) ≡ 0) → decided (drop (suc h) (R ++ x ∷ [])) ≡ 0
present-push R x h le old new = ⊎_elim
    (λ below. ap decided (drop-append-le (suc h) R (x ∷ []) (omega arith))
    ∙ (decided-append (drop (suc h) R) (x ∷ []) ∙ omega (arith, old, new below)))
    (λ above. ap decided (drop_all (suc h) (R ++ x ∷ []) (omega (arith, length_push R x))))
    (cases_lt h (length R))

-- a literal is put on the trail: with a reason, or as a decision if propagation has come to the end
pub AreFacts-push : (L : ℕ → List Literal) (v : ℕ) (T : List Literal) (R : List (Option ℕ)) (h : ℕ)
    (t : Literal) (x : Option ℕ) → AreFacts L v T R h → IsTrail v (T ++ t ∷ []) (R ++ x ∷ [])
    → ((r : ℕ) → x ≡ Some r → IsReason (L r) T t) → (h < length T → decided (x ∷ []) ≡ 0) →
    AreFacts L v (T ++ t ∷ []) (R ++ x ∷ []) h
AreFacts-push L v T R h t x f trail reason present =
    let len : length R ≡ length T = f.trail_is.same_length in
    record {
      trail_is = trail;
      head_le = omega (arith, f.head_le, length_push T t);
      present = present-push R x h (omega (arith, f.head_le, len)) f.present
          (λ below. present (omega (arith, below, len)));
      guarded = AreGuarded-append L T (t ∷ []) R (x ∷ []) h len f.head_le f.guarded;
      reasons_are = HasReasons-push L T R t x len f.reasons_are reason;
      in_range = f.in_range;
    }

-- true literals of level 0 stay so
pub AreUnits-push : (a : Clauses) (T U : List Literal) (R S : List (Option ℕ)) (waiting : List ℕ) →
    length R ≡ length T → AreUnits a T R waiting → AreUnits a (T ++ U) (R ++ S) waiting
AreUnits-push a T U R S waiting len u = record {
  one = u.one;
  true_ = λ r live short none. value_of-more T U (lit_at (lits_at a r) 0) true (u.true_ r live short none);
  level = λ r live short none.
      let l : Literal = lit_at (lits_at a r) 0 in
      let within : trail_index T l.variable < length T =
      trail_index-some T l true (u.true_ r live short none) in
      ap (level_at (R ++ S)) (trail_index-append T U l.variable within)
      ∙ (level_at-append R S (trail_index T l.variable) (omega arith) ∙ u.level r live short none);
  live = u.live;
  short = u.short;
}

pub has_literal-swap : (l : Literal) (xs : List Literal) (a b : ℕ) → a < length xs → b < length xs →
    has_literal l xs ≡ true → has_literal l (swap xs a b) ≡ true
has_literal-swap l xs a b a_in b_in has = step (has_literal l (swap xs a b)) refl
  where
    step : (c : Bool) → has_literal l (swap xs a b) ≡ c → has_literal l (swap xs a b) ≡ true
    step true e = e
    step false e =
        let none = has_literal-not l xs (each-from_swap (λ (x : Literal). index_of x ≢ index_of l) xs a b
        a_in b_in (has_literal-none l (swap xs a b) e)) in
        absurd (cc (has, none))

pub IsReason-swap : (xs T : List Literal) (l : Literal) (a b : ℕ) → a < length xs → b < length xs →
    IsReason xs T l → IsReason (swap xs a b) T l
IsReason-swap xs T l a b a_in b_in r = record {
  has = has_literal-swap l xs a b a_in b_in r.has;
  others = each-swap (λ (x : Literal). index_of x ≢ index_of l →
      value_of T x ≡ Some false) xs a b a_in b_in r.others;
}

-- a clause all of whose literals are false is false
pub is_false-all : (value : Literal → Option Bool) (xs : List Literal) →
    ((k : ℕ) → k < length xs → value (lit_at xs k) ≡ Some false) → is_false value xs ≡ true
is_false-all value [] all = refl
is_false-all value (x ∷ xs) all = step (value x) (is_false value xs) (all 0 (omega arith))
    (is_false-all value xs (λ k k_in. all (suc k) (omega arith)))
  where
    step : (v : Option Bool) (b : Bool) → v ≡ Some false → b ≡ true → (falsified v && b) ≡ true
    step v b e f = ap (λ (w : Option Bool). falsified w && b) e ∙ f
