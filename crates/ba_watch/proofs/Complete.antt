-- Propagation that has come to its end is complete.

use Rattle.std.proofs.Common.{◌≡◌, ℕ, suc, ◌+◌, ◌*◌, ◌<◌, ◌≤◌, Bool, true, false, not, ◌&&◌, Option, None, Some, List, [], ◌∷◌, length, take, drop, cond, refl, sym, ap, ◌∙◌, arith, ⊎_elim}
use Rattle.std.proofs.lemmas.Bool.{cases_lt}
use Rattle.ba_lits.specs.Literals.{Literal, negate, index_of, lit_at}
use Rattle.ba_arena.specs.Clauses.{Clauses, IsLive, lits_at}
use Rattle.ba_watch.specs.Threads.{plain_at}
use Rattle.ba_watch.specs.Trails.{Assignments, same_sign, value_of, trail_index, decided, level_at}
use Rattle.ba_watch.specs.Propagation.{falsified, is_false, unit_step, is_unit, IsGuarded, AreFacts, AreUnits, IsVisiting, AreVisited, VisitsSome, IsUnderway, Propagates}
use Rattle.ba_watch.proofs.Values.{value_of-place, value_of-take, value_of-take_none, trail_index-some, lit_at-place, same_sign_false}
use Rattle.ba_watch.proofs.Levels.{decided-take_drop, decided-take-le}
use Rattle.ba_watch.proofs.Visits.{SameClause-refl, SameClause-trans, Begins-refl, Begins-trans}

-- the list of a literal at the head begins to be visited
pub Visiting-start : (L : ℕ → List Literal) (v : ℕ) (T : List Literal) (R : List (Option ℕ)) (h f : ℕ)
    (l : Literal) → AreFacts L v T R h → h < length T → l ≡ negate (lit_at T h) → f ≡ index_of l →
    IsVisiting L v T R h f
Visiting-start L v T R h f l facts inside l_is f_is =
    record { facts = facts; inside = inside; visited_is = f_is ∙ ap index_of l_is }

decided-le : (n : ℕ) (R : List (Option ℕ)) → decided (take n R) ≤ decided R
decided-le n R = omega (arith, decided-take_drop n R)

-- a guard at one place more
IsGuarded-next : (L : ℕ → List Literal) (v : ℕ) (T : List Literal) (R : List (Option ℕ)) (h f : ℕ)
    (a b : Literal) → IsVisiting L v T R h f → IsGuarded T R h a b →
    (index_of a ≡ f → value_of T b ≡ Some true) → IsGuarded T R (h + 1) a b
IsGuarded-next L v T R h f a b s g visited a_false before = ⊎_elim
    (λ below. g a_false below)
    (λ above.
    let at : trail_index T a.variable ≡ h = omega (arith, above, before) in
    let within : trail_index T a.variable < length T = trail_index-some T a false a_false in
    let var : (lit_at T h).variable ≡ a.variable = ap (λ (p : ℕ). (lit_at T p).variable) (sym at)
    ∙ lit_at-place T a.variable within in
    let sign : same_sign (lit_at T h).negated a.negated ≡ false =
    ap (λ (p : ℕ). same_sign (lit_at T p).negated a.negated) (sym at)
    ∙ some_is _ false (sym (value_of-place T a within) ∙ a_false) in
    let neg : a.negated ≡ not (lit_at T h).negated = same_sign_false (lit_at T h).negated a.negated sign in
    let is : index_of a ≡ f = index_same a (lit_at T h) (sym var) neg ∙ sym s.visited_is in
    let b_true : value_of T b ≡ Some true = visited is in
    let total = decided-take_drop (h + 1) R in
    let rest : decided (drop (h + 1) R) ≡ 0 = ap (λ (k : ℕ). decided (drop k R)) (plus_one h)
    ∙ s.facts.present in
    (b_true, omega (arith, decided-le (trail_index T b.variable + 1) R, total, rest, ap (level_at R) at)))
    (cases_lt (trail_index T a.variable) h)
  where
    some_is : (x y : Bool) → Some x ≡ Some y → x ≡ y
    some_is x y e = cc e

    plus_one : (n : ℕ) → n + 1 ≡ suc n
    plus_one n = omega arith

    index_same : (x y : Literal) → x.variable ≡ y.variable → x.negated ≡ not y.negated →
        index_of x ≡ index_of (negate y)
    index_same x y e n = ap (λ (m : ℕ). 2 * m + cond x.negated 1 0) e
        ∙ ap (λ (c : Bool). 2 * y.variable + cond c 1 0) n

-- the list was visited: propagation goes on to the next place
pub AreFacts-next : (L : ℕ → List Literal) (v : ℕ) (T : List Literal) (R : List (Option ℕ)) (h f : ℕ) →
    IsVisiting L v T R h f → AreVisited L T f [] → AreFacts L v T R (h + 1)
AreFacts-next L v T R h f s visited = record {
  trail_is = s.facts.trail_is;
  head_le = omega (arith, s.inside);
  present = omega (arith, decided-drop h R, s.facts.present);
  guarded = record {
    first = λ r long. IsGuarded-next L v T R h f (lit_at (L r) 0) (lit_at (L r) 1) s
        (s.facts.guarded.first r long) (visited.first r long refl);
    second = λ r long. IsGuarded-next L v T R h f (lit_at (L r) 1) (lit_at (L r) 0) s
        (s.facts.guarded.second r long) (visited.second r long refl);
  };
  reasons_are = s.facts.reasons_are;
  in_range = s.facts.in_range;
}
  where
    decided-drop : (n : ℕ) (R : List (Option ℕ)) → decided (drop (suc (n + 1)) R) ≤ decided (drop (suc n) R)
    decided-drop n R = omega (
      arith,
      decided-take_drop (suc (n + 1)) R,
      decided-take_drop (suc n) R,
      decided-take-le (suc n) (suc (n + 1)) R (omega arith),
    )

-- from one list to all
pub Propagates-none : (a : Clauses) (t : Assignments) → Propagates a a t t
Propagates-none a t = record {
  clauses = λ k. SameClause-refl (plain_at a k);
  variables = refl;
  trail = Begins-refl t.lits;
  reasons = Begins-refl t.reasons;
  level = refl;
  units = λ w u. u;
}

pub Propagates-literal : (a b c : Clauses) (t u w : Assignments) (f : ℕ) → Propagates a b t u →
    VisitsSome b c u w f → Propagates a c t w
Propagates-literal a b c t u w f s r = record {
  clauses = λ k. SameClause-trans (plain_at a k) (plain_at b k) (plain_at c k) (s.clauses k) (r.clauses k);
  variables = r.variables ∙ s.variables;
  trail = Begins-trans t.lits u.lits w.lits s.trail r.trail;
  reasons = Begins-trans t.reasons u.reasons w.reasons s.reasons r.reasons;
  level = r.level ∙ s.level;
  units = λ x h. r.units x (s.units x h);
}

-- places from one on have higher levels than those before it, and a level of at least 1
pub record IsBoundary (R : List (Option ℕ)) (n m : ℕ) : Type 0 where
  pub le : m ≤ n
  pub higher : (p q : ℕ) → p < m → m ≤ q → q < n → level_at R p < level_at R q
  pub decided_ : (q : ℕ) → m ≤ q → q < n → 0 < level_at R q

-- under the front of the trail up to a boundary, a false watched literal's other one is true
front_guard : (T : List Literal) (R : List (Option ℕ)) (h m : ℕ) (a b : Literal) →
    IsBoundary R (length T) m → m ≤ h → IsGuarded T R h a b → value_of (take m T) a ≡ Some false →
    value_of (take m T) b ≡ Some true
front_guard T R h m a b bound le g a_false =
    let a_in : trail_index T a.variable < m = ⊎_elim (λ below. below)
    (λ above. absurd (clash (sym a_false ∙ value_of-take_none m T a above)))
    (cases_lt (trail_index T a.variable) m) in
    let old = g (sym (value_of-take m T a a_in) ∙ a_false) (omega arith) in
    let b_in : trail_index T b.variable < m = ⊎_elim (λ below. below)
    (λ above. absurd (omega (
      arith,
      old.1,
      bound.higher (trail_index T a.variable) (trail_index T b.variable) a_in
          above (trail_index-some T b true old.0),
    ))) (cases_lt (trail_index T b.variable) m) in
    value_of-take m T b b_in ∙ old.0
  where
    clash : {x : Bool} → Some x ≡ None → ⊥
    clash e = cc e

-- a clause whose watched literals guard each other is neither false nor unit
open_clause : (value : Literal → Option Bool) (x y : Literal) (zs : List Literal) →
    (value x ≡ Some false → value y ≡ Some true) → (value y ≡ Some false → value x ≡ Some true)
    → (is_false value (x ∷ y ∷ zs) ≡ false) × (is_unit value (x ∷ y ∷ zs) ≡ false)
open_clause value x y zs f g = by (value x) (value y) (is_false value zs) (is_unit value zs) f g
  where
    by : (v w : Option Bool) (b c : Bool) → (v ≡ Some false → w ≡ Some true) →
        (w ≡ Some false → v ≡ Some true)
        → ((falsified v && (falsified w && b)) ≡ false)
        × (unit_step v (falsified w && b) (unit_step w b c) ≡ false)
    by None None b c f g = (refl, refl)
    by None (Some true) b c f g = (refl, refl)
    by None (Some false) b c f g = absurd (cc (g refl))
    by (Some true) w b c f g = (refl, refl)
    by (Some false) None b c f g = absurd (cc (f refl))
    by (Some false) (Some true) b c f g = (refl, refl)
    by (Some false) (Some false) b c f g = absurd (cc (f refl))

long_clause : (value : Literal → Option Bool) (xs : List Literal) → 2 ≤ length xs →
    (value (lit_at xs 0) ≡ Some false → value (lit_at xs 1) ≡ Some true) →
    (value (lit_at xs 1) ≡ Some false → value (lit_at xs 0) ≡ Some true)
    → (is_false value xs ≡ false) × (is_unit value xs ≡ false)
long_clause value [] long f g = absurd (omega arith)
long_clause value (x ∷ []) long f g = absurd (omega arith)
long_clause value (x ∷ y ∷ zs) long f g = open_clause value x y zs f g

-- a clause of one literal that is true is neither
short_clause : (value : Literal → Option Bool) (xs : List Literal) → length xs ≡ 1 →
    value (lit_at xs 0) ≡ Some true → (is_false value xs ≡ false) × (is_unit value xs ≡ false)
short_clause value [] len e = absurd (omega arith)
short_clause value (x ∷ []) len e = by (value x) e
  where
    by : (v : Option Bool) → v ≡ Some true → ((falsified v && true) ≡ false)
        × (unit_step v true false ≡ false)
    by None e = absurd (cc e)
    by (Some true) e = (refl, refl)
    by (Some false) e = absurd (cc e)
short_clause value (x ∷ y ∷ zs) len e = absurd (omega arith)

-- no live clause is false or unit under the front of the trail up to a boundary that propagation has reached
pub complete_at : (a : Clauses) (v : ℕ) (T : List Literal) (R : List (Option ℕ)) (h m : ℕ) →
    AreFacts (lits_at a) v T R h → AreUnits a T R [] → IsBoundary R (length T) m → m ≤ h → (r : ℕ) →
    IsLive a r
    → (is_false (value_of (take m T)) (lits_at a r) ≡ false)
    × (is_unit (value_of (take m T)) (lits_at a r) ≡ false)
complete_at a v T R h m facts units bound le r live = ⊎_elim
    (λ short.
    let l : Literal = lit_at (lits_at a r) 0 in
    let is_true : value_of T l ≡ Some true = units.true_ r live short refl in
    let within : trail_index T l.variable < m = ⊎_elim (λ below. below)
    (λ above. absurd (omega (
      arith,
      units.level r live short refl,
      bound.decided_ (trail_index T l.variable)
          above (trail_index-some T l true is_true),
    ))) (cases_lt (trail_index T l.variable) m) in
    short_clause (value_of (take m T)) (lits_at a r) (units.one r live short refl)
    (value_of-take m T l within ∙ is_true))
    (λ long. long_clause (value_of (take m T)) (lits_at a r) long
    (front_guard T R h m (lit_at (lits_at a r) 0) (lit_at (lits_at a r) 1) bound le
    (facts.guarded.first r long))
    (front_guard T R h m (lit_at (lits_at a r) 1) (lit_at (lits_at a r) 0) bound le
    (facts.guarded.second r long)))
    (cases_lt (length (lits_at a r)) 2)

-- the end of the trail is a boundary, and so is each decision
pub IsBoundary-end : (R : List (Option ℕ)) (n : ℕ) → IsBoundary R n n
IsBoundary-end R n = record {
  le = omega arith;
  higher = λ p q p_in above below. absurd (omega arith);
  decided_ = λ q above below. absurd (omega arith);
}

-- a turn of propagation: the list of the literal at the head was visited
module _ (start a a' : Clauses) (t u w : Assignments) (h f : ℕ) (conflict : Option ℕ)
    (s : IsVisiting (lits_at a) u.variables u.lits u.reasons h f) (way : IsUnderway a a' u w f [] conflict)
  where
    pub turn_conflict : (r : ℕ) → conflict ≡ Some r →
        AreFacts (lits_at a') w.variables w.lits w.reasons h
        × (IsLive a' r × (is_false (value_of w.lits) (lits_at a' r) ≡ true))
    turn_conflict r e = ((way.steps.visiting h s).facts, (way.live r e, way.failed r e h s))

    pub turn_facts : AreFacts (lits_at a') w.variables w.lits w.reasons h
    turn_facts = (way.steps.visiting h s).facts

    pub turn_next : conflict ≡ None → AreFacts (lits_at a') w.variables w.lits w.reasons (h + 1)
    turn_next e = AreFacts-next (lits_at a') w.variables w.lits w.reasons h f (way.steps.visiting h s)
        (way.passed e h s)

    pub turn_propagates : Propagates start a t u → Propagates start a' t w
    turn_propagates old = Propagates-literal start a a' t u w f old way.steps

-- the index of the negation of a literal on the trail has a list
pub negate_within : (v n : ℕ) (l m : Literal) (i : ℕ) → l.variable ≤ v → 2 * v + 2 ≤ n → m ≡ negate l →
    i ≡ index_of m → i < n
negate_within v n l m i le room m_is i_is = omega
    (arith, le, room, i_is, ap index_of m_is, small (not l.negated))
  where
    small : (b : Bool) → cond {A = ℕ} b 1 0 ≤ 1
    small true = omega arith
    small false = omega arith
