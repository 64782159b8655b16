-- The facts of a watch when a clause is added.

use Rattle.std.proofs.Common.{◌≡◌, ◌≢◌, ℕ, suc, ◌+◌, ◌<◌, ◌≤◌, min, max, Bool, true, false, Option, None, Some, is_some, List, [], ◌∷◌, ◌++◌, length, take, drop, eqb, cond, refl, sym, ap, subst, ◌∙◌, arith, ◌⊎◌, ⊎_elim}
use Rattle.std.proofs.lemmas.Bool.{cases_eq, cases_lt, false≢true}
use Rattle.std.proofs.lemmas.Bool.Decides.{nat_tests}
use Rattle.std.specs.List.{swap}
use Rattle.std.specs.List.Sorted.{IsPermutation}
use Rattle.std.proofs.lemmas.List.Sorted.{IsPermutation-swap, IsPermutation-trans}
use Rattle.std.proofs.lemmas.List.Edits.{length-swap}
use Rattle.ba_lits.specs.Literals.{Literal, lit_at}
use Rattle.ba_lits.specs.Hints.{has_literal}
use Rattle.ba_arena.specs.Clauses.{Clauses, IsLive, clause_at, lits_at}
use Rattle.ba_watch.specs.Chains.{occurrences}
use Rattle.ba_watch.specs.Threads.{Clause, AddsPlain}
use Rattle.ba_watch.specs.Trails.{Assignments, value_of, trail_index, trail_index_if, decided, level_at}
use Rattle.ba_watch.specs.Propagation.{State, plain_lits, SameClause, falsified, IsReason, IsGuarded, AreFacts, AreUnits, IsSound, AddsClause, IsAsserting, rank_of}
use Rattle.ba_watch.proofs.Values.{trail_index-some, trail_index-le}
use Rattle.ba_watch.proofs.Levels.{decided-take_drop, decided-take-le}
use Rattle.ba_watch.proofs.Swaps.{each-swap, lit_at-swap_first, lit_at-swap_other}
use Rattle.ba_watch.proofs.TrailSteps.{placed}
use Rattle.ba_watch.proofs.Visits.{lits-plain, lits-same, some-plain}
use Rattle.ba_watch.proofs.Sounds.{state, clause_in-map}

-- ranks
pub rank-false : (T : List Literal) (l : Literal) → value_of T l ≡ Some false →
    rank_of T l ≡ trail_index T l.variable
rank-false T l e = ap (λ (v : Option Bool). cond (falsified v) (trail_index T l.variable) (length T)) e

pub rank-none : (T : List Literal) (l : Literal) → value_of T l ≡ None → rank_of T l ≡ length T
rank-none T l e = ap (λ (v : Option Bool). cond (falsified v) (trail_index T l.variable) (length T)) e

pub rank_placed : (T : List Literal) (l : Literal) → value_of T l ≡ Some false →
    None ≡ trail_index_if T l.variable → ⊥
rank_placed T l e none = clash (none ∙ placed T l.variable (trail_index T l.variable)
    (trail_index-some T l false e) refl)
  where
    clash : {n : ℕ} → None ≡ Some n → ⊥
    clash e = cc e

-- a literal whose rank isn't before the head needs no guard
guard_late : (T : List Literal) (R : List (Option ℕ)) (h : ℕ) (a b : Literal) → h ≤ rank_of T a →
    IsGuarded T R h a b
guard_late T R h a b late a_false before = absurd (omega (arith, late, rank-false T a a_false, before))

guard_less : (T : List Literal) (R : List (Option ℕ)) (h k : ℕ) (a b : Literal) → k ≤ h →
    IsGuarded T R h a b → IsGuarded T R k a b
guard_less T R h k a b le g a_false before = g a_false (omega arith)

module _ (a a' : Clauses) (r : ℕ) (lits : List Literal) (number : ℕ) (adds : AddsPlain a a' r lits number)
  where
    new_lits : lits_at a' r ≡ lits
    new_lits = lits-plain a' r ∙ ap plain_lits adds.there

    old_lits : (k : ℕ) → k ≢ r → lits_at a' k ≡ lits_at a k
    old_lits k ne = lits-same a a' k (adds.others k ne)

    old_live : (k : ℕ) → k ≢ r → is_some (clause_at a' k) ≡ is_some (clause_at a k)
    old_live k ne = some-plain a' k ∙ (ap is_some (adds.others k ne) ∙ sym (some-plain a k))

    not_live : IsLive a r → ⊥
    not_live live = false≢true (sym (ap is_some adds.fresh) ∙ (sym (some-plain a r) ∙ live))

    no_lits : lits_at a r ≡ []
    no_lits = lits-plain a r ∙ ap plain_lits adds.fresh

    each_clause : (P : List Literal → Type 0) → (k : ℕ) → P (lits_at a k) → P lits → P (lits_at a' k)
    each_clause P k old new = ⊎_elim
        (λ e. subst (λ (m : ℕ). P (lits_at a' m)) (sym e) (subst P (sym new_lits) new))
        (λ ne. subst P (sym (old_lits k ne)) old)
        (cases_eq k r)

    added_facts : (v : ℕ) (T : List Literal) (R : List (Option ℕ)) (h k : ℕ) → AreFacts (lits_at a) v T R h →
        k ≤ h → decided (drop (suc k) R) ≡ 0 → ((j : ℕ) → j < length lits → (lit_at lits j).variable ≤ v)
        → (2 ≤ length lits → IsGuarded T R k (lit_at lits 0) (lit_at lits 1)) →
        (2 ≤ length lits → IsGuarded T R k (lit_at lits 1) (lit_at lits 0)) → AreFacts (lits_at a') v T R k
    added_facts v T R h k facts le present range first second = record {
      trail_is = facts.trail_is;
      head_le = omega (arith, facts.head_le);
      present = present;
      guarded = record {
        first = λ c long. each_clause (λ ls. 2 ≤ length ls →
            IsGuarded T R k (lit_at ls 0) (lit_at ls 1)) c
            (λ long'. guard_less T R h k (lit_at (lits_at a c) 0) (lit_at (lits_at a c) 1) le
            (facts.guarded.first c long')) first long;
        second = λ c long. each_clause (λ ls. 2 ≤ length ls →
            IsGuarded T R k (lit_at ls 1) (lit_at ls 0)) c
            (λ long'. guard_less T R h k (lit_at (lits_at a c) 1) (lit_at (lits_at a c) 0) le
            (facts.guarded.second c long')) second long;
      };
      reasons_are = λ p c p_in is.
          let old : IsReason (lits_at a c) (take p T) (lit_at T p) = facts.reasons_are p c p_in is in
          let ne : c ≢ r = λ e. false≢true (sym (ap (has_literal (lit_at T p)) (ap (lits_at a) e ∙ no_lits))
          ∙ old.has) in
          subst (λ (ls : List Literal). IsReason ls (take p T) (lit_at T p)) (sym (old_lits c ne)) old;
      in_range = λ c. each_clause (λ ls. (j : ℕ) → j < length ls →
          (lit_at ls j).variable ≤ v) c (facts.in_range c) range;
    }

    -- a long clause doesn't wait
    long_units : (T : List Literal) (R : List (Option ℕ)) (w : List ℕ) → AreUnits a T R w → 2 ≤ length lits →
        AreUnits a' T R w
    long_units T R w u long =
        let other : (k : ℕ) → length (lits_at a' k) < 2 → k ≢ r =
        λ k short e. absurd (omega (arith, short, ap length (ap (lits_at a') e ∙ new_lits), long)) in
        let old_one : (k : ℕ) → IsLive a k → k ≢ r = λ k live e. not_live
        (subst (λ (m : ℕ). IsLive a m) e live) in
        record {
          one = λ k live short none. let ne = other k short in ap length (old_lits k ne)
              ∙ u.one k (sym (old_live k ne) ∙ live) (omega (arith, short, ap length (old_lits k ne))) none;
          true_ = λ k live short none. let ne = other k short in
              ap (λ (ls : List Literal). value_of T (lit_at ls 0)) (old_lits k ne)
              ∙ u.true_ k (sym (old_live k ne) ∙ live) (omega (arith, short, ap length (old_lits k ne))) none;
          level = λ k live short none. let ne = other k short in
              ap (λ (ls : List Literal). level_at R (trail_index T (lit_at ls 0).variable)) (old_lits k ne)
              ∙ u.level k (sym (old_live k ne) ∙ live) (omega (arith, short, ap length (old_lits k ne))) none;
          live = λ k some. old_live k (old_one k (u.live k some)) ∙ u.live k some;
          short = λ k some. omega (arith, u.short k some, ap length (old_lits k (old_one k (u.live k some))));
        }

    -- a short one waits
    short_units : (T : List Literal) (R : List (Option ℕ)) (w : List ℕ) → AreUnits a T R w → length lits < 2 →
        AreUnits a' T R (w ++ r ∷ [])
    short_units T R w u short_lits =
        let count : (k : ℕ) → occurrences k (w ++ r ∷ []) ≡ occurrences k w + cond {A = ℕ} (eqb r k) 1 0 =
        λ k. occurrences-push k w r in
        let other : (k : ℕ) → occurrences k (w ++ r ∷ []) ≡ 0 → k ≢ r =
        λ k none e. ends k r (occurrences k w) (sym (count k) ∙ none) e in
        let fewer : (k : ℕ) → occurrences k (w ++ r ∷ []) ≡ 0 → occurrences k w ≡ 0 =
        λ k none. omega (arith, count k, none) in
        let old_one : (k : ℕ) → IsLive a k → k ≢ r = λ k live e. not_live
        (subst (λ (m : ℕ). IsLive a m) e live) in
        record {
          one = λ k live short none. let ne = other k none in ap length (old_lits k ne)
              ∙ u.one k (sym (old_live k ne) ∙ live) (omega (arith, short, ap length (old_lits k ne)))
              (fewer k none);
          true_ = λ k live short none. let ne = other k none in
              ap (λ (ls : List Literal). value_of T (lit_at ls 0)) (old_lits k ne)
              ∙ u.true_ k (sym (old_live k ne) ∙ live) (omega (arith, short, ap length (old_lits k ne)))
              (fewer k none);
          level = λ k live short none. let ne = other k none in
              ap (λ (ls : List Literal). level_at R (trail_index T (lit_at ls 0).variable)) (old_lits k ne)
              ∙ u.level k (sym (old_live k ne) ∙ live) (omega (arith, short, ap length (old_lits k ne)))
              (fewer k none);
          live = λ k some. ⊎_elim
              (λ e. subst (λ (m : ℕ). IsLive a' m) (sym e) (some-plain a' r ∙ ap is_some adds.there))
              (λ ne. let was : 0 < occurrences k w = kept_some k r (occurrences k w) ne
              (omega (arith, some, count k)) in old_live k ne ∙ u.live k was)
              (cases_eq k r);
          short = λ k some. ⊎_elim
              (λ e. subst (λ (m : ℕ). length (lits_at a' m) < 2) (sym e)
              (omega (arith, ap length new_lits, short_lits)))
              (λ ne. let was : 0 < occurrences k w = kept_some k r (occurrences k w) ne
              (omega (arith, some, count k)) in omega (arith, u.short k was, ap length (old_lits k ne)))
              (cases_eq k r);
        }
      where
        occurrences-push : (k : ℕ) (xs : List ℕ) (x : ℕ) →
            occurrences k (xs ++ x ∷ []) ≡ occurrences k xs + cond {A = ℕ} (eqb x k) 1 0
        occurrences-push k [] x = omega arith
        occurrences-push k (y ∷ ys) x = ap (λ (n : ℕ). cond {A = ℕ} (eqb y k) 1 0 + n)
            (occurrences-push k ys x) ∙ omega arith

        ends : (k r n : ℕ) → n + cond {A = ℕ} (eqb r k) 1 0 ≡ 0 → k ≡ r → ⊥
        ends k r n e is = grind (arith, nat_tests)

        kept_some : (k r n : ℕ) → k ≢ r → 0 < n + cond {A = ℕ} (eqb r k) 1 0 → 0 < n
        kept_some k r n ne h = grind (arith, nat_tests)

    -- as contracts see it
    pub added_state : (t : Assignments) (s : Bool) (given : List Literal) → IsPermutation given lits →
        AddsClause (state a t s) (state a' t false) r given number
    added_state t s given permuted = record {
      fresh = clause_in-map a r ∙ adds.fresh;
      there = subst (λ (o : Option Clause). SameClause (Some (record { lits = given; number = number })) o)
          (sym (clause_in-map a' r ∙ adds.there)) (refl, permuted);
      others = λ k ne. clause_in-map a' k ∙ (adds.others k ne ∙ sym (clause_in-map a k));
      variables = refl;
      trail = refl;
      reasons = refl;
      settled = refl;
    }

    pub Sound-short : (n n' : ℕ) (p p' : Option ℕ) (v : ℕ) (T : List Literal) (R : List (Option ℕ)) (h : ℕ)
        (w w' : List ℕ) (s : Bool) → IsSound a n p v T R h w s → p' ≡ None → n' ≡ n → length lits < 2 →
        ((j : ℕ) → j < length lits → (lit_at lits j).variable ≤ v) → decided R ≡ 0 → w' ≡ w ++ r ∷ []
        → IsSound a' n' p' v T R h w' false
    Sound-short n n' p p' v T R h w w' s x idle same short range level w_is = record {
      facts = added_facts v T R h h x.facts (omega arith) x.facts.present range (λ long. absurd (omega arith))
          (λ long. absurd (omega arith));
      units = subst (λ (y : List ℕ). AreUnits a' T R y) (sym w_is) (short_units T R w x.units short);
      idle = idle;
      room = λ some. omega (arith, x.room some, same);
      raised = λ some. absurd (omega (arith, some, level));
      settled_head = λ e. absurd (cc e);
      settled_waiting = λ e. absurd (cc e);
    }

    pub Sound-long : (n n' : ℕ) (p p' : Option ℕ) (v : ℕ) (T : List Literal) (R : List (Option ℕ)) (h k : ℕ)
        (w : List ℕ) (s : Bool) → IsSound a n p v T R h w s → p' ≡ None → n' ≡ n → 2 ≤ length lits →
        ((j : ℕ) → j < length lits → (lit_at lits j).variable ≤ v)
        → k ≤ h → decided (drop (suc k) R) ≡ 0 → k ≤ rank_of T (lit_at lits 0) →
        k ≤ rank_of T (lit_at lits 1) → IsSound a' n' p' v T R k w false
    Sound-long n n' p p' v T R h k w s x idle same long range le present first second = record {
      facts = added_facts v T R h k x.facts le present range
          (λ _. guard_late T R k (lit_at lits 0) (lit_at lits 1) first)
          (λ _. guard_late T R k (lit_at lits 1) (lit_at lits 0) second);
      units = long_units T R w x.units long;
      idle = idle;
      room = λ some. omega (arith, x.room some, same);
      raised = x.raised;
      settled_head = λ e. absurd (cc e);
      settled_waiting = λ e. absurd (cc e);
    }

-- the head stays in the present level
pub present_long : (s : State) (lits : List Literal) (h first second : ℕ) →
    length s.reasons ≡ length s.trail → h ≤ length s.trail → decided (drop (suc h) s.reasons) ≡ 0
    → (decided s.reasons ≡ 0) ⊎ IsAsserting s lits
    → ((k : ℕ) → k < length lits → rank_of s.trail (lit_at lits k) ≤ rank_of s.trail (lit_at lits first))
    → ((k : ℕ) → k < length lits → k ≢ first → rank_of s.trail (lit_at lits k) ≤ rank_of s.trail
    (lit_at lits second))
    → first < length lits
    → decided (drop (suc (min h (rank_of s.trail (lit_at lits second)))) s.reasons) ≡ 0
present_long s lits h first second len h_le present ground' first_latest second_latest first_in = ⊎_elim
    (λ zero_level. omega (arith, zero_level, decided-take_drop (suc (min h q)) s.reasons))
    (λ asserting. ⊎_elim
    (λ below. ap (λ (n : ℕ). decided (drop (suc n) s.reasons)) (min_left h q below) ∙ present)
    (λ above.
    let same : min h q ≡ q = min_right h q above in
    let top : rank_of s.trail (lit_at lits first) ≡ length s.trail =
    omega (
      arith,
      first_latest asserting.free asserting.free_in,
      rank-none s.trail
          (lit_at lits asserting.free) asserting.free_none,
      rank_le (lit_at lits first),
    ) in
    let is_free : first ≡ asserting.free = ⊎_elim (λ e. e)
    (λ ne. let f : value_of s.trail (lit_at lits first) ≡ Some false = asserting.others first first_in ne in
    absurd (omega (
      arith,
      top,
      rank-false s.trail (lit_at lits first) f,
      trail_index-some s.trail
          (lit_at lits first) false f,
    )))
    (cases_eq first asserting.free) in
    let apart : asserting.recent ≢ first = λ e. absurd
    (clash (sym asserting.recent_false ∙ (ap (λ (n : ℕ). value_of s.trail (lit_at lits n)) (e ∙ is_free)
    ∙ asserting.free_none))) in
    let recent : trail_index s.trail (lit_at lits asserting.recent).variable ≤ q =
    omega (
      arith,
      second_latest asserting.recent asserting.recent_in apart,
      rank-false s.trail
          (lit_at lits asserting.recent) asserting.recent_false,
    ) in
    let more = decided-take-le (trail_index s.trail (lit_at lits asserting.recent).variable + 1) (suc q)
    s.reasons (omega (arith, recent)) in
    ap (λ (n : ℕ). decided (drop (suc n) s.reasons)) same
    ∙ omega (arith, more, asserting.recent_level, decided-take_drop (suc q) s.reasons))
    (cases_lt h q))
    ground'
  where
    q : ℕ
    q = rank_of s.trail (lit_at lits second)

    min_left : (m n : ℕ) → m < n → min m n ≡ m
    min_left m n l = omega arith

    min_right : (m n : ℕ) → n ≤ m → min m n ≡ n
    min_right m n l = omega arith

    clash : {b : Bool} → Some b ≡ None → ⊥
    clash e = cc e

    rank_le : (l : Literal) → rank_of s.trail l ≤ length s.trail
    rank_le l = by (falsified (value_of s.trail l)) (trail_index s.trail l.variable) (length s.trail)
        (trail_index-le s.trail l.variable)
      where
        by : (b : Bool) (m n : ℕ) → m ≤ n → cond b m n ≤ n
        by true m n h = h
        by false m n h = omega arith

-- the first two literals of a clause whose chosen ones were exchanged with them
pub front_first : (lits : List Literal) (x y : ℕ) → x < y → y < length lits →
    lit_at (swap (swap lits 0 x) 1 y) 0 ≡ lit_at lits x
front_first lits x y order y_in =
    let len : length (swap lits 0 x) ≡ length lits = length-swap lits 0 x in
    lit_at-swap_other (swap lits 0 x) 1 y 0 (omega (arith, len)) (omega (arith, len)) (omega arith)
    (omega arith) ∙ lit_at-swap_first lits 0 x (omega arith) (omega arith)

pub front_second : (lits : List Literal) (x y : ℕ) → x < y → y < length lits →
    lit_at (swap (swap lits 0 x) 1 y) 1 ≡ lit_at lits y
front_second lits x y order y_in =
    let len : length (swap lits 0 x) ≡ length lits = length-swap lits 0 x in
    lit_at-swap_first (swap lits 0 x) 1 y (omega (arith, len)) (omega (arith, len))
    ∙ lit_at-swap_other lits 0 x y (omega arith) (omega arith) (omega arith) (omega arith)

pub front_permuted : (lits : List Literal) (x y : ℕ) → x < y → y < length lits →
    IsPermutation lits (swap (swap lits 0 x) 1 y)
front_permuted lits x y order y_in =
    let len : length (swap lits 0 x) ≡ length lits = length-swap lits 0 x in
    IsPermutation-trans lits (swap lits 0 x) (swap (swap lits 0 x) 1 y)
    (IsPermutation-swap lits _ 0 x (omega arith) (omega arith) refl)
    (IsPermutation-swap (swap lits 0 x) _ 1 y (omega (arith, len)) (omega (arith, len)) refl)

pub front_each : (P : Literal → Type 0) (lits : List Literal) (x y : ℕ) → x < y → y < length lits →
    ((k : ℕ) → k < length lits → P (lit_at lits k)) → (k : ℕ) → k < length (swap (swap lits 0 x) 1 y) →
    P (lit_at (swap (swap lits 0 x) 1 y) k)
front_each P lits x y order y_in each =
    let len : length (swap lits 0 x) ≡ length lits = length-swap lits 0 x in
    each-swap P (swap lits 0 x) 1 y (omega (arith, len)) (omega (arith, len))
    (each-swap P lits 0 x (omega arith) (omega arith) each)

pub front_length : (lits : List Literal) (x y : ℕ) → length (swap (swap lits 0 x) 1 y) ≡ length lits
front_length lits x y = length-swap (swap lits 0 x) 1 y ∙ length-swap lits 0 x

-- what holds of two places holds of the lesser and of the greater
pub of_min : (P : ℕ → Type 0) (a b : ℕ) → P a → P b → P (min a b)
of_min P a b p q = ⊎_elim (λ below. subst P (less a b below) p) (λ above. subst P (more a b above) q)
    (cases_lt a b)
  where
    less : (a b : ℕ) → a < b → a ≡ min a b
    less a b h = omega arith

    more : (a b : ℕ) → b ≤ a → b ≡ min a b
    more a b h = omega arith

pub of_max : (P : ℕ → Type 0) (a b : ℕ) → P a → P b → P (max a b)
of_max P a b p q = ⊎_elim (λ below. subst P (less a b below) q) (λ above. subst P (more a b above) p)
    (cases_lt a b)
  where
    less : (a b : ℕ) → a < b → b ≡ max a b
    less a b h = omega arith

    more : (a b : ℕ) → b ≤ a → a ≡ max a b
    more a b h = omega arith
