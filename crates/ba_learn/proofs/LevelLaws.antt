-- The clause of the first unique implication point, and the levels of its literals.

use Rattle.std.proofs.Common.{◌≡◌, ◌≢◌, ℕ, suc, zero, ◌+◌, ◌<◌, ◌≤◌, Bool, true, false, ◌&&◌, Option, None, Some, IsSome, is_some, List, [], ◌∷◌, ◌++◌, length, get_or, map, take, drop, ltb, leb, refl, sym, ap, subst, ◌∙◌, arith, ◌⊎◌, inl, inr, ⊎_elim}
use Rattle.std.proofs.lemmas.Bool.{cases_eq, cases_lt}
use Rattle.std.proofs.lemmas.Bool.Decides.{nat_tests}
use Rattle.std.proofs.lemmas.List.{get_or-drop, length-drop}
use Rattle.std.specs.List.Sorted.{IsPermutation}
use Rattle.std.proofs.lemmas.List.Elements.{All-from_get_or}
use Rattle.ba_lits.specs.Literals.{no_literal, Literal, index_of, lit_at, IsClause}
use Rattle.ba_lits.specs.Hints.{has_literal}
use Rattle.ba_lits.specs.Satisfaction.{one_if}
use Rattle.ba_watch.specs.Chains.{occurrences}
use Rattle.ba_lits.proofs.Members.{literal_found, has_literal-at}
use Rattle.ba_watch.specs.Trails.{value_of, trail_index, decided, level_at}
use Rattle.ba_watch.specs.Propagation.{State, plain_lits, clause_in, lits_in, is_false, is_unit, falsified, KeepsFacts}
use Rattle.ba_watch.proofs.Values.{value_of-take, value_of-take_none, value_of-at, trail_index-some}
use Rattle.ba_watch.proofs.Levels.{decided-take_drop, decided-take-le, decided-take_none}
use Rattle.ba_watch.proofs.Facts.{is_false-all, value_of-negate}
use Rattle.ba_learn.specs.Live.{IsSame, AreLive, Follows, IsQuiet, IsNewTo}
use Rattle.ba_learn.specs.Levels.{IsShort, level_in, IsReached, IsBacked}
use Rattle.ba_learn.specs.Resolving.{Work, count_below, is_seen, is_above, is_pending, IsWork, AreSeen, trail_index_in, IsStart, number_in, number_at, negated_at, SortsNumbers, SortsLiterals, IsAbsorbed, AreAbsorbed, IsMinimised, reason_lits}
use Rattle.ba_learn.proofs.ResolveLaws.{decided-zero, count_below-more}
use Rattle.ba_learn.proofs.ReasonLaws.{trail_index-at, reason_below}
use Rattle.ba_learn.proofs.FollowLaws.{false_at, known, refutes}
use Rattle.ba_learn.proofs.Finishes.{HasEnded, false_below}
use Rattle.ba_learn.proofs.SortedLaws.{HasOne, kept_within, lead_in, kept_in, literal_of, literals_free, is_clause}
use Rattle.ba_learn.proofs.CoreLaws.{pending_above}
use Rattle.ba_learn.proofs.Weights.{is_false-permutation, is_unit-permutation}

-- places from the start of the present level on are of this level, and those before it of lower ones
module _ (s : State) (facts : KeepsFacts s) (floor : ℕ) (start : IsStart s floor) where
  pub level_above : (p : ℕ) → floor ≤ p → p < length s.trail → level_at s.reasons p ≡ decided s.reasons
  level_above p above within =
      omega (arith, decided-take_drop (p + 1) s.reasons, decided-zero (drop (p + 1) s.reasons) later)
    where
      later : (q : ℕ) → q < length (drop (p + 1) s.reasons) → IsSome (get_or (drop (p + 1) s.reasons) q None)
      later q q_in =
          subst (λ (o : Option ℕ). IsSome o) (sym (get_or-drop (p + 1) s.reasons q None))
          (start.later ((p + 1) + q) (omega arith) (omega
          (arith, q_in, length-drop (p + 1) s.reasons, facts.trail.same_length)))

  pub level_below : (p : ℕ) → p < floor → level_at s.reasons p < decided s.reasons
  level_below p below =
      omega (
        arith,
        decided-take-le (p + 1) floor s.reasons (omega arith),
        decided-take_none floor s.reasons
            (omega (arith, start.within, facts.trail.same_length)) start.decided_,
        decided-take_drop
            (floor + 1) s.reasons,
      )

-- a set with a place below a number is counted there
count_below-some : (f : ℕ → Bool) (p n : ℕ) → p < n → f p ≡ true → 1 ≤ count_below f n
count_below-some f p zero lt e = absurd (omega arith)
count_below-some f p (suc n) lt e = ⊎_elim
    (λ same. omega (arith, ap one_if (ap f (sym same) ∙ e)))
    (λ other. omega (arith, count_below-some f p n (omega (arith, lt, other)) e))
    (cases_eq p n)

count_below-none : (f : ℕ → Bool) (p n : ℕ) → p < n → count_below f n ≡ 0 → f p ≡ false
count_below-none f p n lt e = step (f p) refl
  where
    step : (b : Bool) → f p ≡ b → f p ≡ false
    step true is = absurd (omega (arith, e, count_below-some f p n lt is))
    step false is = is

-- a clause that is false and wasn't so at the front of the trail has a literal that became false later
later_literal : (T : List Literal) (d : ℕ) (xs : List Literal) →
    ((k : ℕ) → k < length xs → value_of T (lit_at xs k) ≡ Some false) →
    is_false (value_of (take d T)) xs ≡ false → (k : ℕ) × (k < length xs)
    × (d ≤ trail_index T (lit_at xs k).variable)
later_literal T d [] all e = absurd (cc e)
later_literal T d (x ∷ xs) all e = ⊎_elim
    (λ below.
    let front : value_of (take d T) x ≡ Some false = value_of-take d T x below ∙ all 0 (omega arith) in
    let r = later_literal T d xs (λ k k_in. all (suc k) (omega arith))
    (rest (value_of (take d T) x) (is_false (value_of (take d T)) xs) front e) in
    (suc r.0, omega (arith, r.1), r.2))
    (λ above. (0, omega arith, above))
    (cases_lt (trail_index T x.variable) d)
  where
    rest : (v : Option Bool) (b : Bool) → v ≡ Some false → (falsified v && b) ≡ false → b ≡ false
    rest None b is h = absurd (cc is)
    rest (Some true) b is h = absurd (cc is)
    rest (Some false) b is h = h

-- at the start of the walk there is a pending literal
pub some_pending : (s : State) (w : Work) (conflict : ℕ) → KeepsFacts s → IsStart s w.floor →
    IsSome (clause_in s.clauses conflict) → is_false (value_of s.trail) (lits_in s.clauses conflict) ≡ true
    → AreSeen s (is_seen w) (lits_in s.clauses conflict) → IsWork s (length s.trail) w → 1 ≤ w.pending
some_pending s w conflict facts start live is_false' seen work =
    let complete = facts.below w.floor start.within start.decided_ in
    let k = later_literal s.trail w.floor (lits_in s.clauses conflict)
    (false_at (value_of s.trail) (lits_in s.clauses conflict) is_false')
    (complete.none_false conflict live) in
    let p : ℕ = trail_index_in s (lits_in s.clauses conflict) k.0 in
    omega (
      arith,
      work.pending,
      count_below-some (is_above w) p (length s.trail)
          (false_below s (lits_in s.clauses conflict) is_false' k.0 k.1)
          (above w.floor p (is_seen w p) k.2 (seen k.0 k.1)),
    )
  where
    above : (f p : ℕ) (m : Bool) → f ≤ p → m ≡ true → (leb f p && m) ≡ true
    above f p m le e = grind (arith, nat_tests)

-- the negation of a literal of the trail is false
pub negated_false : (s : State) → KeepsFacts s → (q : ℕ) → q < length s.trail →
    value_of s.trail (negated_at s q) ≡ Some false
negated_false s facts q within = value_of-negate s.trail (lit_at s.trail q) true
    (value_of-at s.trail q within (facts.trail.fresh q within))

-- the last pending place is the only one
pub analysed_one : (s : State) (w : Work) (u : ℕ) → IsWork s (u + 1) w → w.pending ≡ 1 → w.floor ≤ u →
    is_seen w u ≡ true → HasOne s (u + 1) w u (negated_at s u)
analysed_one s w u work pending above seen = record {
  pending = here w.floor (is_seen w u) above seen;
  only = λ q q_pending. only q q_pending;
  lead_is = refl;
}
  where
    here : (f : ℕ) (m : Bool) → f ≤ u → m ≡ true → (ltb u (u + 1) && (leb f u && m)) ≡ true
    here f m le e = grind (arith, nat_tests)

    one_above : (f : ℕ) (m : Bool) → f ≤ u → m ≡ true → one_if (leb f u && m) ≡ 1
    one_above f m le e = grind (arith, nat_tests)

    last : (a b : Bool) → (a && b) ≡ true → b ≡ true
    last true b e = e
    last false b e = absurd (cc e)

    only : (q : ℕ) → is_pending (u + 1) w q ≡ true → q ≡ u
    only q q_pending = ⊎_elim
        (λ same. same)
        (λ other.
        let none : count_below (is_above w) u ≡ 0 = omega (
          arith,
          work.pending,
          pending,
          count_below-more (is_above w) u,
          one_above w.floor (is_seen w u)
              above seen,
        ) in
        absurd (cc (sym (count_below-none (is_above w) q u
        (omega (arith, other, (pending_above (u + 1) w q q_pending).1)) none)
        ∙ last (ltb q (u + 1)) (is_above w q) q_pending)))
        (cases_eq q u)

module _ (s : State) (facts : KeepsFacts s) (w : Work) (u conflict : ℕ) (e : HasEnded s (u + 1) w conflict)
    (start : IsStart s w.floor) (pending : w.pending ≡ 1) (above : w.floor ≤ u) (seen : is_seen w u ≡ true)
    (live : IsSome (clause_in s.clauses conflict))
    (is_false' : is_false (value_of s.trail) (lits_in s.clauses conflict) ≡ true)
    (lits : List Literal) (places : List ℕ) (sorted : SortsLiterals (negated_at s u
    ∷ map (negated_at s) w.kept) lits) (ordered : SortsNumbers w.resolved places) where
  one : HasOne s (u + 1) w u (negated_at s u)
  one = analysed_one s w u e.work pending above seen

  within : u < length s.trail
  within = e.work.ranged u seen

  place_at : (q : ℕ) → q < length s.trail → trail_index s.trail (lit_at s.trail q).variable ≡ q
  place_at q q_in = trail_index-at s.trail q q_in (facts.trail.fresh q q_in)

  in_clause : has_literal (negated_at s u) lits ≡ true
  in_clause = lead_in s facts (u + 1) w e.work e.waiting u (negated_at s u) one lits sorted

  pub analysed_clause : IsClause s.variables lits
  analysed_clause = is_clause s facts (u + 1) w e.work e.waiting u (negated_at s u) one lits sorted

  pending_in : (a q : ℕ) → 0 < occurrences a w.resolved → q < a → is_pending (u + 1) w q ≡ true →
      has_literal (negated_at s q) lits ≡ true
  pending_in a q some lt q_pending = subst (λ (x : ℕ). has_literal (negated_at s x) lits ≡ true)
      (sym (one.only q q_pending)) in_clause

  pub analysed_follows : Follows s.clauses lits (map (number_at s) places ++ number_in s conflict ∷ [])
  analysed_follows clauses are =
      refutes s facts (u + 1) w e.work e.waiting e.covered lits places ordered
      (kept_in s facts (u + 1) w e.work e.waiting u (negated_at s u) one lits sorted) pending_in
      (literals_free s facts (u + 1) w e.work e.waiting u (negated_at s u) one lits sorted)
      clauses are conflict live
      (λ k k_in. known s facts (u + 1) w e.work e.waiting e.covered lits places ordered
      (kept_in s facts (u + 1) w e.work e.waiting u (negated_at s u) one lits sorted) pending_in
      (literals_free s facts (u + 1) w e.work e.waiting u (negated_at s u) one lits sorted)
      clauses are (number_in s conflict) (lit_at (lits_in s.clauses conflict) k)
      (false_at (value_of s.trail) (lits_in s.clauses conflict) is_false' k k_in) (e.met k k_in)
      (λ q_pending. subst (λ (x : ℕ). has_literal (negated_at s x) lits ≡ true) (sym (one.only _ q_pending))
      in_clause))

  -- each literal of the clause is that of the unique implication point, or of a lower level
  each : (k : ℕ) → k < length lits → (lit_at lits k ≡ negated_at s u) ⊎ ((q : ℕ) × (q < w.floor)
      × (q < length s.trail) × (lit_at lits k ≡ negated_at s q))
  each k k_in = ⊎_elim
      (λ is. inl is)
      (λ q. inr (
        q.0,
        e.work.kept_below q.0 q.1,
        kept_within s facts (u + 1) w e.work e.waiting u
            (negated_at s u) one lits sorted q.0 q.1,
        q.2,
      ))
      (literal_of s facts (u + 1) w e.work e.waiting u (negated_at s u) one lits sorted (lit_at lits k)
      (has_literal-at lits k k_in))

  each_false : (k : ℕ) → k < length lits → value_of s.trail (lit_at lits k) ≡ Some false
  each_false k k_in = ⊎_elim
      (λ is. ap (value_of s.trail) is ∙ negated_false s facts u within)
      (λ q. ap (value_of s.trail) q.3 ∙ negated_false s facts q.0 q.2)
      (each k k_in)

  -- before the present level no live clause is false or unit
  quiet : (clauses : ℕ → Option (List Literal)) → AreLive s.clauses clauses →
      IsQuiet clauses (take w.floor s.trail)
  quiet clauses are = record { none_false = λ n c is. (both n c is).0; none_unit = λ n c is. (both n c is).1 }
    where
      same_is : (o : Option (List Literal)) (c ls : List Literal) → o ≡ Some c → IsSame o ls →
          IsPermutation c ls
      same_is None c ls is same = absurd same
      same_is (Some g) c ls is same = subst (λ (x : List Literal). IsPermutation x ls) (some_is g c is) same
        where
          some_is : (x y : List Literal) → Some x ≡ Some y → x ≡ y
          some_is x y e = cc e

      both : (n : ℕ) (c : List Literal) → clauses n ≡ Some c →
          (is_false (value_of (take w.floor s.trail)) c ≡ false)
          × (is_unit (value_of (take w.floor s.trail)) c ≡ false)
      both n c is =
          let r = are.all n c is in
          let complete = facts.below w.floor start.within start.decided_ in
          let same : IsPermutation c r.1.lits = same_is (clauses n) c r.1.lits is
          (subst (λ (m : ℕ). IsSame (clauses m) r.1.lits) r.3 (are.each r.0 r.1 r.2)) in
          let lits_is : lits_in s.clauses r.0 ≡ r.1.lits = ap plain_lits r.2 in
          let some : IsSome (clause_in s.clauses r.0) = ap is_some r.2 in
          let value : Literal → Option Bool = value_of (take w.floor s.trail) in (
            sym (is_false-permutation value c r.1.lits same)
                ∙ (ap (is_false value) (sym lits_is) ∙ complete.none_false r.0 some),
            sym (is_unit-permutation value c r.1.lits same)
                ∙ (ap (is_unit value) (sym lits_is) ∙ complete.none_unit r.0 some),
          )

  pub analysed_new : IsNewTo s.clauses lits
  analysed_new clauses are = record {
    free = negated_at s u;
    trail = take w.floor s.trail;
    asserts = record {
      has = in_clause;
      others = λ k k_in ne. ⊎_elim
          (λ is. absurd (ne (ap index_of is)))
          (λ q. value_of-take w.floor s.trail (lit_at lits k)
          (omega (arith, ap (λ (l : Literal). trail_index s.trail l.variable) q.3, place_at q.0 q.2, q.1))
          ∙ each_false k k_in)
          (each k k_in);
    };
    no_value = value_of-take_none w.floor s.trail (negated_at s u) (omega (arith, place_at u within, above));
    quiet = quiet clauses are;
  }

  pub analysed_placed : (k : ℕ) → k < length lits →
      trail_index s.trail (lit_at lits k).variable < length s.trail
  analysed_placed k k_in = trail_index-some s.trail (lit_at lits k) false (each_false k k_in)

  kept_seen : (q : ℕ) → 0 < occurrences q w.kept → is_seen w q ≡ true
  kept_seen q some = part (occurrences q w.kept) (occurrences q w.resolved) (occurrences q w.waiting)
      (is_pending (u + 1) w q) (is_seen w q) some (e.work.parted q)
    where
      part : (k r v : ℕ) (a m : Bool) → 0 < k → k + (r + (v + one_if a)) ≡ one_if m → m ≡ true
      part k r v a true some h = refl
      part k r v a false some h = absurd (omega arith)

  -- what is in the clause is seen
  in_seen : (x : Literal) → has_literal x lits ≡ true → is_seen w (trail_index s.trail x.variable) ≡ true
  in_seen x has = ⊎_elim
      (λ is. ap (is_seen w) (ap (λ (l : Literal). trail_index s.trail l.variable) is ∙ place_at u within)
      ∙ seen)
      (λ q. ap (is_seen w) (ap (λ (l : Literal). trail_index s.trail l.variable) q.2
      ∙ place_at q.0 (kept_within s facts (u + 1) w e.work e.waiting u (negated_at s u) one lits sorted
      q.0 q.1)) ∙ kept_seen q.0 q.1)
      (literal_of s facts (u + 1) w e.work e.waiting u (negated_at s u) one lits sorted x has)

  pub analysed_short : IsMinimised s w → IsShort s lits
  analysed_short short k k_in lower covered = ⊎_elim
      (λ is. omega (
        arith,
        lower,
        ap (λ (l : Literal). level_at s.reasons (trail_index s.trail l.variable)) is,
        ap (level_at s.reasons) (place_at u within),
        level_above s facts w.floor start u above within,
      ))
      (λ q.
      let q_in : q.0 < length s.trail = kept_within s facts (u + 1) w e.work e.waiting u (negated_at s u)
      one lits sorted q.0 q.1 in
      let place : trail_index s.trail (lit_at lits k).variable ≡ q.0 =
      ap (λ (l : Literal). trail_index s.trail l.variable) q.2 ∙ place_at q.0 q_in in
      let r_is : get_or s.reasons q.0 None ≡ Some covered.reason =
      ap (λ (x : ℕ). get_or s.reasons x None) (sym place) ∙ covered.is in
      short q.0 q.1 (
        ap is_some r_is,
        subst (λ (o : Option ℕ). AreAbsorbed s (is_seen w) (reason_lits s o)) (sym r_is)
            (All-from_get_or (IsAbsorbed s (is_seen w)) (lits_in s.clauses covered.reason) no_literal
            (λ j j_in. (
              absorbed_place q.0 covered.reason q_in r_is j j_in,
              ⊎_elim
                  (λ same. inl (ap (is_seen w) (ap (λ (l : Literal). trail_index s.trail l.variable) same
                  ∙ place) ∙ kept_seen q.0 q.1))
                  (λ rest. ⊎_elim (λ has. inl (in_seen (lit_at (lits_in s.clauses covered.reason) j) has))
                  (λ z. inr z) rest)
                  (covered.others j j_in),
            ))),
      ))
      (literal_of s facts (u + 1) w e.work e.waiting u (negated_at s u) one lits sorted (lit_at lits k)
      (has_literal-at lits k k_in))
    where
      absorbed_place : (q r : ℕ) → q < length s.trail → get_or s.reasons q None ≡ Some r → (j : ℕ) →
          j < length (lits_in s.clauses r) → trail_index s.trail (lit_at (lits_in s.clauses r) j).variable
          < length s.trail
      absorbed_place q r q_in is j j_in = omega (arith, reason_below s q r facts q_in is j j_in)

  module _ (back : ℕ) (level : 1 ≤ decided s.reasons) (greatest : (k : ℕ) → k < length lits →
      level_in s lits k < decided s.reasons → level_in s lits k ≤ back)
      (reached : IsReached s lits (length lits) back) where
    present_at : (k : ℕ) × (k < length lits) × (lit_at lits k ≡ negated_at s u)
    present_at = literal_found (negated_at s u) lits in_clause

    present_is : level_in s lits present_at.0 ≡ decided s.reasons
    present_is = ap (λ (l : Literal). level_at s.reasons (trail_index s.trail l.variable)) present_at.2
        ∙ (ap (level_at s.reasons) (place_at u within) ∙ level_above s facts w.floor start u above within)

    other : (k : ℕ) → k < length lits → k ≢ present_at.0 → level_in s lits k ≤ back
    other k k_in ne = ⊎_elim
        (λ is. absurd (⊎_elim
        (λ lt. omega (
          arith,
          analysed_clause.ascends k present_at.0 lt present_at.1,
          ap
              (λ (l : Literal). l.variable) is,
          ap (λ (l : Literal). l.variable) present_at.2,
        ))
        (λ ge. omega (
          arith,
          analysed_clause.ascends present_at.0 k (omega (arith, ge, ne)) k_in,
          ap
              (λ (l : Literal). l.variable) is,
          ap (λ (l : Literal). l.variable) present_at.2,
        ))
        (cases_lt k present_at.0)))
        (λ q. greatest k k_in (omega (
          arith,
          ap (λ (l : Literal). level_at s.reasons
              (trail_index s.trail l.variable)) q.3,
          ap (level_at s.reasons) (place_at q.0 q.2),
          level_below s
              facts w.floor start q.0 q.1,
        )))
        (each k k_in)

    pub analysed_backed : IsBacked s lits back
    analysed_backed = record {
      false_ = is_false-all (value_of s.trail) lits each_false;
      present = present_at.0;
      present_in = present_at.1;
      present_level = present_is;
      lower = ⊎_elim (λ z. omega (arith, z, level)) (λ k. omega (arith, k.2, k.3)) reached;
      others = other;
      met = ⊎_elim (λ z. inl z) (λ k. inr (
        k.0,
        k.1,
        (λ same. omega (arith, present_is, ap (level_in s lits) same, k.2)),
        k.3,
      )) reached;
    }
