-- What a finished resolution gives follows by its hints.

use Rattle.std.proofs.Common.{◌≡◌, ◌≢◌, ℕ, suc, zero, ◌+◌, ◌<◌, ◌≤◌, Bool, true, false, not, ◌&&◌, Option, None, Some, IsSome, List, [], ◌∷◌, ◌++◌, length, get_or, map, take, drop, eqb, cond, refl, sym, ap, subst, ◌∙◌, arith, ◌⊎◌, inl, inr, ⊎_elim}
use Rattle.std.proofs.lemmas.Bool.{cases_eq, and_parts}
use Rattle.std.proofs.lemmas.Option.{same_Some}
use Rattle.std.proofs.lemmas.Bool.Decides.{nat_tests}
use Rattle.std.proofs.lemmas.List.{take-append-drop, length-take-le, get_or-take}
use Rattle.std.proofs.lemmas.List.Elements.{All-from_get_or}
use Rattle.std.proofs.lemmas.List.Sorted.{IsPermutation-sym, All-permutation}
use Rattle.std.specs.List.Sorted.{IsPermutation, IsNonDecreasingBy}
use Rattle.ba_lits.specs.Literals.{Literal, negate, index_of, lit_at, no_literal}
use Rattle.ba_lits.specs.Hints.{has_literal, Refutes, replay}
use Rattle.ba_lits.specs.Satisfaction.{one_if}
use Rattle.ba_lits.proofs.Members.{same_from_index}
use Rattle.ba_watch.specs.Chains.{occurrences}
use Rattle.ba_watch.specs.Trails.{same_sign, value_of, trail_index, IsTrail}
use Rattle.ba_watch.specs.Propagation.{State, plain_lits, clause_in, lits_in, is_false, falsified, IsReason, KeepsFacts}
use Rattle.ba_watch.proofs.Values.{value_of-more, value_of-place, lit_at-place, trail_index-some, same_sign_false, none_apart}
use Rattle.ba_learn.specs.Live.{IsSame, AreLive}
use Rattle.ba_learn.specs.Resolving.{Work, is_seen, is_pending, IsWork, AreSeen, reason_lits, AreCovered, number_of, number_in, reason_number, number_at, negated_at, SortsNumbers}
use Rattle.ba_learn.proofs.Weights.{total-permutation}
use Rattle.ba_learn.proofs.ReasonLaws.{reason_live, some_within, trail_index-front_some}
use Rattle.ba_learn.proofs.Standings.{times-permutation, times-once}
use Rattle.ba_learn.proofs.Replays.{IsAscending, IsKnown, IsKnownBefore, IsGiven, runs}

-- lists of places in another order
pub occurrences-permutation : (p : ℕ) (xs ys : List ℕ) → IsPermutation xs ys →
    occurrences p ys ≡ occurrences p xs
occurrences-permutation p =
    total-permutation (occurrences p) (λ (x : ℕ). cond (eqb x p) 1 0) refl (λ x xs. refl)

-- a place of a list is at some index of it
pub occurs_at : (p : ℕ) (xs : List ℕ) → 0 < occurrences p xs → (k : ℕ) × (k < length xs) × (get_or xs k 0 ≡ p)
occurs_at p [] some = absurd (omega arith)
occurs_at p (x ∷ xs) some = ⊎_elim
    (λ same. (0, omega arith, same))
    (λ other. let r = occurs_at p xs (later (occurrences p xs) other some) in (suc r.0, omega arith, r.2))
    (cases_eq x p)
  where
    later : (n : ℕ) → x ≢ p → 0 < cond (eqb x p) 1 0 + n → 0 < n
    later n ne some = grind (arith, nat_tests)

-- a sorted list in which no place occurs twice ascends
pub ascends : (xs : List ℕ) → IsNonDecreasingBy (λ (x : ℕ). x) xs → ((p : ℕ) → occurrences p xs ≤ 1) →
    IsAscending xs
ascends [] up once = tt
ascends (x ∷ xs) up once = (
  λ q some. let k = occurs_at q xs some in omega
      (arith, up 0 (suc k.0) 0 (omega arith) (omega (arith, k.1)), k.2, apart q some),
  ascends xs (λ i j d le j_in. up (suc i) (suc j) d (omega arith) (omega arith)) (λ p. omega (arith, once p)),
)
  where
    twice : (m n k : ℕ) → m ≡ n → cond (eqb m n) 1 0 + k ≤ 1 → 0 < k → ⊥
    twice m n k e le some = grind (arith, nat_tests)

    apart : (q : ℕ) → 0 < occurrences q xs → x ≢ q
    apart q some e = twice x q (occurrences q xs) e (once q) some

pub some_value : {X : Type 0} (o : Option X) → IsSome o → (x : X) × (o ≡ Some x)
some_value None some = absurd (cc some)
some_value (Some x) some = (x, refl)

-- a false literal negates the one of the trail
pub false_negates : (T : List Literal) (x : Literal) → value_of T x ≡ Some false →
    x ≡ negate (lit_at T (trail_index T x.variable))
false_negates T x is_false =
    let within : trail_index T x.variable < length T = trail_index-some T x false is_false in
    let v : (lit_at T (trail_index T x.variable)).variable ≡ x.variable = lit_at-place T x.variable within in
    let sign : same_sign (lit_at T (trail_index T x.variable)).negated x.negated ≡ false =
    same_Some _ false (sym (value_of-place T x within) ∙ is_false) in
    both x.variable (lit_at T (trail_index T x.variable)).variable x.negated
    (not (lit_at T (trail_index T x.variable)).negated) (sym v)
    (same_sign_false (lit_at T (trail_index T x.variable)).negated x.negated sign)
  where
    both : (a b : ℕ) (m n : Bool) → a ≡ b → m ≡ n →
        ◌≡◌ {A = Literal} (record { variable = a; negated = m }) (record { variable = b; negated = n })
    both a b m n e f = cc

-- what is false at the front of a trail is false
pub false_further : (T : List Literal) (p : ℕ) (x : Literal) → value_of (take p T) x ≡ Some false →
    value_of T x ≡ Some false
false_further T p x h = ap (λ (ys : List Literal). value_of ys x) (sym (take-append-drop p T))
    ∙ value_of-more (take p T) (drop p T) x false h

-- each literal of a false clause is false
pub false_at : (value : Literal → Option Bool) (xs : List Literal) → is_false value xs ≡ true → (k : ℕ) →
    k < length xs → value (lit_at xs k) ≡ Some false
false_at value [] h k k_in = absurd (omega arith)
false_at value (x ∷ xs) h zero k_in = first (value x) (is_false value xs) h
  where
    first : (v : Option Bool) (b : Bool) → (falsified v && b) ≡ true → v ≡ Some false
    first None b e = absurd (cc e)
    first (Some true) b e = absurd (cc e)
    first (Some false) b e = refl
false_at value (x ∷ xs) h (suc k) k_in =
    false_at value xs (and_parts (falsified (value x)) (is_false value xs) h).1 k (omega arith)

-- the variables of a trail are apart
pub trail_apart : (n : ℕ) (T : List Literal) (R : List (Option ℕ)) → IsTrail n T R → (p q : ℕ) → p < q →
    q < length T → (lit_at T p).variable ≢ (lit_at T q).variable
trail_apart n T R trail p q lt within e =
    none_apart (take q T) (lit_at T q) p (trail.fresh q within)
    (omega (arith, length-take-le q T (omega arith)))
    (ap (λ (l : Literal). l.variable) (get_or-take q T p no_literal lt) ∙ e)

one_of : (k r v : ℕ) (pending seen : Bool) → seen ≡ true → v ≡ 0 →
    k + (r + (v + one_if pending)) ≡ one_if seen → (0 < k) ⊎ ((0 < r) ⊎ (pending ≡ true))
one_of k r v true seen m none e = inr (inr refl)
one_of k r v false seen m none e = ⊎_elim (λ z. inr (inl (omega (arith, z, none, ap one_if m))))
    (λ nz. inl (omega (arith, nz))) (cases_eq k 0)

at_most_one : (k r v : ℕ) (pending seen : Bool) → k + (r + (v + one_if pending)) ≡ one_if seen → r ≤ 1
at_most_one k r v pending true e = omega arith
at_most_one k r v pending false e = omega arith

not_both : (k r v : ℕ) (pending seen : Bool) → k + (r + (v + one_if pending)) ≡ one_if seen → 0 < r →
    (0 < k) ⊎ (pending ≡ true) → ⊥
not_both k r v pending true e some other = ⊎_elim (λ h. omega arith) (λ h. omega (arith, ap one_if h)) other
not_both k r v pending false e some other = omega arith

module _ (s : State) (facts : KeepsFacts s) (high : ℕ) (w : Work) (work : IsWork s high w)
    (waiting : w.waiting ≡ []) where
  -- each seen place is kept, resolved or pending
  pub seen_parts : (q : ℕ) → is_seen w q ≡ true →
      (0 < occurrences q w.kept) ⊎ ((0 < occurrences q w.resolved) ⊎ (is_pending high w q ≡ true))
  seen_parts q m = one_of (occurrences q w.kept) (occurrences q w.resolved) (occurrences q w.waiting)
      (is_pending high w q) (is_seen w q) m (ap (occurrences q) waiting) (work.parted q)

  pub resolved_once : (q : ℕ) → occurrences q w.resolved ≤ 1
  resolved_once q = at_most_one (occurrences q w.kept) (occurrences q w.resolved) (occurrences q w.waiting)
      (is_pending high w q) (is_seen w q) (work.parted q)

  pub resolved_apart : (q r : ℕ) → 0 < occurrences q w.resolved →
      (0 < occurrences r w.kept) ⊎ (is_pending high w r ≡ true) → q ≢ r
  resolved_apart q r some other e =
      not_both (occurrences q w.kept) (occurrences q w.resolved) (occurrences q w.waiting)
      (is_pending high w q) (is_seen w q) (work.parted q) some
      (⊎_elim (λ k. inl (subst (λ (x : ℕ). 0 < occurrences x w.kept) (sym e) k))
      (λ p. inr (ap (is_pending high w) e ∙ p)) other)

  pub resolved_within : (q : ℕ) → 0 < occurrences q w.resolved → q < length s.trail
  resolved_within q some = omega (
    arith,
    some_within s.reasons q (work.resolved q some),
    facts.trail.same_length,
  )

  module _ (covered : AreCovered s (is_seen w) w.resolved) (lits : List Literal) (places : List ℕ)
      (sorted : SortsNumbers w.resolved places) (kept_in : (q : ℕ) → 0 < occurrences q w.kept →
      has_literal (negated_at s q) lits ≡ true)
      (pending_in : (p q : ℕ) → 0 < occurrences p w.resolved → q < p → is_pending high w q ≡ true →
      has_literal (negated_at s q) lits ≡ true)
      (free : (q : ℕ) → 0 < occurrences q w.resolved → (l : Literal) → has_literal l lits ≡ true →
      l.variable ≢ (lit_at s.trail q).variable) where
    in_places : (q : ℕ) → 0 < occurrences q w.resolved → 0 < occurrences q places
    in_places q some = omega (arith, some, occurrences-permutation q w.resolved places sorted.same)

    in_resolved : (q : ℕ) → 0 < occurrences q places → 0 < occurrences q w.resolved
    in_resolved q some = omega (arith, some, occurrences-permutation q w.resolved places sorted.same)

    module _ (live : ℕ → Option (List Literal)) (are : AreLive s.clauses live) where
      -- a false literal whose place is seen is known
      pub known : (last : ℕ) (x : Literal) → value_of s.trail x ≡ Some false →
          is_seen w (trail_index s.trail x.variable) ≡ true
          → (is_pending high w (trail_index s.trail x.variable) ≡ true →
          has_literal (negated_at s (trail_index s.trail x.variable)) lits ≡ true) →
          IsKnown live (lit_at s.trail) (number_at s) lits places last x
      known last x is_false seen pending =
          let is : x ≡ negated_at s (trail_index s.trail x.variable) = false_negates s.trail x is_false in
          ⊎_elim
          (λ kept. inl (subst (λ (y : Literal). has_literal y lits ≡ true) (sym is)
          (kept_in (trail_index s.trail x.variable) kept)))
          (λ rest. ⊎_elim (λ resolved. inr (
            trail_index s.trail x.variable,
            in_places
                (trail_index s.trail x.variable) resolved,
            is,
          )) (λ p. inl
          (subst (λ (y : Literal). has_literal y lits ≡ true) (sym is) (pending p))) rest)
          (seen_parts (trail_index s.trail x.variable) seen)

      -- the clause that a live reference names
      same_some : (o : Option (List Literal)) (ls : List Literal) → IsSame o ls →
          (g : List Literal) × (o ≡ Some g) × IsPermutation g ls
      same_some None ls same = absurd same
      same_some (Some g) ls same = (g, refl, same)

      live_given : (r : ℕ) → IsSome (clause_in s.clauses r) →
          (g : List Literal) × (live (number_in s r) ≡ Some g) × IsPermutation g (lits_in s.clauses r)
      live_given r some =
          let c = some_value (clause_in s.clauses r) some in
          let g = same_some (live c.0.number) c.0.lits (are.each r c.0 c.1) in (
            g.0,
            ap live (ap number_of c.1) ∙ g.1,
            subst (λ (ls : List Literal). IsPermutation g.0 ls) (sym (ap plain_lits c.1)) g.2,
          )

      each : (last p : ℕ) → 0 < occurrences p places →
          IsGiven live (lit_at s.trail) (number_at s) lits places last p
      each last p some =
          let resolved = in_resolved p some in
          let within = resolved_within p resolved in
          let r = some_value (get_or s.reasons p None) (work.resolved p resolved) in
          let reason : IsReason (lits_in s.clauses r.0) (take p s.trail) (lit_at s.trail p) =
          facts.reasons p r.0 within r.1 in
          let g = live_given r.0 (reason_live s p r.0 facts within r.1) in
          let seen : AreSeen s (is_seen w) (lits_in s.clauses r.0) =
          subst (λ (o : Option ℕ). AreSeen s (is_seen w) (reason_lits s o)) r.1 (covered p resolved) in
          record {
            given = g.0;
            is = ap live (ap (reason_number s) r.1) ∙ g.1;
            once = sym (times-permutation (lit_at s.trail p) g.0 (lits_in s.clauses r.0) g.2)
                ∙ times-once (lit_at s.trail p) (lits_in s.clauses r.0) (facts.apart r.0) reason.has;
            others = All-permutation (λ (x : Literal). (x ≡ lit_at s.trail p) ⊎ IsKnownBefore live
                (lit_at s.trail) (number_at s) lits places last p x) (lits_in s.clauses r.0) g.0
                (IsPermutation-sym g.0 (lits_in s.clauses r.0) g.2)
                (All-from_get_or (λ (x : Literal). (x ≡ lit_at s.trail p) ⊎ IsKnownBefore live
                (lit_at s.trail) (number_at s) lits places last p x) (lits_in s.clauses r.0) no_literal
                (λ k k_in. ⊎_elim
                (λ same. inl (same_from_index (lit_at (lits_in s.clauses r.0) k) (lit_at s.trail p) same))
                (λ other.
                let x : Literal = lit_at (lits_in s.clauses r.0) k in
                let front : value_of (take p s.trail) x ≡ Some false = reason.others k k_in other in
                let before : trail_index s.trail x.variable < p =
                trail_index-front_some s.trail p x false (omega arith) front in
                let is : x ≡ negated_at s (trail_index s.trail x.variable) =
                false_negates s.trail x (false_further s.trail p x front) in
                inr (⊎_elim
                (λ kept. inl (subst (λ (y : Literal). has_literal y lits ≡ true) (sym is)
                (kept_in (trail_index s.trail x.variable) kept)))
                (λ rest. ⊎_elim (λ res. inr (
                  trail_index s.trail x.variable,
                  in_places
                      (trail_index s.trail x.variable) res,
                  before,
                  is,
                ))
                (λ pend. inl (subst (λ (y : Literal). has_literal y lits ≡ true) (sym is)
                (pending_in p (trail_index s.trail x.variable) resolved before pend))) rest)
                (seen_parts (trail_index s.trail x.variable) (seen k k_in))))
                (cases_eq (index_of (lit_at (lits_in s.clauses r.0) k)) (index_of (lit_at s.trail p)))));
          }

      -- the hints refute the negated clause
      pub refutes : (conflict : ℕ) → IsSome (clause_in s.clauses conflict) →
          ((k : ℕ) → k < length (lits_in s.clauses conflict) →
          IsKnown live (lit_at s.trail) (number_at s) lits places (number_in s conflict)
          (lit_at (lits_in s.clauses conflict) k))
          → replay live lits (map (number_at s) places ++ number_in s conflict ∷ []) ≡ Refutes
      refutes conflict some all_known =
          let g = live_given conflict some in
          let last : ℕ = number_in s conflict in
          runs live (lit_at s.trail) (number_at s) lits places last (each last)
          (record {
            given = g.0;
            is = g.1;
            all = All-permutation
                (IsKnown live (lit_at s.trail) (number_at s) lits places last) (lits_in s.clauses conflict)
                g.0 (IsPermutation-sym g.0 (lits_in s.clauses conflict) g.2)
                (All-from_get_or (IsKnown live (lit_at s.trail) (number_at s) lits places last)
                (lits_in s.clauses conflict) no_literal all_known);
          })
          (λ p q p_in q_in lt. trail_apart s.variables s.trail s.reasons facts.trail p q lt
          (resolved_within q (in_resolved q q_in)))
          places lits (ascends places sorted.ascends (λ p. omega
          (arith, resolved_once p, occurrences-permutation p w.resolved places sorted.same)))
          (λ q h. h) (λ x h. h) (λ q h. inl h) (λ q h l has. free q (in_resolved q h) l has)
