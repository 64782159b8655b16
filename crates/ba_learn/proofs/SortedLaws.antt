-- The literals of a learnt clause: one literal and the negations of those that were kept, by their variables.

use Rattle.std.proofs.Common.{◌≡◌, ◌≢◌, ℕ, suc, zero, ◌+◌, ◌<◌, ◌≤◌, Bool, true, false, ◌&&◌, ◌||◌, List, [], ◌∷◌, length, map, eqb, ltb, leb, cond, refl, sym, ap, subst, ◌∙◌, arith, ◌⊎◌, inl, inr, ⊎_elim}
use Rattle.std.proofs.lemmas.Bool.{cases_eq, cases_lt, eq-eqb, or_left, or_right, and_parts}
use Rattle.std.proofs.lemmas.Bool.Decides.{nat_tests}
use Rattle.std.proofs.lemmas.List.Elements.{All-get_or, All-cons, All-map}
use Rattle.std.proofs.lemmas.List.Sorted.{All-permutation}
use Rattle.std.specs.List.{All}
use Rattle.std.specs.List.Sorted.{IsPermutation, IsNonDecreasingBy}
use Rattle.ba_lits.specs.Literals.{Literal, index_of, lit_at, no_literal, IsClause}
use Rattle.ba_lits.specs.Hints.{has_literal}
use Rattle.ba_lits.proofs.Members.{same_literal, has_literal-at, has_literal-permutation}
use Rattle.ba_lits.specs.Satisfaction.{one_if}
use Rattle.ba_watch.specs.Chains.{occurrences}
use Rattle.ba_watch.specs.Trails.{trail_index}
use Rattle.ba_watch.specs.Propagation.{State, KeepsFacts}
use Rattle.ba_learn.specs.Resolving.{Work, is_seen, is_pending, IsWork, negated_at, SortsLiterals}
use Rattle.ba_learn.proofs.Weights.{total-permutation}
use Rattle.ba_learn.proofs.ReasonLaws.{trail_index-at}
use Rattle.ba_learn.proofs.FollowLaws.{resolved_apart, resolved_within, trail_apart}
use Rattle.ba_learn.proofs.Finishes.{places_all}

-- how often a variable is in a list of literals
abbrev pub variable_times : ℕ → List Literal → ℕ
variable_times v [] = 0
variable_times v (x ∷ xs) = one_if (eqb x.variable v) + variable_times v xs

pub variable_times-permutation : (v : ℕ) (xs ys : List Literal) → IsPermutation xs ys →
    variable_times v ys ≡ variable_times v xs
variable_times-permutation v =
    total-permutation (variable_times v) (λ (x : Literal). one_if (eqb x.variable v)) refl (λ x xs. refl)

variable_once : (xs : List Literal) (k : ℕ) → k < length xs → 1 ≤ variable_times (lit_at xs k).variable xs
variable_once [] k within = absurd (omega arith)
variable_once (x ∷ xs) zero within = here x.variable (variable_times x.variable xs)
  where
    here : (n k : ℕ) → 1 ≤ cond (eqb n n) 1 0 + k
    here n k = grind (arith, nat_tests)
variable_once (x ∷ xs) (suc k) within = omega (arith, variable_once xs k (omega arith))

variable_twice : (xs : List Literal) (j k : ℕ) → j < k → k < length xs →
    (lit_at xs j).variable ≡ (lit_at xs k).variable → 2 ≤ variable_times (lit_at xs k).variable xs
variable_twice [] j k lt within e = absurd (omega arith)
variable_twice (x ∷ xs) j zero lt within e = absurd (omega arith)
variable_twice (x ∷ xs) zero (suc k) lt within e =
    here x.variable (lit_at xs k).variable (variable_times (lit_at xs k).variable xs) e
    (variable_once xs k (omega arith))
  where
    here : (m n k : ℕ) → m ≡ n → 1 ≤ k → 2 ≤ cond (eqb m n) 1 0 + k
    here m n k e some = grind (arith, nat_tests)
variable_twice (x ∷ xs) (suc j) (suc k) lt within e =
    omega (arith, variable_twice xs j k (omega arith) (omega arith) e)

-- a sorted list in which no variable occurs twice
pub variables_ascend : (xs : List Literal) → IsNonDecreasingBy (λ (l : Literal). l.variable) xs →
    ((v : ℕ) → variable_times v xs ≤ 1) → (j k : ℕ) → j < k → k < length xs →
    (lit_at xs j).variable < (lit_at xs k).variable
variables_ascend xs up once j k lt within = ⊎_elim
    (λ same. absurd (omega (arith, variable_twice xs j k lt within same, once (lit_at xs k).variable)))
    (λ other. omega (arith, up j k no_literal (omega arith) within, other))
    (cases_eq (lit_at xs j).variable (lit_at xs k).variable)

-- the negations of the literals at places
has-mapped : (s : State) (places : List ℕ) (q : ℕ) → 0 < occurrences q places →
    has_literal (negated_at s q) (map (negated_at s) places) ≡ true
has-mapped s [] q some = absurd (omega arith)
has-mapped s (p ∷ ps) q some = ⊎_elim
    (λ same. subst (λ (x : ℕ). (eqb (index_of (negated_at s x)) (index_of (negated_at s q)) || has_literal
    (negated_at s q) (map (negated_at s) ps)) ≡ true) (sym same)
    (or_left (eqb (index_of (negated_at s q)) (index_of (negated_at s q)))
    (has_literal (negated_at s q) (map (negated_at s) ps))
    (eq-eqb (index_of (negated_at s q)) (index_of (negated_at s q)) refl)))
    (λ other. or_right (eqb (index_of (negated_at s p)) (index_of (negated_at s q))) _
    (has-mapped s ps q (later (occurrences q ps) other some)))
    (cases_eq p q)
  where
    later : (n : ℕ) → p ≢ q → 0 < cond (eqb p q) 1 0 + n → 0 < n
    later n ne some = grind (arith, nat_tests)

mapped-has : (s : State) (places : List ℕ) (x : Literal) →
    has_literal x (map (negated_at s) places) ≡ true →
    (q : ℕ) × (0 < occurrences q places) × (x ≡ negated_at s q)
mapped-has s [] x has = absurd (cc has)
mapped-has s (p ∷ ps) x has = step (eqb (index_of (negated_at s p)) (index_of x)) refl has
    (λ h. mapped-has s ps x h)
  where
    self : (n k : ℕ) → 0 < cond (eqb n n) 1 0 + k
    self n k = grind (arith, nat_tests)

    step : (c : Bool) → eqb (index_of (negated_at s p)) (index_of x) ≡ c →
        (c || has_literal x (map (negated_at s) ps)) ≡ true →
        (has_literal x (map (negated_at s) ps) ≡ true →
        (q : ℕ) × (0 < occurrences q ps) × (x ≡ negated_at s q)) →
        (q : ℕ) × (0 < occurrences q (p ∷ ps)) × (x ≡ negated_at s q)
    step true e h rest = (p, self p (occurrences p ps), sym (same_literal (negated_at s p) x e))
    step false e h rest = let r = rest h in (r.0, omega (arith, r.1), r.2)

-- the variables of the trail at two places
pub variables_apart : (s : State) → KeepsFacts s → (p q : ℕ) → p < length s.trail → q < length s.trail →
    p ≢ q → (lit_at s.trail p).variable ≢ (lit_at s.trail q).variable
variables_apart s facts p q p_in q_in ne e = ⊎_elim
    (λ lt. trail_apart s.variables s.trail s.reasons facts.trail p q lt q_in e)
    (λ ge. trail_apart s.variables s.trail s.reasons facts.trail q p (omega (arith, ge, ne)) p_in (sym e))
    (cases_lt p q)

-- one place is pending, and the clause has a literal of its variable
pub record HasOne (s : State) (high : ℕ) (w : Work) (u : ℕ) (lead : Literal) : Type 0 where
  pub pending : is_pending high w u ≡ true
  pub only : (q : ℕ) → is_pending high w q ≡ true → q ≡ u
  pub lead_is : lead.variable ≡ (lit_at s.trail u).variable

pending_seen : (high : ℕ) (w : Work) (q : ℕ) → is_pending high w q ≡ true → is_seen w q ≡ true
pending_seen high w q e =
    (and_parts (leb w.floor q) (is_seen w q)
    (and_parts (ltb q high) (leb w.floor q && is_seen w q) e).1).1

module _ (s : State) (facts : KeepsFacts s) (high : ℕ) (w : Work) (work : IsWork s high w)
    (waiting : w.waiting ≡ []) (u : ℕ) (lead : Literal) (one : HasOne s high w u lead) (lits : List Literal)
    (sorted : SortsLiterals (lead ∷ map (negated_at s) w.kept) lits) where
  pub u_within : u < length s.trail
  u_within = work.ranged u (pending_seen high w u one.pending)

  pub kept_within : (q : ℕ) → 0 < occurrences q w.kept → q < length s.trail
  kept_within q some = omega (arith, work.kept_below q some, work.floor, work.within)

  pub lead_in : has_literal lead lits ≡ true
  lead_in = sym (has_literal-permutation lead (lead ∷ map (negated_at s) w.kept) lits sorted.same)
      ∙ has_literal-at (lead ∷ map (negated_at s) w.kept) 0 (omega arith)

  pub kept_in : (q : ℕ) → 0 < occurrences q w.kept → has_literal (negated_at s q) lits ≡ true
  kept_in q some =
      sym (has_literal-permutation (negated_at s q) (lead ∷ map (negated_at s) w.kept) lits sorted.same)
      ∙ or_right (eqb (index_of lead) (index_of (negated_at s q)))
      (has_literal (negated_at s q) (map (negated_at s) w.kept)) (has-mapped s w.kept q some)

  -- each literal of the clause is the one, or was kept
  pub literal_of : (x : Literal) → has_literal x lits ≡ true →
      (x ≡ lead) ⊎ ((q : ℕ) × (0 < occurrences q w.kept) × (x ≡ negated_at s q))
  literal_of x has = step (eqb (index_of lead) (index_of x)) refl
      (has_literal-permutation x (lead ∷ map (negated_at s) w.kept) lits sorted.same ∙ has)
    where
      step : (c : Bool) → eqb (index_of lead) (index_of x) ≡ c →
          (c || has_literal x (map (negated_at s) w.kept)) ≡ true →
          (x ≡ lead) ⊎ ((q : ℕ) × (0 < occurrences q w.kept) × (x ≡ negated_at s q))
      step true e h = inl (sym (same_literal lead x e))
      step false e h = inr (mapped-has s w.kept x h)

  -- no variable of the clause is that of a resolved place
  pub literals_free : (q : ℕ) → 0 < occurrences q w.resolved → (l : Literal) → has_literal l lits ≡ true →
      l.variable ≢ (lit_at s.trail q).variable
  literals_free q some l has e = ⊎_elim
      (λ is. variables_apart s facts u q u_within (resolved_within s facts high w work waiting q some)
      (λ same. resolved_apart s facts high w work waiting q u some (inr one.pending) (sym same))
      (sym one.lead_is ∙ (ap (λ (x : Literal). x.variable) (sym is) ∙ e)))
      (λ k. variables_apart s facts k.0 q (kept_within k.0 k.1)
      (resolved_within s facts high w work waiting q some)
      (λ same. resolved_apart s facts high w work waiting q k.0 some (inl k.1) (sym same))
      (ap (λ (x : Literal). x.variable) (sym k.2) ∙ e))
      (literal_of l has)

  place_at : (q : ℕ) → q < length s.trail → trail_index s.trail (lit_at s.trail q).variable ≡ q
  place_at q within = trail_index-at s.trail q within (facts.trail.fresh q within)

  times-mapped : (v : ℕ) (ps : List ℕ) → ((q : ℕ) → 0 < occurrences q ps → q < length s.trail) →
      variable_times v (map (negated_at s) ps) ≤ occurrences (trail_index s.trail v) ps
  times-mapped v [] within = omega arith
  times-mapped v (p ∷ ps) within = step (lit_at s.trail p).variable (trail_index s.trail v)
      (variable_times v (map (negated_at s) ps)) (occurrences (trail_index s.trail v) ps)
      (λ e. sym (place_at p (within p (self p (occurrences p ps))))
      ∙ ap (trail_index s.trail) e) (times-mapped v ps (λ q some. within q (omega (arith, some))))
    where
      self : (n k : ℕ) → 0 < cond (eqb n n) 1 0 + k
      self n k = grind (arith, nat_tests)

      step : (x q m n : ℕ) → (x ≡ v → p ≡ q) → m ≤ n → cond (eqb x v) 1 0 + m ≤ cond (eqb p q) 1 0 + n
      step x q m n same le = grind (arith, nat_tests)

  once : (v : ℕ) → variable_times v lits ≤ 1
  once v = omega (
    arith,
    variable_times-permutation v (lead ∷ map (negated_at s) w.kept) lits sorted.same,
    times-mapped v w.kept kept_within,
    first,
  )
    where
      parted : (k r x : ℕ) (m : Bool) → k + (r + (x + one_if true)) ≡ one_if m → k ≤ 0
      parted k r x true e = omega arith
      parted k r x false e = omega arith

      at_most : (k r x : ℕ) (b m : Bool) → k + (r + (x + one_if b)) ≡ one_if m → k ≤ 1
      at_most k r x b true e = omega arith
      at_most k r x b false e = omega arith

      step : (x q k : ℕ) → (x ≡ v → u ≡ q) → (u ≡ q → k ≤ 0) → k ≤ 1 → cond (eqb x v) 1 0 + k ≤ 1
      step x q k same none le = grind (arith, nat_tests)

      none_kept : (q : ℕ) → u ≡ q → occurrences q w.kept ≤ 0
      none_kept q e = parted (occurrences q w.kept) (occurrences q w.resolved) (occurrences q w.waiting)
          (is_seen w q)
          (ap (λ (b : Bool). occurrences q w.kept + (occurrences q w.resolved
          + (occurrences q w.waiting + one_if b))) (sym (ap (is_pending high w) (sym e) ∙ one.pending))
          ∙ work.parted q)

      first : cond (eqb lead.variable v) 1 0 + occurrences (trail_index s.trail v) w.kept ≤ 1
      first = step lead.variable (trail_index s.trail v) (occurrences (trail_index s.trail v) w.kept)
          (λ e. sym (place_at u u_within) ∙ (ap (trail_index s.trail) (sym one.lead_is)
          ∙ ap (trail_index s.trail) e))
          (none_kept (trail_index s.trail v))
          (at_most (occurrences (trail_index s.trail v) w.kept)
          (occurrences (trail_index s.trail v) w.resolved)
          (occurrences (trail_index s.trail v) w.waiting) (is_pending high w (trail_index s.trail v))
          (is_seen w (trail_index s.trail v)) (work.parted (trail_index s.trail v)))

  -- the clause is formed
  pub is_clause : IsClause s.variables lits
  is_clause =
      let In : Literal → Type 0 = λ l. (1 ≤ l.variable) × (l.variable ≤ s.variables) in
      let all : All In lits = All-permutation In (lead ∷ map (negated_at s) w.kept) lits sorted.same
      (All-cons In lead (map (negated_at s) w.kept) (
        omega (arith, one.lead_is, facts.trail.counted u u_within),
        omega
            (arith, one.lead_is, facts.trail.within u u_within),
      )
      (All-map In (negated_at s) w.kept (places_all (λ q. In (negated_at s q)) w.kept
      (λ q some. (
        facts.trail.counted q (kept_within q some),
        facts.trail.within q
            (kept_within q some),
      ))))) in
      record {
        ascends = variables_ascend lits sorted.ascends once;
        counted = λ k k_in. (All-get_or In lits k no_literal k_in all).0;
        within = λ k k_in. (All-get_or In lits k no_literal k_in all).1;
      }
