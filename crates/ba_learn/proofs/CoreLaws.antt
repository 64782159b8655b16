-- The clause of a literal and the decisions because of which it is false.

use Rattle.std.proofs.Common.{◌≡◌, ℕ, ◌+◌, ◌<◌, ◌≤◌, Bool, true, false, ◌&&◌, None, Some, IsSome, List, [], ◌∷◌, ◌++◌, length, get_or, map, take, ltb, leb, sym, ap, subst, ◌∙◌, arith, inl, inr, ⊎_elim}
use Rattle.std.proofs.lemmas.Bool.{cases_eq}
use Rattle.std.proofs.lemmas.Bool.Decides.{nat_tests}
use Rattle.ba_lits.specs.Literals.{Literal, negate, index_of, lit_at, IsClause}
use Rattle.ba_lits.specs.Hints.{has_literal}
use Rattle.ba_lits.proofs.Members.{same_from_index, negate-negate, literal_found, has_literal-at}
use Rattle.ba_watch.specs.Chains.{occurrences}
use Rattle.ba_watch.specs.Trails.{value_of, trail_index, trail_index_if, reason_of}
use Rattle.ba_watch.specs.Propagation.{State, clause_in, lits_in, IsReason, KeepsFacts}
use Rattle.ba_watch.proofs.Values.{trail_index-some}
use Rattle.ba_learn.specs.Live.{Follows}
use Rattle.ba_learn.specs.Levels.{IsCoreOf}
use Rattle.ba_learn.specs.Resolving.{Work, is_seen, is_pending, MayKeep, MayStart, number_in, number_at, negated_at, SortsNumbers, SortsLiterals}
use Rattle.ba_learn.proofs.WorkLaws.{place-is}
use Rattle.ba_learn.proofs.ReasonLaws.{reason_below, reason_live, trail_index-front_some}
use Rattle.ba_learn.proofs.FollowLaws.{false_negates, false_further, known, refutes}
use Rattle.ba_learn.proofs.Finishes.{HasEnded}
use Rattle.ba_learn.proofs.SortedLaws.{HasOne, kept_within, lead_in, kept_in, literal_of, literals_free, is_clause}

-- a place is pending only from the floor on
pub pending_above : (high : ℕ) (w : Work) (q : ℕ) → is_pending high w q ≡ true → (w.floor ≤ q) × (q < high)
pending_above high w q e = (
  from w.floor q (ltb q high) (is_seen w q) e,
  to q high (leb w.floor q
      && is_seen w q) e,
)
  where
    from : (f q : ℕ) (a m : Bool) → (a && (leb f q && m)) ≡ true → f ≤ q
    from f q a m e = grind (arith, nat_tests)

    to : (q n : ℕ) (b : Bool) → (ltb q n && b) ≡ true → q < n
    to q n b e = grind (arith, nat_tests)

module _ (s : State) (facts : KeepsFacts s) (lit : Literal) (p r : ℕ) (is_false : value_of s.trail lit
    ≡ Some false) (p_is : p ≡ trail_index s.trail lit.variable)
    (r_is : get_or s.reasons p None ≡ Some r) where
  p_within : p < length s.trail
  p_within = omega (arith, p_is, trail_index-some s.trail lit false is_false)

  pub core_start : MayStart s p (p + 1) (lits_in s.clauses r)
  core_start = record {
    floor_le = omega arith;
    within = omega (arith, p_within);
    below =
        reason_below s p r facts p_within r_is;
  }

  pub core_live : IsSome (clause_in s.clauses r)
  core_live = reason_live s p r facts p_within r_is

  reason : IsReason (lits_in s.clauses r) (take p s.trail) (lit_at s.trail p)
  reason = facts.reasons p r p_within r_is

  lead_same : negate lit ≡ lit_at s.trail p
  lead_same = ap negate (false_negates s.trail lit is_false ∙ ap (negated_at s) (sym p_is))
      ∙ negate-negate (lit_at s.trail p)

  module _ (w : Work) (e : HasEnded s (p + 1) w r) (floor : w.floor ≡ p) (deep : w.deep ≡ true) where
    seen : is_seen w p ≡ true
    seen =
        let k = literal_found (lit_at s.trail p) (lits_in s.clauses r) reason.has in
        let at : trail_index s.trail (lit_at (lits_in s.clauses r) k.0).variable ≡ p =
        ap (λ (l : Literal). trail_index s.trail l.variable) (k.2 ∙ sym lead_same) ∙ sym p_is in
        sym (ap (is_seen w) at) ∙ e.met k.0 k.1

    pub core_one : HasOne s (p + 1) w p (negate lit)
    core_one = record {
      pending = here w.floor (is_seen w p) floor seen;
      only = λ q pending. let b = pending_above (p + 1) w q pending in omega (arith, b.0, b.1, floor);
      lead_is = ap (λ (l : Literal). l.variable) lead_same;
    }
      where
        here : (f : ℕ) (m : Bool) → f ≡ p → m ≡ true → (ltb p (p + 1) && (leb f p && m)) ≡ true
        here f m e h = grind (arith, nat_tests)

    module _ (lits : List Literal) (places : List ℕ)
        (sorted : SortsLiterals (negate lit ∷ map (negated_at s) w.kept) lits)
        (ordered : SortsNumbers w.resolved places) where
      pub core_clause : IsClause s.variables lits
      core_clause = is_clause s facts (p + 1) w e.work e.waiting p (negate lit) core_one lits sorted

      none_pending : (a q : ℕ) → 0 < occurrences a w.resolved → q < a → is_pending (p + 1) w q ≡ true →
          has_literal (negated_at s q) lits ≡ true
      none_pending a q some lt pending = absurd (omega
          (arith, e.work.resolved_below a some deep, (pending_above (p + 1) w q pending).0))

      pub core_follows : Follows s.clauses lits (map (number_at s) places ++ number_in s r ∷ [])
      core_follows clauses are =
          refutes s facts (p + 1) w e.work e.waiting e.covered lits places ordered
          (kept_in s facts (p + 1) w e.work e.waiting p (negate lit) core_one lits sorted) none_pending
          (literals_free s facts (p + 1) w e.work e.waiting p (negate lit) core_one lits sorted)
          clauses are r core_live
          (λ k k_in. ⊎_elim
          (λ same. inl (subst (λ (x : Literal). has_literal x lits ≡ true)
          (sym (same_from_index (lit_at (lits_in s.clauses r) k) (lit_at s.trail p) same
          ∙ sym lead_same)) (lead_in s facts (p + 1) w e.work e.waiting p (negate lit) core_one lits
          sorted)))
          (λ other.
          let x : Literal = lit_at (lits_in s.clauses r) k in
          let front : value_of (take p s.trail) x ≡ Some false = reason.others k k_in other in
          known s facts (p + 1) w e.work e.waiting e.covered lits places ordered
          (kept_in s facts (p + 1) w e.work e.waiting p (negate lit) core_one lits sorted) none_pending
          (literals_free s facts (p + 1) w e.work e.waiting p (negate lit) core_one lits sorted)
          clauses are (number_in s r) x (false_further s.trail p x front) (e.met k k_in)
          (λ pending. absurd (omega (
            arith,
            trail_index-front_some s.trail p x false (omega (arith, p_within))
                front,
            (pending_above (p + 1) w (trail_index s.trail x.variable) pending).0,
            floor,
          ))))
          (cases_eq (index_of (lit_at (lits_in s.clauses r) k)) (index_of (lit_at s.trail p))))

      pub core_is : IsCoreOf s lit lits
      core_is k k_in = ⊎_elim
          (λ is. inl is)
          (λ q. inr (
            q.0,
            kept_within s facts (p + 1) w e.work e.waiting p (negate lit) core_one lits sorted
                q.0 q.1,
            subst (λ (b : Bool). MayKeep s b q.0) deep (e.work.kept q.0 q.1),
            q.2,
          ))
          (literal_of s facts (p + 1) w e.work e.waiting p (negate lit) core_one lits sorted (lit_at lits k)
          (has_literal-at lits k k_in))

-- what the code reads
pub core_place : (s : State) (lit : Literal) (v p : ℕ) → v ≡ lit.variable →
    value_of s.trail lit ≡ Some false → trail_index_if s.trail v ≡ Some p →
    p ≡ trail_index s.trail lit.variable
core_place s lit v p v_is is_false e =
    place-is s.trail lit.variable p (trail_index-some s.trail lit false is_false)
    (ap (trail_index_if s.trail) (sym v_is) ∙ e)

pub core_reason : (s : State) (lit : Literal) (v p r : ℕ) → v ≡ lit.variable →
    p ≡ trail_index s.trail lit.variable → reason_of s.trail s.reasons v ≡ Some r →
    get_or s.reasons p None ≡ Some r
core_reason s lit v p r v_is p_is e = ap (λ (x : ℕ). get_or s.reasons x None) p_is
    ∙ (ap (reason_of s.trail s.reasons) (sym v_is) ∙ e)

pub same_sorted : (s : State) (a b : Literal) (k l : List ℕ) (lits : List Literal) → a ≡ b → k ≡ l →
    SortsLiterals (a ∷ map (negated_at s) k) lits → SortsLiterals (b ∷ map (negated_at s) l) lits
same_sorted s a b k l lits e f h =
    subst (λ (x : Literal). SortsLiterals (x ∷ map (negated_at s) l) lits) e
    (subst (λ (xs : List ℕ). SortsLiterals (a ∷ map (negated_at s) xs) lits) f h)
