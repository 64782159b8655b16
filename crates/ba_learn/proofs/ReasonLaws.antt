-- The literals of reasons, and where they are on the trail.

use Rattle.std.proofs.Common.{◌≡◌, ℕ, suc, zero, ◌+◌, ◌<◌, ◌≤◌, Bool, true, false, Option, None, Some, IsSome, is_some, List, [], ◌∷◌, ◌++◌, length, get_or, take, drop, map, eqb, cond, refl, sym, ap, ◌∙◌, arith, ⊎_elim}
use Rattle.std.proofs.lemmas.List.{length-take-le, take-append-drop}
use Rattle.std.proofs.lemmas.Bool.{cases_eq}
use Rattle.std.proofs.lemmas.Bool.Decides.{nat_tests}
use Rattle.ba_lits.specs.Literals.{Literal, index_of, lit_at}
use Rattle.ba_arena.specs.Clauses.{Clauses, Stored, IsLive, clause_at, lits_at, number_at, number_of as stored_number}
use Rattle.ba_watch.specs.Threads.{Clause, plain, plain_at}
use Rattle.ba_watch.specs.Trails.{value_of, trail_index}
use Rattle.ba_watch.specs.Propagation.{State, plain_lits, clause_in, lits_in, KeepsFacts}
use Rattle.ba_watch.proofs.Values.{trail_index-some, trail_index-append}
use Rattle.ba_lits.proofs.Members.{same_from_index}
use Rattle.ba_lits.specs.Hints.{has_literal}
use Rattle.ba_watch.proofs.Visits.{some-plain}
use Rattle.ba_watch.proofs.Sounds.{clause_in-map, lits_in-map}
use Rattle.ba_learn.specs.Resolving.{AreBelow, number_of, number_in}

-- what contracts see of the arena
pub live_in : (a : Clauses) (cs : List (Option Clause)) (r : ℕ) → map plain a ≡ cs →
    IsSome (clause_in cs r) → IsLive a r
live_in a cs r e live = some-plain a r ∙ (ap is_some (sym (clause_in-map a r))
    ∙ (ap (λ (x : List (Option Clause)). is_some (clause_in x r)) e ∙ live))

pub lits_same : (a : Clauses) (cs : List (Option Clause)) (r : ℕ) → map plain a ≡ cs →
    lits_at a r ≡ lits_in cs r
lits_same a cs r e = sym (lits_in-map a r) ∙ ap (λ (x : List (Option Clause)). lits_in x r) e

-- the place of a literal of the trail
pub trail_index-at : (xs : List Literal) (p : ℕ) → p < length xs → value_of (take p xs) (lit_at xs p) ≡ None →
    trail_index xs (lit_at xs p).variable ≡ p
trail_index-at [] p within none = absurd (omega arith)
trail_index-at (x ∷ xs) zero within none = first x.variable
  where
    first : (v : ℕ) → cond (eqb v v) 0 (suc (trail_index xs v)) ≡ 0
    first v = grind (arith, nat_tests)
trail_index-at (x ∷ xs) (suc p) within none = step (eqb x.variable (lit_at xs p).variable) _
    (value_of (take p xs) (lit_at xs p)) (trail_index xs (lit_at xs p).variable)
    (trail_index-at xs p (omega arith)) none
  where
    step : (c s : Bool) (v : Option Bool) (q : ℕ) → (v ≡ None → q ≡ p) → cond c (Some s) v ≡ None →
        cond c 0 (suc q) ≡ suc p
    step true s v q rest e = absurd (cc e)
    step false s v q rest e = ap suc (rest e)

-- a literal that is false at the front of the trail has its place there
pub trail_index-front_some : (xs : List Literal) (p : ℕ) (l : Literal) (b : Bool) → p ≤ length xs →
    value_of (take p xs) l ≡ Some b → trail_index xs l.variable < p
trail_index-front_some xs p l b le has =
    let within : trail_index (take p xs) l.variable < length (take p xs) =
    trail_index-some (take p xs) l b has in
    let same : trail_index (take p xs ++ drop p xs) l.variable ≡ trail_index (take p xs) l.variable =
    trail_index-append (take p xs) (drop p xs) l.variable within in
    let whole : trail_index xs l.variable ≡ trail_index (take p xs) l.variable =
    ap (λ (ys : List Literal). trail_index ys l.variable) (sym (take-append-drop p xs)) ∙ same in
    omega (arith, length-take-le p xs le, whole, within)

-- the literals of a reason have places up to its own
pub reason_below : (s : State) (p r : ℕ) → KeepsFacts s → p < length s.trail →
    get_or s.reasons p None ≡ Some r → AreBelow s (p + 1) (lits_in s.clauses r)
reason_below s p r facts within is k k_in =
    let reason = facts.reasons p r within is in
    let l : Literal = lit_at (lits_in s.clauses r) k in
    ⊎_elim
    (λ same.
    let l_is : l ≡ lit_at s.trail p = same_from_index l (lit_at s.trail p) same in
    omega (
      arith,
      ap (λ (x : Literal). trail_index s.trail x.variable) l_is,
      trail_index-at s.trail p within
          (facts.trail.fresh p within),
    ))
    (λ other. omega
    (arith, trail_index-front_some s.trail p l false (omega arith) (reason.others k k_in other)))
    (cases_eq (index_of l) (index_of (lit_at s.trail p)))

-- a reason is live
pub reason_live : (s : State) (p r : ℕ) → KeepsFacts s → p < length s.trail →
    get_or s.reasons p None ≡ Some r → IsSome (clause_in s.clauses r)
reason_live s p r facts within is = step (clause_in s.clauses r) (facts.reasons p r within is).has
  where
    step : (o : Option Clause) → has_literal (lit_at s.trail p) (plain_lits o) ≡ true → IsSome o
    step None has = absurd (cc has)
    step (Some c) has = refl

-- only places of the trail have reasons
pub some_within : (R : List (Option ℕ)) (p : ℕ) → IsSome (get_or R p None) → p < length R
some_within [] p some = absurd (cc some)
some_within (r ∷ R) zero some = omega arith
some_within (r ∷ R) (suc p) some = omega (arith, some_within R p some)

-- the numbers of clauses
number-plain : (a : Clauses) (r : ℕ) → number_at a r ≡ number_of (plain_at a r)
number-plain a r = step (clause_at a r)
  where
    step : (o : Option Stored) → stored_number o ≡ number_of (plain o)
    step None = refl
    step (Some s) = refl

pub number_same : (s : State) (a : Clauses) (r : ℕ) → map plain a ≡ s.clauses → number_at a r ≡ number_in s r
number_same s a r e = number-plain a r ∙ (ap number_of (sym (clause_in-map a r))
    ∙ ap (λ (x : List (Option Clause)). number_of (clause_in x r)) e)
