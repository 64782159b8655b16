-- What is known when a resolution is finished.

use Rattle.std.proofs.Common.{◌≡◌, ℕ, ◌+◌, ◌<◌, Bool, true, false, ◌&&◌, None, IsSome, List, [], ◌∷◌, ◌++◌, length, get_or, map, ltb, leb, sym, ap, subst, arith}
use Rattle.std.proofs.lemmas.Bool.Decides.{nat_tests}
use Rattle.std.proofs.lemmas.List.Elements.{All-from_get_or}
use Rattle.std.proofs.lemmas.List.Sorted.{All-permutation}
use Rattle.std.specs.List.{All}
use Rattle.ba_lits.specs.Literals.{Literal, lit_at}
use Rattle.ba_watch.specs.Chains.{occurrences}
use Rattle.ba_watch.specs.Trails.{value_of, decided}
use Rattle.ba_watch.specs.Propagation.{State, clause_in, lits_in, is_false, KeepsFacts}
use Rattle.ba_watch.proofs.Values.{trail_index-some}
use Rattle.ba_watch.proofs.Levels.{decided-take_drop}
use Rattle.ba_watch.proofs.Walks.{at_occurs}
use Rattle.ba_learn.specs.Live.{Follows}
use Rattle.ba_learn.specs.Resolving.{Work, is_seen, is_pending, IsWork, MayKeep, AreBelow, AreSeen, AreCovered, Resolves, MayStart, number_in, number_at, SortsNumbers}
use Rattle.ba_learn.proofs.FollowLaws.{false_at, known, refutes}

-- the literals of a false clause are on the trail
pub false_below : (s : State) (lits : List Literal) → is_false (value_of s.trail) lits ≡ true →
    AreBelow s (length s.trail) lits
false_below s lits h k k_in = trail_index-some s.trail (lit_at lits k) false
    (false_at (value_of s.trail) lits h k k_in)

pub may_start : (s : State) (n : ℕ) (lits : List Literal) → n ≡ length s.trail →
    is_false (value_of s.trail) lits ≡ true → MayStart s n (length s.trail) lits
may_start s n lits e h = record { floor_le = omega arith; within = omega arith; below = false_below s lits h }

-- a resolution that has come to its end
pub record HasEnded (s : State) (high : ℕ) (w : Work) (conflict : ℕ) : Type 0 where
  pub work : IsWork s high w
  pub waiting : w.waiting ≡ []
  pub covered : AreCovered s (is_seen w) w.resolved
  pub met : AreSeen s (is_seen w) (lits_in s.clauses conflict)

pub ended : (s : State) (high : ℕ) (u w : Work) (conflict : ℕ) → u.resolved ≡ [] →
    AreSeen s (is_seen u) (lits_in s.clauses conflict) → Resolves s u w → IsWork s high w → w.waiting ≡ [] →
    HasEnded s high w conflict
ended s high u w conflict none met steps work' waiting = record {
  work = work';
  waiting = waiting;
  covered = steps.covered (λ p some. absurd (omega (arith, some, ap (occurrences p) none)));
  met = λ k k_in. steps.grows _ (met k k_in);
}

-- what holds at each place of a list, in another order
pub places_all : (P : ℕ → Type 0) (xs : List ℕ) → ((p : ℕ) → 0 < occurrences p xs → P p) → All P xs
places_all P xs h = All-from_get_or P xs 0 (λ k k_in. h (get_or xs k 0) (at_occurs xs k k_in))

pub sorted_reasons : (s : State) (high : ℕ) (w : Work) (places : List ℕ) → IsWork s high w →
    SortsNumbers w.resolved places → All (λ p. IsSome (get_or s.reasons p None)) places
sorted_reasons s high w places work sorted = All-permutation (λ (p : ℕ). IsSome (get_or s.reasons p None))
    w.resolved places sorted.same (places_all (λ p. IsSome (get_or s.reasons p None)) w.resolved
    work.resolved)

-- the hints of the empty clause
pub refuted : (s : State) (w : Work) (conflict : ℕ) (places : List ℕ) → KeepsFacts s →
    HasEnded s (length s.trail) w conflict → w.floor ≡ length s.trail → w.deep ≡ false → decided s.reasons ≡ 0
    → IsSome (clause_in s.clauses conflict) → is_false (value_of s.trail) (lits_in s.clauses conflict)
    ≡ true → SortsNumbers w.resolved places → Follows s.clauses [] (map (number_at s) places
    ++ number_in s conflict ∷ [])
refuted s w conflict places facts e floor deep level live is_false' sorted clauses are =
    refutes s facts (length s.trail) w e.work e.waiting e.covered [] places sorted
    (λ q some. absurd (no_kept q some))
    (λ p q some lt pending. absurd (no_pending q pending))
    (λ q some l has. absurd (cc has))
    clauses are conflict live
    (λ k k_in. known s facts (length s.trail) w e.work e.waiting e.covered [] places sorted
    (λ q some. absurd (no_kept q some))
    (λ p q some lt pending. absurd (no_pending q pending))
    (λ q some l has. absurd (cc has))
    clauses are (number_in s conflict) (lit_at (lits_in s.clauses conflict) k)
    (false_at (value_of s.trail) (lits_in s.clauses conflict) is_false' k k_in) (e.met k k_in)
    (λ pending. absurd (no_pending _ pending)))
  where
    above_zero : (p : ℕ) (b : Bool) → b ≡ false → MayKeep s b p → ⊥
    above_zero p true eq may = absurd (cc eq)
    above_zero p false eq may = omega (arith, may, decided-take_drop (p + 1) s.reasons, level)

    no_kept : (q : ℕ) → 0 < occurrences q w.kept → ⊥
    no_kept q some = above_zero q w.deep deep (e.work.kept q some)

    between : (n f q : ℕ) (b : Bool) → f ≡ n → (ltb q n && (leb f q && b)) ≡ true → ⊥
    between n f q b eq h = grind (arith, nat_tests)

    no_pending : (q : ℕ) → is_pending (length s.trail) w q ≡ true → ⊥
    no_pending q pending = between (length s.trail) w.floor q (is_seen w q) floor pending

pub kept_places : (s : State) (high : ℕ) (w : Work) (places : List ℕ) → IsWork s high w → places ≡ w.kept →
    All (λ p. p < length s.trail) places
kept_places s high w places work e =
    subst (λ (xs : List ℕ). All (λ (p : ℕ). p < length s.trail) xs) (sym e)
    (places_all (λ p. p < length s.trail) w.kept (λ p some. omega
    (arith, work.kept_below p some, work.floor, work.within)))
