-- Resolving with reasons: down the trail, and whatever waits.

use Rattle.std.proofs.Common.{◌≡◌, ◌≢◌, ℕ, suc, zero, ◌+◌, ◌-◌, ◌*◌, ◌<◌, ◌≤◌, Bool, true, false, ◌&&◌, Option, None, Some, IsSome, is_some, List, [], ◌∷◌, ◌++◌, length, get_or, eqb, ltb, leb, refl, sym, ap, subst, ◌∙◌, arith, inr, ⊎_elim}
use Rattle.std.proofs.lemmas.List.{length_push}
use Rattle.std.proofs.lemmas.List.Elements.{All-nil, All-weaker, All-from_get_or}
use Rattle.ba_lits.specs.Literals.{Literal, lit_at, no_literal}
use Rattle.ba_lits.specs.Satisfaction.{one_if}
use Rattle.std.proofs.Math.Numerals.{suc-eq-add-one}
use Rattle.std.proofs.lemmas.Bool.{cases_eq, cases_lt, and_right}
use Rattle.std.proofs.lemmas.Bool.Decides.{nat_tests}
use Rattle.std.proofs.lemmas.List.Sorted.{length_permutation}
use Rattle.std.specs.List.Sorted.{IsPermutation}
use Rattle.ba_watch.specs.Chains.{occurrences}
use Rattle.ba_watch.specs.Trails.{decided, level_at}
use Rattle.ba_watch.proofs.Levels.{decided-take-le}
use Rattle.ba_watch.specs.Propagation.{State, lits_in, KeepsFacts}
use Rattle.ba_learn.specs.Resolving.{Work, count_below, is_seen, is_above, IsWork, AreBelow, AreSeen, MayMeet, Meets, with_resolved, MayResolve, reason_lits, reason_of_index, AreCovered, Resolves, KeepsWork, IsStart, IsAbsorbed, AreAbsorbed, IsInert, IsRedundant, IsMinimised, trail_index_in}
use Rattle.ba_learn.proofs.WorkLaws.{occurrences-push, occurrences-append, pushed_cases, one_if-le, count_below-le, count_below-bound}
use Rattle.ba_learn.proofs.ReasonLaws.{reason_below}
use Rattle.ba_learn.proofs.FollowLaws.{occurrences-permutation}

-- without a decision the level is 0
pub decided-zero : (R : List (Option ℕ)) → ((p : ℕ) → p < length R → IsSome (get_or R p None)) → decided R ≡ 0
decided-zero [] some = refl
decided-zero (None ∷ R) some = absurd (cc (some 0 (omega arith)))
decided-zero (Some r ∷ R) some = decided-zero R (λ p p_in. some (suc p) (omega arith))

-- the search for the last decision goes on while there is one further down
pub start_further : (R : List (Option ℕ)) (p : ℕ) → 1 ≤ decided R → p < length R →
    ((q : ℕ) → p < q → q < length R → IsSome (get_or R q None)) → IsSome (get_or R p None) → 1 ≤ p
start_further R zero level within later here =
    absurd (omega (
      arith,
      level,
      decided-zero R (λ q q_in. ⊎_elim
          (λ e. subst (λ (x : ℕ). IsSome (get_or R x None)) (sym e) here)
          (λ ne. later q (omega (arith, ne)) q_in) (cases_eq q 0)),
    ))
start_further R (suc p) level within later here = omega arith

-- how many places are in a set of which some front, or some stretch, has none
pub count_below-zero : (f : ℕ → Bool) (n : ℕ) → ((p : ℕ) → p < n → f p ≡ false) → count_below f n ≡ 0
count_below-zero f zero none = refl
count_below-zero f (suc n) none = omega (
  arith,
  ap one_if (none n (omega arith)),
  count_below-zero f n
      (λ p lt. none p (omega arith)),
)

pub count_below-gap : (f : ℕ → Bool) (m n : ℕ) → m ≤ n → ((p : ℕ) → m ≤ p → p < n → f p ≡ false) →
    count_below f n ≡ count_below f m
count_below-gap f zero zero le none = refl
count_below-gap f (suc m) zero le none = absurd (omega arith)
count_below-gap f m (suc n) le none = ⊎_elim
    (λ e. ap (count_below f) (sym e))
    (λ ne. omega (
      arith,
      ap one_if (none n (omega (arith, le, ne)) (omega arith)),
      count_below-gap f m n
          (omega (arith, le, ne)) (λ p ge lt. none p ge (omega arith)),
    ))
    (cases_eq m (suc n))

pub count_below-more : (f : ℕ → Bool) (n : ℕ) → count_below f (n + 1) ≡ one_if (f n) + count_below f n
count_below-more f n = ap (count_below f) (sym (suc-eq-add-one n))

not_above : (floor p : ℕ) (b : Bool) → p < floor → (leb floor p && b) ≡ false
not_above floor p b lt = grind (arith, nat_tests)

above_floor : (w : Work) (n : ℕ) → n ≤ w.floor → count_below (is_above w) n ≡ 0
above_floor w n le = count_below-zero (is_above w) n (λ p lt. not_above w.floor p (is_seen w p) (omega arith))

-- the latest pending place
pub pending_floor : (w : Work) (place : ℕ) → 1 ≤ count_below (is_above w) (place + 1) → w.floor ≤ place
pending_floor w place some = ⊎_elim
    (λ below. absurd (omega (arith, some, above_floor w (place + 1) (omega arith))))
    (λ above. above)
    (cases_lt place w.floor)

-- the walk goes on to the latest place that is pending
pub work_narrower : (s : State) (w : Work) (end place : ℕ) → IsWork s end w → place < end →
    w.floor ≤ place → ((p : ℕ) → place < p → p < end → is_seen w p ≡ false) → IsWork s (place + 1) w
work_narrower s w end place i below above none = record {
  short = i.short;
  within = omega (arith, i.within);
  floor = omega arith;
  ranged = i.ranged;
  parted = λ q. parted (occurrences q w.kept) (occurrences q w.resolved) (occurrences q w.waiting) w.floor q
      (is_seen w q) (none q) (i.parted q);
  pending = i.pending ∙ count_below-gap (is_above w) (place + 1) end (omega arith)
      (λ p ge lt. and_right (leb w.floor p) (is_seen w p) (none p (omega arith) lt));
  kept_below = i.kept_below;
  kept = i.kept;
  resolved = i.resolved;
  resolved_below = i.resolved_below;
  waiting = i.waiting;
  waiting_below = i.waiting_below;
}
  where
    parted : (k r v floor q : ℕ) (m : Bool) → (place < q → q < end → m ≡ false) →
        k + (r + (v + one_if (ltb q end && (leb floor q && m)))) ≡ one_if m →
        k + (r + (v + one_if (ltb q (place + 1) && (leb floor q && m)))) ≡ one_if m
    parted k r v floor q true none h = grind (arith, nat_tests)
    parted k r v floor q false none h = grind (arith, nat_tests)

-- steps of resolution
pub Resolves-none : (s : State) (w : Work) → Resolves s w w
Resolves-none s w = record { grows = λ p e. e; floor = refl; deep = refl; covered = λ c. c }

pub Resolves-trans : (s : State) (u v w : Work) → Resolves s u v → Resolves s v w → Resolves s u w
Resolves-trans s u v w a b = record {
  grows = λ p e. b.grows p (a.grows p e);
  floor = b.floor ∙ a.floor;
  deep = b.deep ∙ a.deep;
  covered = λ c. b.covered (a.covered c);
}

-- the reason of a place with its literals seen
covered_push : (s : State) (old new : ℕ → Bool) (places : List ℕ) (place : ℕ) →
    ((p : ℕ) → old p ≡ true → new p ≡ true) → AreCovered s old places →
    AreSeen s new (reason_of_index s place) → AreCovered s new (places ++ place ∷ [])
covered_push s old new places place grows covered here p some k k_in = ⊎_elim
    (λ was. grows _ (covered p was k k_in))
    (λ same. (subst (λ (x : ℕ). AreSeen s new (reason_of_index s x)) (sym same) here) k k_in)
    (pushed_cases p places place some)

-- a pending place is resolved
module _ (s : State) (old mid : Work) (place reason : ℕ) (facts : KeepsFacts s)
    (is : get_or s.reasons place None ≡ Some reason) (work : IsWork s (place + 1) old)
    (seen : is_seen old place ≡ true) (above : old.floor ≤ place)
    (met : Meets s old mid (lits_in s.clauses reason)) where
  within : place < length s.trail
  within = work.ranged place seen

  abbrev done : Work
  done = record mid { pending = mid.pending - 1; resolved = mid.resolved ++ place ∷ [] }

  mid_work : IsWork s (place + 1) mid
  mid_work = met.work (place + 1) work (reason_below s place reason facts within is)

  pub resolved_resolves : Resolves s old done
  resolved_resolves = record {
    grows = met.grows;
    floor = met.floor;
    deep = met.deep;
    covered = λ c. covered_push s (is_seen old) (is_seen mid) mid.resolved place met.grows
        (subst (λ (xs : List ℕ). AreCovered s (is_seen old) xs) (sym met.resolved) c)
        (subst (λ (o : Option ℕ). AreSeen s (is_seen mid) (reason_lits s o)) (sym is) met.met);
  }

  mid_above : mid.floor ≤ place
  mid_above = omega (arith, met.floor, above)

  mid_seen : is_seen mid place ≡ true
  mid_seen = met.grows place seen

  pub resolved_work : old.deep ≡ false → IsWork s place done
  resolved_work shallow = record {
    short = mid_work.short;
    within = omega arith;
    floor = mid_above;
    ranged = mid_work.ranged;
    parted = λ q. parted (occurrences q mid.kept) (occurrences q mid.resolved)
        (occurrences q (mid.resolved ++ place ∷ [])) (occurrences q mid.waiting) mid.floor q (is_seen mid q)
        mid_above
        (λ e. ap (is_seen mid) e ∙ mid_seen) (occurrences-push q mid.resolved place) (mid_work.parted q);
    pending = omega (
      arith,
      mid_work.pending,
      count_below-more (is_above mid) place,
      one_above mid.floor
          place (is_seen mid place) mid_above mid_seen,
    );
    kept_below = mid_work.kept_below;
    kept = mid_work.kept;
    resolved = λ p some. ⊎_elim (λ was. mid_work.resolved p was)
        (λ same. subst (λ (x : ℕ). IsSome (get_or s.reasons x None)) (sym same) (ap is_some is))
        (pushed_cases p mid.resolved place some);
    resolved_below = λ p some deep. absurd (clash (sym deep ∙ (met.deep ∙ shallow)));
    waiting = mid_work.waiting;
    waiting_below = mid_work.waiting_below;
  }
    where
      clash : true ≡ false → ⊥
      clash e = cc e

      one_above : (floor p : ℕ) (b : Bool) → floor ≤ p → b ≡ true → one_if (leb floor p && b) ≡ 1
      one_above floor p b le e = grind (arith, nat_tests)

      parted : (k r r' v floor q : ℕ) (m : Bool) → floor ≤ place → (q ≡ place → m ≡ true) →
          r' ≡ r + one_if (eqb place q)
          → k + (r + (v + one_if (ltb q (place + 1) && (leb floor q && m)))) ≡ one_if m →
          k + (r' + (v + one_if (ltb q place && (leb floor q && m)))) ≡ one_if m
      parted k r r' v floor q true le here more h = grind (arith, nat_tests)
      parted k r r' v floor q false le here more h = grind (arith, nat_tests)

-- if others are pending, the latest one was not decided
pub pending_reason : (s : State) (w : Work) (place : ℕ) → IsWork s (place + 1) w → IsStart s w.floor →
    w.floor ≤ place → place < length s.trail → 2 ≤ w.pending → IsSome (get_or s.reasons place None)
pending_reason s w place i start above within others = ⊎_elim
    (λ e. absurd (omega (
      arith,
      i.pending,
      count_below-more (is_above w) place,
      one_if-le
          (is_above w place),
      above_floor w place (omega (arith, e)),
    )))
    (λ ne. start.later place (omega (arith, above, ne)) within)
    (cases_eq place w.floor)

-- the literals of the reason of a place became false before it
reason_of_index-below : (s : State) → KeepsFacts s → (place n : ℕ) → place < n → place < length s.trail →
    AreBelow s n (reason_of_index s place)
reason_of_index-below s facts place n lt within = step (get_or s.reasons place None) refl
  where
    step : (o : Option ℕ) → get_or s.reasons place None ≡ o → AreBelow s n (reason_lits s o)
    step None e = λ k k_in. absurd (omega arith)
    step (Some r) e = λ k k_in. omega (arith, reason_below s place r facts within e k k_in, lt)

-- the literals of the reason of a place to be resolved may be met
pub may_meet_reason : (s : State) (w w' : Work) (place reason : ℕ) → KeepsFacts s →
    get_or s.reasons place None ≡ Some reason → place < length s.trail → MayResolve s w place →
    w' ≡ with_resolved w place → MayMeet s w' (lits_in s.clauses reason)
may_meet_reason s w w' place reason facts is within may e = (
  may.0,
  subst (λ (x : Work). IsWork s may.0 x) (sym e) may.1,
  λ k k_in. omega (arith, reason_below s place reason facts within is k k_in, may.2),
)

pub met_reason : (s : State) (w w' new : Work) (place reason : ℕ) →
    get_or s.reasons place None ≡ Some reason → w' ≡ with_resolved w place →
    Meets s w' new (lits_in s.clauses reason) → Meets s (with_resolved w place) new (reason_of_index s place)
met_reason s w w' new place reason is e met =
    subst (λ (o : Option ℕ). Meets s (with_resolved w place) new (reason_lits s o)) (sym is)
    (subst (λ (x : Work). Meets s x new (lits_in s.clauses reason)) e met)

-- if only places of level 0 are seen, no more is absorbed, or redundant
pub inert_absorbed : (s : State) (old new : Work) (lits : List Literal) → IsInert s old new →
    AreAbsorbed s (is_seen new) lits → AreAbsorbed s (is_seen old) lits
inert_absorbed s old new lits inert all =
    All-weaker (IsAbsorbed s (is_seen new)) (IsAbsorbed s (is_seen old))
    (λ l h. (h.0, ⊎_elim (λ m. inert.seen _ m) (λ z. inr z) h.1)) lits all

pub inert_redundant : (s : State) (old new : Work) (p : ℕ) → IsInert s old new → IsRedundant s new p →
    IsRedundant s old p
inert_redundant s old new p inert h = (h.0, inert_absorbed s old new (reason_of_index s p) inert h.1)

-- the reason of a place of level 0 is settled
zero_absorbed : (s : State) (seen : ℕ → Bool) (p : ℕ) → KeepsFacts s → p < length s.trail →
    level_at s.reasons p ≡ 0 → AreAbsorbed s seen (reason_of_index s p)
zero_absorbed s seen p facts within z = step (get_or s.reasons p None) refl
  where
    one : (r : ℕ) → get_or s.reasons p None ≡ Some r → (k : ℕ) → k < length (lits_in s.clauses r) →
        IsAbsorbed s seen (lit_at (lits_in s.clauses r) k)
    one r e k k_in =
        let below : trail_index_in s (lits_in s.clauses r) k < p + 1 =
        reason_below s p r facts within e k k_in in
        let le : level_at s.reasons (trail_index_in s (lits_in s.clauses r) k) ≤ level_at s.reasons p =
        decided-take-le (trail_index_in s (lits_in s.clauses r) k + 1) (p + 1) s.reasons
        (omega (arith, below)) in
        (omega (arith, below), inr (omega (arith, z, le)))

    step : (o : Option ℕ) → get_or s.reasons p None ≡ o → AreAbsorbed s seen (reason_lits s o)
    step None e = All-nil (IsAbsorbed s seen)
    step (Some r) e = All-from_get_or (IsAbsorbed s seen) (lits_in s.clauses r) no_literal (one r e)

-- the last of a list in the place of one that is taken out
pub swapped_rest : (P : ℕ → Type 0) (xs ys : List ℕ) (index : ℕ) → length ys + 1 ≡ length xs →
    (index + 1 < length xs → get_or ys index 0 ≡ get_or xs (length xs - 1) 0) →
    ((k : ℕ) → k ≢ index → k + 1 < length xs → get_or ys k 0 ≡ get_or xs k 0)
    → ((k : ℕ) → index + 1 ≤ k → k < length xs → P (get_or xs k 0)) → (k : ℕ) → index ≤ k → k < length ys →
    P (get_or ys k 0)
swapped_rest P xs ys index len here there all k above within = ⊎_elim
    (λ same. subst (λ (j : ℕ). P (get_or ys j 0)) (sym same)
    (subst P (sym (here (omega (arith, same)))) (all (length xs - 1) (omega (arith, same))
    (omega arith))))
    (λ other. subst P (sym (there k other (omega arith))) (all k (omega (arith, above, other)) (omega arith)))
    (cases_eq k index)

-- the last waiting place is resolved
module _ (s : State) (old : Work) (rest : List ℕ) (place : ℕ) (is : old.waiting ≡ rest ++ place ∷ []) where
  abbrev pub popped : Work
  popped = record old { waiting = rest }

  waits : 0 < occurrences place old.waiting
  waits = omega (arith, ap (occurrences place) is, occurrences-push place rest place, self place)
    where
      self : (n : ℕ) → one_if (eqb n n) ≡ 1
      self n = grind (arith, nat_tests)

  pub popped_within : (high : ℕ) → IsWork s high old → place < length s.trail
  popped_within high i = omega (arith, i.waiting_below place waits, i.floor, i.within)

  pub popped_reason : (high : ℕ) → IsWork s high old → IsSome (get_or s.reasons place None)
  popped_reason high i = (i.waiting place waits).reason

  front_waits : (p : ℕ) → 0 < occurrences p rest → 0 < occurrences p old.waiting
  front_waits p some = omega (arith, some, ap (occurrences p) is, occurrences-append p rest (place ∷ []))

  popped_work : (high : ℕ) → IsWork s high old → IsWork s high (with_resolved popped place)
  popped_work high i = record {
    short = i.short;
    within = i.within;
    floor = i.floor;
    ranged = i.ranged;
    parted = λ q. omega (
      arith,
      i.parted q,
      ap (occurrences q) is,
      occurrences-push q rest place,
      occurrences-push q old.resolved place,
    );
    pending = i.pending;
    kept_below = i.kept_below;
    kept = i.kept;
    resolved = λ p some. ⊎_elim (λ was. i.resolved p was)
        (λ same. subst (λ (x : ℕ). IsSome (get_or s.reasons x None)) (sym same) (popped_reason high i))
        (pushed_cases p old.resolved place some);
    resolved_below = λ p some deep. ⊎_elim (λ was. i.resolved_below p was deep)
        (λ same. omega (arith, same, i.waiting_below place waits)) (pushed_cases p old.resolved place some);
    waiting = λ p some. i.waiting p (front_waits p some);
    waiting_below = λ p some. i.waiting_below p (front_waits p some);
  }

  pub popped_may : (high : ℕ) → IsWork s high old → MayResolve s popped place
  popped_may high i = (high, popped_work high i, omega (arith, i.waiting_below place waits, i.floor))

  module _ (new : Work) (met : Meets s (with_resolved popped place) new (reason_of_index s place)) where
    pub popped_resolves : Resolves s old new
    popped_resolves = record {
      grows = met.grows;
      floor = met.floor;
      deep = met.deep;
      covered = λ c. subst (λ (xs : List ℕ). AreCovered s (is_seen new) xs) (sym met.resolved)
          (covered_push s (is_seen old) (is_seen new) old.resolved place met.grows c met.met);
    }

    pub popped_keeps : KeepsFacts s → KeepsWork s old new
    popped_keeps facts high i =
        met.work high (popped_work high i)
        (reason_of_index-below s facts place high (omega (arith, i.waiting_below place waits, i.floor))
        (popped_within high i))

    pub popped_pending : KeepsFacts s → (high : ℕ) → IsWork s high old → new.pending ≡ old.pending
    popped_pending facts high i =
        met.still (reason_of_index-below s facts place old.floor (i.waiting_below place waits)
        (popped_within high i))

    pub popped_short : KeepsFacts s → (high : ℕ) → IsWork s high old → old.deep ≡ false →
        IsMinimised s old → IsMinimised s new
    popped_short facts high i shallow short p some implied =
        let inert : IsInert s (with_resolved popped place) new =
        met.inert shallow (zero_absorbed s (is_seen old) place facts (popped_within high i)
        ((i.waiting place waits).level shallow)) in
        short p (subst (λ (xs : List ℕ). 0 < occurrences p xs) inert.kept some)
        (inert_redundant s (with_resolved popped place) new p inert implied)

    -- each turn sees a place or takes one from those that wait
    pub popped_less : KeepsFacts s → (high : ℕ) → IsWork s high old
        → 2 * (length s.trail - count_below (is_seen new) (length s.trail)) + length new.waiting < 2 *
        (length s.trail - count_below (is_seen old) (length s.trail)) + length old.waiting
    popped_less facts high i =
        let n : ℕ = length s.trail in
        let within : place < n = popped_within high i in
        omega (
          arith,
          met.spends n (reason_of_index-below s facts place n within within),
          count_below-le
              (is_seen old) (is_seen new) met.grows n,
          count_below-bound
              (is_seen new) n,
          ap length is,
          length_push rest place,
        )

-- a kept place is on the trail
pub kept_on_trail : (s : State) (old : Work) (place high : ℕ) → IsWork s high old → (rest : List ℕ) →
    IsPermutation old.kept (place ∷ rest) → place < length s.trail
kept_on_trail s old place high i rest is = omega (
  arith,
  i.kept_below place (omega (
    arith,
    occurrences-permutation place old.kept (place ∷ rest) is,
    self
        place,
  )),
  i.floor,
  i.within,
)
  where
    self : (n : ℕ) → one_if (eqb n n) ≡ 1
    self n = grind (arith, nat_tests)

-- a kept place is resolved
module _ (s : State) (old : Work) (rest : List ℕ) (place : ℕ) (is : IsPermutation old.kept (place ∷ rest))
    (some : IsSome (get_or s.reasons place None)) where
  abbrev pub dropped : Work
  dropped = record old { kept = rest }

  kept_same : (q : ℕ) → one_if (eqb place q) + occurrences q rest ≡ occurrences q old.kept
  kept_same q = occurrences-permutation q old.kept (place ∷ rest) is

  was_kept : 0 < occurrences place old.kept
  was_kept = omega (arith, kept_same place, self place)
    where
      self : (n : ℕ) → one_if (eqb n n) ≡ 1
      self n = grind (arith, nat_tests)

  front_kept : (p : ℕ) → 0 < occurrences p rest → 0 < occurrences p old.kept
  front_kept p h = omega (arith, h, kept_same p)

  pub dropped_within : (high : ℕ) → IsWork s high old → place < length s.trail
  dropped_within high i = omega (arith, i.kept_below place was_kept, i.floor, i.within)

  dropped_work : (high : ℕ) → IsWork s high old → IsWork s high (with_resolved dropped place)
  dropped_work high i = record {
    short = i.short;
    within = i.within;
    floor = i.floor;
    ranged = i.ranged;
    parted = λ q. omega (arith, i.parted q, kept_same q, occurrences-push q old.resolved place);
    pending = i.pending;
    kept_below = λ p h. i.kept_below p (front_kept p h);
    kept = λ p h. i.kept p (front_kept p h);
    resolved = λ p h. ⊎_elim (λ was. i.resolved p was)
        (λ same. subst (λ (x : ℕ). IsSome (get_or s.reasons x None)) (sym same) some)
        (pushed_cases p old.resolved place h);
    resolved_below = λ p h deep. ⊎_elim (λ was. i.resolved_below p was deep)
        (λ same. omega (arith, same, i.kept_below place was_kept)) (pushed_cases p old.resolved place h);
    waiting = i.waiting;
    waiting_below = i.waiting_below;
  }

  pub dropped_may : (high : ℕ) → IsWork s high old → MayResolve s dropped place
  dropped_may high i = (high, dropped_work high i, omega (arith, i.kept_below place was_kept, i.floor))

  module _ (new : Work) (met : Meets s (with_resolved dropped place) new (reason_of_index s place)) where
    pub dropped_resolves : Resolves s old new
    dropped_resolves = record {
      grows = met.grows;
      floor = met.floor;
      deep = met.deep;
      covered = λ c. subst (λ (xs : List ℕ). AreCovered s (is_seen new) xs) (sym met.resolved)
          (covered_push s (is_seen old) (is_seen new) old.resolved place met.grows c met.met);
    }

    pub dropped_keeps : KeepsFacts s → KeepsWork s old new
    dropped_keeps facts high i =
        met.work high (dropped_work high i)
        (reason_of_index-below s facts place high (omega (arith, i.kept_below place was_kept, i.floor))
        (dropped_within high i))

    pub dropped_pending : KeepsFacts s → (high : ℕ) → IsWork s high old → new.pending ≡ old.pending
    dropped_pending facts high i =
        met.still (reason_of_index-below s facts place old.floor (i.kept_below place was_kept)
        (dropped_within high i))

    pub dropped_inert : old.deep ≡ false → AreAbsorbed s (is_seen old) (reason_of_index s place) →
        IsInert s (with_resolved dropped place) new
    dropped_inert shallow settled = met.inert shallow settled

    pub dropped_length : (index : ℕ) → index < length old.kept → index ≤ length new.kept
    dropped_length index within = omega (
      arith,
      within,
      met.kept,
      length_permutation old.kept (place ∷ rest)
          is,
    )
