-- A literal more is seen.

use Rattle.std.proofs.Common.{◌≡◌, ◌≢◌, ℕ, suc, zero, ◌+◌, ◌^◌, ◌<◌, ◌≤◌, Bool, true, false, ◌&&◌, ◌||◌, List, [], ◌∷◌, ◌++◌, length, get_or, take, eqb, ltb, leb, refl, sym, ap, subst, ◌∙◌, arith, ◌⊎◌, inl, inr, ⊎_elim}
use Rattle.std.proofs.lemmas.List.{length_push, length-take-le, get_or-take, take-take}
use Rattle.std.proofs.lemmas.List.Elements.{All-head, All-nil, All-cons, All-take, All-get_or}
use Rattle.std.proofs.lemmas.Bool.{cases_eq, cases_lt, and_right, or_right}
use Rattle.std.proofs.lemmas.Bool.Decides.{nat_tests}
use Rattle.ba_lits.specs.Literals.{Literal, lit_at, no_literal}
use Rattle.ba_lits.specs.Satisfaction.{one_if}
use Rattle.ba_watch.specs.Chains.{occurrences}
use Rattle.ba_watch.specs.Trails.{trail_index, level_at}
use Rattle.ba_watch.specs.Propagation.{State}
use Rattle.ba_learn.specs.Resolving.{Work, count_below, is_seen, is_above, MayKeep, IsWork, Parts, ToPending, ToKept, ToWaiting, AreBelow, MayMeet, Meets, MustResolve, IsAbsorbed, AreAbsorbed, IsInert}
use Rattle.ba_learn.proofs.WorkLaws.{occurrences-push, pushed_cases, count_below-same, count_below-add, count_below-bound}

-- the place that is new is in one part of the work
to_pending : (k r w floor high q place : ℕ) (a b : Bool) → place < high → floor ≤ place →
    (q ≡ place → a ≡ false) → b ≡ (eqb q place || a)
    → k + (r + (w + one_if (ltb q high && (leb floor q && a)))) ≡ one_if a →
    k + (r + (w + one_if (ltb q high && (leb floor q && b)))) ≡ one_if b
to_pending k r w floor high q place true b below above apart is h = grind (arith, nat_tests)
to_pending k r w floor high q place false b below above apart is h = grind (arith, nat_tests)

to_kept : (j k r w floor high q place : ℕ) (a b : Bool) → place < floor → (q ≡ place → a ≡ false) →
    b ≡ (eqb q place || a) → j ≡ k + one_if (eqb place q)
    → k + (r + (w + one_if (ltb q high && (leb floor q && a)))) ≡ one_if a →
    j + (r + (w + one_if (ltb q high && (leb floor q && b)))) ≡ one_if b
to_kept j k r w floor high q place true b below apart is more h = grind (arith, nat_tests)
to_kept j k r w floor high q place false b below apart is more h = grind (arith, nat_tests)

to_waiting : (j k r w floor high q place : ℕ) (a b : Bool) → place < floor → (q ≡ place → a ≡ false) →
    b ≡ (eqb q place || a) → j ≡ w + one_if (eqb place q)
    → k + (r + (w + one_if (ltb q high && (leb floor q && a)))) ≡ one_if a →
    k + (r + (j + one_if (ltb q high && (leb floor q && b)))) ≡ one_if b
to_waiting j k r w floor high q place true b below apart is more h = grind (arith, nat_tests)
to_waiting j k r w floor high q place false b below apart is more h = grind (arith, nat_tests)

above_adds : (floor q place : ℕ) (a b : Bool) → floor ≤ place → b ≡ (eqb q place || a) →
    (leb floor q && b) ≡ (eqb q place || (leb floor q && a))
above_adds floor q place true b above is = grind (arith, nat_tests)
above_adds floor q place false b above is = grind (arith, nat_tests)

above_same : (floor q place : ℕ) (a b : Bool) → place < floor → b ≡ (eqb q place || a) →
    (leb floor q && b) ≡ (leb floor q && a)
above_same floor q place true b above is = grind (arith, nat_tests)
above_same floor q place false b above is = grind (arith, nat_tests)

below_one : (n p : ℕ) → p < n → one_if (ltb p n) ≡ 1
below_one n p lt = grind (arith, nat_tests)

-- what a resolution has seen, with one place more
module _ (s : State) (old : Work) (m : List Bool) (place : ℕ) (within : place < length s.trail)
    (fresh : is_seen old place ≡ false) (adds : (p : ℕ) →
    get_or m p false ≡ (eqb p place || is_seen old p)) where
  grown : (p : ℕ) → is_seen old p ≡ true → get_or m p false ≡ true
  grown p e = adds p ∙ or_right (eqb p place) (is_seen old p) e

  here : get_or m place false ≡ true
  here = adds place ∙ left place (is_seen old place)
    where
      left : (n : ℕ) (b : Bool) → (eqb n n || b) ≡ true
      left n b = grind (arith, nat_tests)

  seen_cases : (p : ℕ) → get_or m p false ≡ true → (p ≡ place) ⊎ (is_seen old p ≡ true)
  seen_cases p e = ⊎_elim (λ same. inl same) (λ ne. inr (other p (is_seen old p) ne (sym (adds p) ∙ e)))
      (cases_eq p place)
    where
      other : (p : ℕ) (b : Bool) → p ≢ place → (eqb p place || b) ≡ true → b ≡ true
      other p b ne e = grind (arith, nat_tests)

  ranged : (high : ℕ) → IsWork s high old → (p : ℕ) → get_or m p false ≡ true → p < length s.trail
  ranged high i p e = ⊎_elim (λ same. omega arith) (λ was. i.ranged p was) (seen_cases p e)

  apart : (q : ℕ) → q ≡ place → is_seen old q ≡ false
  apart q e = ap (is_seen old) e ∙ fresh

  work_pending : (high : ℕ) → IsWork s high old → place < high → old.floor ≤ place →
      IsWork s high (record old { seen = m; pending = old.pending + 1 })
  work_pending high i below above = record {
    short = i.short;
    within = i.within;
    floor = i.floor;
    ranged = ranged high i;
    parted = λ q. to_pending (occurrences q old.kept) (occurrences q old.resolved)
        (occurrences q old.waiting) old.floor high q place (is_seen old q) (get_or m q false) below above
        (apart q) (adds q) (i.parted q);
    pending =
        let more = count_below-add (is_above old) (is_above (record old { seen = m })) place
        (λ q. above_adds old.floor q place (is_seen old q) (get_or m q false) above (adds q))
        (and_right (leb old.floor place) (is_seen old place) fresh) high in
        omega (arith, more, i.pending, below_one high place below);
    kept_below = i.kept_below;
    kept = i.kept;
    resolved = i.resolved;
    resolved_below = i.resolved_below;
    waiting = i.waiting;
    waiting_below = i.waiting_below;
  }

  same_above : place < old.floor → (high : ℕ) →
      count_below (is_above (record old { seen = m })) high ≡ count_below (is_above old) high
  same_above below high = count_below-same (is_above old) (is_above (record old { seen = m }))
      (λ q. above_same old.floor q place (is_seen old q) (get_or m q false) below (adds q)) high

  work_kept : (high : ℕ) → IsWork s high old → place < old.floor → MayKeep s old.deep place →
      IsWork s high (record old { seen = m; kept = old.kept ++ place ∷ [] })
  work_kept high i below may = record {
    short = i.short;
    within = i.within;
    floor = i.floor;
    ranged = ranged high i;
    parted = λ q. to_kept (occurrences q (old.kept ++ place ∷ [])) (occurrences q old.kept)
        (occurrences q old.resolved) (occurrences q old.waiting) old.floor high q place (is_seen old q)
        (get_or m q false) below (apart q) (adds q) (occurrences-push q old.kept place) (i.parted q);
    pending = i.pending ∙ sym (same_above below high);
    kept_below = λ p some. ⊎_elim (λ was. i.kept_below p was) (λ same. omega arith)
        (pushed_cases p old.kept place some);
    kept = λ p some. ⊎_elim (λ was. i.kept p was)
        (λ same. subst (λ (x : ℕ). MayKeep s old.deep x) (sym same) may) (pushed_cases p old.kept place some);
    resolved = i.resolved;
    resolved_below = i.resolved_below;
    waiting = i.waiting;
    waiting_below = i.waiting_below;
  }

  work_waiting : (high : ℕ) → IsWork s high old → place < old.floor → MustResolve s old.deep place →
      IsWork s high (record old { seen = m; waiting = old.waiting ++ place ∷ [] })
  work_waiting high i below some_reason = record {
    short = i.short;
    within = i.within;
    floor = i.floor;
    ranged = ranged high i;
    parted = λ q. to_waiting (occurrences q (old.waiting ++ place ∷ [])) (occurrences q old.kept)
        (occurrences q old.resolved) (occurrences q old.waiting) old.floor high q place (is_seen old q)
        (get_or m q false) below (apart q) (adds q) (occurrences-push q old.waiting place) (i.parted q);
    pending = i.pending ∙ sym (same_above below high);
    kept_below = i.kept_below;
    kept = i.kept;
    resolved = i.resolved;
    resolved_below = i.resolved_below;
    waiting = λ p some. ⊎_elim (λ was. i.waiting p was)
        (λ same. subst (λ (x : ℕ). MustResolve s old.deep x) (sym same) some_reason)
        (pushed_cases p old.waiting place some);
    waiting_below = λ p some. ⊎_elim (λ was. i.waiting_below p was) (λ same. omega arith)
        (pushed_cases p old.waiting place some);
  }

  counted : (n : ℕ) → place < n → count_below (is_seen (record old { seen = m })) n
      ≡ count_below (is_seen old) n + 1
  counted n below = omega (
    arith,
    count_below-add (is_seen old) (is_seen (record old { seen = m })) place
        adds fresh n,
    below_one n place below,
  )

  zero_level : (l : Literal) → place ≡ trail_index s.trail l.variable → AreAbsorbed s (is_seen old) (l ∷ []) →
      level_at s.reasons place ≡ 0
  zero_level l is all = ⊎_elim
      (λ m. absurd (cc (sym m ∙ (ap (is_seen old) (sym is) ∙ fresh))))
      (λ z. ap (level_at s.reasons) is ∙ z)
      (All-head (IsAbsorbed s (is_seen old)) l [] all).1

  inert_seen : (l : Literal) → place ≡ trail_index s.trail l.variable → AreAbsorbed s (is_seen old) (l ∷ []) →
      (p : ℕ) → get_or m p false ≡ true → (is_seen old p ≡ true) ⊎ (level_at s.reasons p ≡ 0)
  inert_seen l is all p e = ⊎_elim (λ same. inr (ap (level_at s.reasons) same ∙ zero_level l is all))
      (λ was. inl was) (seen_cases p e)

  not_kept : (deep : Bool) → deep ≡ false → MayKeep s deep place → level_at s.reasons place ≡ 0 → ⊥
  not_kept true shallow may z = absurd (cc shallow)
  not_kept false shallow may z = omega (arith, may, z)

  pub met_new : (new : Work) (l : Literal) → place ≡ trail_index s.trail l.variable →
      Parts s (record old { seen = m }) new place → Meets s old new (l ∷ [])
  met_new new l is (ToPending above e) = subst (λ (w : Work). Meets s old w (l ∷ [])) (sym e) (record {
    grows = grown;
    met = λ k k_in. rw (first k k_in) (rw (sym is) here);
    floor = refl;
    deep = refl;
    pending = omega arith;
    still = λ below. absurd (omega (arith, is, below 0 (omega arith), above));
    kept = omega arith;
    resolved = refl;
    spends = λ n below. omega (arith, counted n (rw is (below 0 (omega arith))));
    work = λ high i below. work_pending high i (rw is (below 0 (omega arith))) above;
    inert = λ shallow all. record { seen = inert_seen l is all; kept = refl };
  })
    where
      first : (k : ℕ) → k < 1 → k ≡ 0
      first k lt = omega arith
  met_new new l is (ToKept below' may e) = subst (λ (w : Work). Meets s old w (l ∷ [])) (sym e) (record {
    grows = grown;
    met = λ k k_in. rw (first k k_in) (rw (sym is) here);
    floor = refl;
    deep = refl;
    pending = omega arith;
    still = λ below. refl;
    kept = omega (arith, length_push old.kept place);
    resolved = refl;
    spends = λ n below. omega (arith, counted n (rw is (below 0 (omega arith))));
    work = λ high i below. work_kept high i below' may;
    inert = λ shallow all. absurd (not_kept old.deep shallow may (zero_level l is all));
  })
    where
      first : (k : ℕ) → k < 1 → k ≡ 0
      first k lt = omega arith
  met_new new l is (ToWaiting below' some e) = subst (λ (w : Work). Meets s old w (l ∷ [])) (sym e) (record {
    grows = grown;
    met = λ k k_in. rw (first k k_in) (rw (sym is) here);
    floor = refl;
    deep = refl;
    pending = omega arith;
    still = λ below. refl;
    kept = omega arith;
    resolved = refl;
    spends = λ n below. omega (
      arith,
      counted n (rw is (below 0 (omega arith))),
      length_push old.waiting
          place,
    );
    work = λ high i below. work_waiting high i below' some;
    inert = λ shallow all. record { seen = inert_seen l is all; kept = refl };
  })
    where
      first : (k : ℕ) → k < 1 → k ≡ 0
      first k lt = omega arith

-- a literal that was seen already
pub met_old : (s : State) (w : Work) (l : Literal) (place : ℕ) → place ≡ trail_index s.trail l.variable →
    is_seen w place ≡ true → Meets s w w (l ∷ [])
met_old s w l place is seen = record {
  grows = λ p e. e;
  met = λ k k_in. rw (first k k_in) (rw (sym is) seen);
  floor = refl;
  deep = refl;
  pending = omega arith;
  still = λ below. refl;
  kept = omega arith;
  resolved = refl;
  spends = λ n below. omega arith;
  work = λ high i below. i;
  inert = λ shallow all. record { seen = λ p e. inl e; kept = refl };
}
  where
    first : (k : ℕ) → k < 1 → k ≡ 0
    first k lt = omega arith

-- one literal after the other
pub Meets-none : (s : State) (w : Work) → Meets s w w []
Meets-none s w = record {
  grows = λ p e. e;
  met = λ k k_in. absurd (omega arith);
  floor = refl;
  deep = refl;
  pending = omega arith;
  still = λ below. refl;
  kept = omega arith;
  resolved = refl;
  spends = λ n below. omega arith;
  work = λ high i below. i;
  inert = λ shallow all. record { seen = λ p e. inl e; kept = refl };
}

-- what holds of the literals of a front of a clause
front_less : (P : Literal → Type 0) (xs : List Literal) (i : ℕ) → i < length xs →
    ((k : ℕ) → k < length (take (i + 1) xs) → P (lit_at (take (i + 1) xs) k)) → (k : ℕ) →
    k < length (take i xs) → P (lit_at (take i xs) k)
front_less P xs i within all k k_in =
    let k_less : k < i = omega (arith, length-take-le i xs (omega arith)) in
    subst P (get_or-take (i + 1) xs k no_literal (omega arith)
    ∙ sym (get_or-take i xs k no_literal k_less))
    (all k (omega (arith, length-take-le (i + 1) xs (omega arith))))

front_last : (P : Literal → Type 0) (xs : List Literal) (i : ℕ) → i < length xs →
    ((k : ℕ) → k < length (take (i + 1) xs) → P (lit_at (take (i + 1) xs) k)) → P (lit_at xs i)
front_last P xs i within all = subst P (get_or-take (i + 1) xs i no_literal (omega arith))
    (all i (omega (arith, length-take-le (i + 1) xs (omega arith))))

front_more : (P : Literal → Type 0) (xs : List Literal) (i : ℕ) → i < length xs →
    ((k : ℕ) → k < length (take i xs) → P (lit_at (take i xs) k)) → P (lit_at xs i) → (k : ℕ) →
    k < length (take (i + 1) xs) → P (lit_at (take (i + 1) xs) k)
front_more P xs i within all last k k_in =
    let k_le : k < i + 1 = omega (arith, length-take-le (i + 1) xs (omega arith)) in
    ⊎_elim
    (λ less. subst P (get_or-take i xs k no_literal less
    ∙ sym (get_or-take (i + 1) xs k no_literal k_le))
    (all k (omega (arith, length-take-le i xs (omega arith)))))
    (λ not_less. let k_is : i ≡ k = omega arith in
    subst P (ap (lit_at xs) k_is ∙ sym (get_or-take (i + 1) xs k no_literal k_le)) last)
    (cases_lt k i)

only_one : (P : Literal → Type 0) (l : Literal) → P l → (k : ℕ) → k < length (l ∷ []) → P (lit_at (l ∷ []) k)
only_one P l h zero k_in = h
only_one P l h (suc k) k_in = absurd (omega arith)

pub Meets-more : (s : State) (old w new : Work) (xs : List Literal) (i : ℕ) (l : Literal) → i < length xs →
    l ≡ lit_at xs i → Meets s old w (take i xs) → Meets s w new (l ∷ []) → Meets s old new (take (i + 1) xs)
Meets-more s old w new xs i l within is a b =
    let In : ℕ → Literal → Type 0 = λ n x. trail_index s.trail x.variable < n in
    let Marked : Literal → Type 0 = λ x. is_seen new (trail_index s.trail x.variable) ≡ true in
    let S : Literal → Type 0 = IsAbsorbed s (is_seen old) in
    let absorbed_front : AreAbsorbed s (is_seen old) (take (i + 1) xs) →
    AreAbsorbed s (is_seen old) (take i xs) =
    λ all. subst (λ (ys : List Literal). AreAbsorbed s (is_seen old) ys)
    (take-take i (i + 1) xs (omega arith)) (All-take S i (take (i + 1) xs) all) in
    let absorbed_one : AreAbsorbed s (is_seen old) (take (i + 1) xs) → AreAbsorbed s (is_seen w) (l ∷ []) =
    λ all.
    let h : S l = subst S (get_or-take (i + 1) xs i no_literal (omega arith)
    ∙ sym is) (All-get_or S (take (i + 1) xs) i no_literal
    (omega (arith, length-take-le (i + 1) xs (omega arith))) all) in
    All-cons (IsAbsorbed s (is_seen w)) l [] (h.0, ⊎_elim (λ m. inl (a.grows _ m)) (λ z. inr z) h.1)
    (All-nil (IsAbsorbed s (is_seen w))) in
    let inert_trans : IsInert s old w → IsInert s w new → IsInert s old new =
    λ x y. record {
      seen = λ p e. ⊎_elim (λ m. x.seen p m) (λ z. inr z) (y.seen p e);
      kept = y.kept
          ∙ x.kept;
    } in
    let one : (n : ℕ) → AreBelow s n (take (i + 1) xs) → AreBelow s n (l ∷ []) =
    λ n below. only_one (In n) l (subst (In n) (sym is) (front_last (In n) xs i within below)) in
    record {
      grows = λ p e. b.grows p (a.grows p e);
      met = front_more Marked xs i within (λ k k_in. b.grows _ (a.met k k_in))
          (subst Marked is (b.met 0 (omega arith)));
      floor = b.floor ∙ a.floor;
      deep = b.deep ∙ a.deep;
      pending = omega (arith, a.pending, b.pending);
      still = λ below. b.still (λ k k_in. omega (arith, one old.floor below k k_in, a.floor))
          ∙ a.still (front_less (In old.floor) xs i within below);
      kept = omega (arith, a.kept, b.kept);
      resolved = b.resolved ∙ a.resolved;
      spends = λ n below. omega (
        arith,
        a.spends n (front_less (In n) xs i within below),
        b.spends n
            (one n below),
      );
      work = λ high i_work below. b.work high (a.work high i_work (front_less (In high) xs i within below))
          (one high below);
      inert = λ shallow all. inert_trans (a.inert shallow (absorbed_front all))
          (b.inert (a.deep ∙ shallow) (absorbed_one all));
    }

-- what may be met one literal after the other
pub MayMeet-one : (s : State) (old w : Work) (xs : List Literal) (i : ℕ) (l : Literal) → i < length xs →
    l ≡ lit_at xs i → Meets s old w (take i xs) → MayMeet s old xs → MayMeet s w (l ∷ [])
MayMeet-one s old w xs i l within is a may =
    let In : Literal → Type 0 = λ x. trail_index s.trail x.variable < may.0 in
    let front : AreBelow s may.0 (take i xs) = λ k k_in.
    let k_less : k < i = omega (arith, length-take-le i xs (omega arith)) in
    subst In (sym (get_or-take i xs k no_literal k_less)) (may.2 k (omega arith)) in
    (may.0, a.work may.0 may.1 front, only_one In l (subst In (sym is) (may.2 i within)))

-- the room for pending places
pub pending_room : (s : State) (w : Work) (xs : List Literal) → MayMeet s w xs → w.pending < 2 ^ 62
pending_room s w xs may = omega (
  arith,
  may.1.pending,
  count_below-bound (is_above w) may.0,
  may.1.within,
  may.1.short,
)

-- a literal that may be met is on the trail
pub met_within : (s : State) (w : Work) (l : Literal) → MayMeet s w (l ∷ []) →
    trail_index s.trail l.variable < length s.trail
met_within s w l may = omega (arith, may.2 0 (omega arith), may.1.within)

pub met_place : (s : State) (w : Work) (l : Literal) (v : ℕ) → v ≡ l.variable → MayMeet s w (l ∷ []) →
    trail_index s.trail v < length s.trail
met_place s w l v is may = subst (λ (x : ℕ). trail_index s.trail x < length s.trail) (sym is)
    (met_within s w l may)

-- a resolution of nothing
pub work_empty : (s : State) (w : Work) (high : ℕ) → length s.trail < 2 ^ 62 → high ≤ length s.trail →
    w.floor ≤ high → ((p : ℕ) → is_seen w p ≡ false) → w.pending ≡ 0 → w.kept ≡ [] → w.resolved ≡ [] →
    w.waiting ≡ [] → IsWork s high w
work_empty s w high short within floor none pending kept resolved waiting = record {
  short = short;
  within = within;
  floor = floor;
  ranged = λ p e. absurd (cc (sym e ∙ none p));
  parted = λ p. parted (is_seen w p) (occurrences p w.kept) (occurrences p w.resolved)
      (occurrences p w.waiting) (ltb p high) (leb w.floor p) (none p) (ap (occurrences p) kept)
      (ap (occurrences p) resolved) (ap (occurrences p) waiting);
  pending = pending ∙ sym (count_below-none (is_above w) high
      (λ p. and_right (leb w.floor p) (is_seen w p) (none p)));
  kept_below = λ p some. absurd (omega (arith, some, ap (occurrences p) kept));
  kept = λ p some. absurd (omega (arith, some, ap (occurrences p) kept));
  resolved = λ p some. absurd (omega (arith, some, ap (occurrences p) resolved));
  resolved_below = λ p some. absurd (omega (arith, some, ap (occurrences p) resolved));
  waiting = λ p some. absurd (omega (arith, some, ap (occurrences p) waiting));
  waiting_below = λ p some. absurd (omega (arith, some, ap (occurrences p) waiting));
}
  where
    parted : (m : Bool) (k r v : ℕ) (a b : Bool) → m ≡ false → k ≡ 0 → r ≡ 0 → v ≡ 0 →
        k + (r + (v + one_if (a && (b && m)))) ≡ one_if m
    parted true k r v a b e k_is r_is v_is = absurd (cc e)
    parted false k r v true true e k_is r_is v_is = omega arith
    parted false k r v true false e k_is r_is v_is = omega arith
    parted false k r v false b e k_is r_is v_is = omega arith

    count_below-none : (f : ℕ → Bool) (n : ℕ) → ((p : ℕ) → f p ≡ false) → count_below f n ≡ 0
    count_below-none f zero none = refl
    count_below-none f (suc n) none = omega (arith, ap one_if (none n), count_below-none f n none)
