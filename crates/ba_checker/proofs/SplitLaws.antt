-- The split of a core, as the code makes it.

use Rattle.std.proofs.Common.{◌≡◌, ℕ, ◌+◌, ◌-◌, ◌<◌, ◌≤◌, Bool, true, false, cond, ltb, min, Option, None, Some, List, [], ◌∷◌, ◌++◌, map, length, drop, get_or, refl, sym, ap, ◌∙◌, arith}
use Rattle.std.proofs.lemmas.List.{append_assoc, append-nil, drop_more, map-append, length-drop}
use Rattle.ba_lits.specs.Literals.{Literal, negate, negative, no_literal}
use Rattle.ba_lits.specs.Satisfaction.{Soft}
use Rattle.ba_lits.specs.Hints.{has_literal}
use Rattle.ba_checker.specs.Splits.{or_gate, and_gate, some_of, or_clauses, and_clauses, late_softs, lesser, lowered}
use Rattle.ba_checker.specs.States.{Kept, kept, present}
use Rattle.ba_checker.specs.declared.store.Origin.TheVariants as origins

-- the least weight so far, and then that of the rest
abbrev pub sooner : Option ℕ → Option ℕ → Option ℕ
sooner None rest = rest
sooner (Some w) rest = Some (lesser w rest)

min_swap : (w u r : ℕ) → min (min w u) r ≡ min u (min w r)
min_swap w u r = omega arith

min_turn : (w u : ℕ) → min w u ≡ min u w
min_turn w u = omega arith

pub sooner-more : (w : ℕ) (least rest : Option ℕ) →
    sooner (Some (lesser w least)) rest ≡ sooner least (Some (lesser w rest))
sooner-more w None rest = refl
sooner-more w (Some u) None = ap Some (min_turn w u)
sooner-more w (Some u) (Some r) = ap Some (min_swap w u r)

pub sooner-none : (least : Option ℕ) → sooner least None ≡ least
sooner-none None = refl
sooner-none (Some w) = refl

pub lowered-more : (core : List Literal) (w : ℕ) (s : Soft) (ss : List Soft) →
    lowered core w (s ∷ ss) ≡ lowered core w (s ∷ []) ++ lowered core w ss
lowered-more core w s ss = cases (has_literal (negate s.0) core) (ltb w s.1)
  where
    cases : (member heavier : Bool) →
        cond member (cond heavier ((s.0, s.1 - w) ∷ lowered core w ss) (lowered core w ss)) (s
        ∷ lowered core w ss)
        ≡ cond member (cond heavier ((s.0, s.1 - w) ∷ []) []) (s ∷ []) ++ lowered core w ss
    cases true true = refl
    cases true false = refl
    cases false heavier = refl

pub present-more : (s : Soft) (ss : List Soft) → present (s ∷ ss) ≡ present (s ∷ []) ++ present ss
present-more s ss = cases (ltb 0 s.1)
  where
    cases : (b : Bool) → cond b (s ∷ present ss) (present ss) ≡ cond b (s ∷ []) [] ++ present ss
    cases true = refl
    cases false = refl

-- one literal more if others follow
pub late_softs-more : (w e : ℕ) (b : Literal) (rest : List Literal) → 0 < length rest →
    late_softs w e (b ∷ rest) ≡ (negative e, w) ∷ late_softs w (e + 1) rest
late_softs-more w e b [] some = absurd (omega arith)
late_softs-more w e b (c ∷ rest) some = refl

pub or_clauses-more : (d : ℕ) (b : Literal) (rest : List Literal) → 0 < length rest →
    or_clauses d (b ∷ rest) ≡ or_gate d b (some_of (d + 1) rest) ++ or_clauses (d + 1) rest
or_clauses-more d b [] some = absurd (omega arith)
or_clauses-more d b (c ∷ rest) some = refl

pub and_clauses-more : (d e : ℕ) (b : Literal) (rest : List Literal) → 0 < length rest →
    and_clauses d e (b ∷ rest) ≡ and_gate e b (some_of d rest) ++ and_clauses (d + 1) (e + 1) rest
and_clauses-more d e b [] some = absurd (omega arith)
and_clauses-more d e b (c ∷ rest) some = refl

-- the last literal adds nothing
pub late_softs-short : (w e : ℕ) (lits : List Literal) → length lits ≤ 1 → late_softs w e lits ≡ []
late_softs-short w e [] short = refl
late_softs-short w e (b ∷ []) short = refl
late_softs-short w e (b ∷ c ∷ rest) short = absurd (omega arith)

pub or_clauses-short : (d : ℕ) (lits : List Literal) → length lits ≤ 1 → or_clauses d lits ≡ []
or_clauses-short d [] short = refl
or_clauses-short d (b ∷ []) short = refl
or_clauses-short d (b ∷ c ∷ rest) short = absurd (omega arith)

pub and_clauses-short : (d e : ℕ) (lits : List Literal) → length lits ≤ 1 → and_clauses d e lits ≡ []
and_clauses-short d e [] short = refl
and_clauses-short d e (b ∷ []) short = refl
and_clauses-short d e (b ∷ c ∷ rest) short = absurd (omega arith)

-- the literals from the one before a place on
abbrev pub from : ℕ → List Literal → List Literal
from place lits = drop (place - 1) lits

from_more : (lits : List Literal) (place : ℕ) (d : Literal) → 1 ≤ place → place < length lits →
    from place lits ≡ get_or lits (place - 1) d ∷ from (place + 1) lits
from_more lits place d counted within =
    let e : place + 1 - 1 ≡ place - 1 + 1 = omega arith in
    rw e (drop_more lits (place - 1) d (omega arith))

from_some : (lits : List Literal) (place : ℕ) → place < length lits → 0 < length (from (place + 1) lits)
from_some lits place within = rw (length-drop (place + 1 - 1) lits) (omega arith)

from_short : (lits : List Literal) (place : ℕ) → length lits ≤ place → length (from place lits) ≤ 1
from_short lits place past = rw (length-drop (place - 1) lits) (omega arith)

-- a turn of each loop, and its end
pub late_step : (w e place x : ℕ) (lits : List Literal) (now next all : List Soft) → 1 ≤ place →
    place < length lits →
    now ++ late_softs w (e + (place - 1)) (from place lits) ≡ all → x ≡ e + place - 1 →
    next ≡ now ++ (negative x, w) ∷ [] →
    next ++ late_softs w (e + (place + 1 - 1)) (from (place + 1) lits) ≡ all
late_step w e place x lits now next all counted within inv x_is next_is =
    let start : x ≡ e + (place - 1) = omega arith in
    let later : e + (place - 1) + 1 ≡ e + (place + 1 - 1) = omega arith in
    let more = ap (late_softs w (e + (place - 1))) (from_more lits place no_literal counted within)
    ∙ late_softs-more w (e + (place - 1)) (get_or lits (place - 1) no_literal) (from (place + 1) lits)
    (from_some lits place within) in
    rw (next_is, start, ← later) (append_assoc now ((negative (e + (place - 1)), w) ∷ [])
    (late_softs w (e + (place - 1) + 1) (from (place + 1) lits)) ∙ (ap (λ s. now ++ s) (sym more) ∙ inv))

pub late_end : (w e place : ℕ) (lits : List Literal) (now all : List Soft) → length lits ≤ place →
    now ++ late_softs w (e + (place - 1)) (from place lits) ≡ all → now ≡ all
late_end w e place lits now all past inv =
    sym (append-nil now) ∙ (ap (λ s. now ++ s) (sym
    (late_softs-short w (e + (place - 1)) (from place lits) (from_short lits place past))) ∙ inv)

abbrev pub split_kept : List (List Literal) → List Kept
split_kept clauses = map (kept origins.Split) clauses

gate_step : (now next all : List Kept) (gate rest whole : List (List Literal)) → whole ≡ gate ++ rest →
    now ++ split_kept whole ≡ all → next ≡ now ++ split_kept gate → next ++ split_kept rest ≡ all
gate_step now next all gate rest whole whole_is inv next_is =
    rw next_is (append_assoc now (split_kept gate) (split_kept rest)
    ∙ (ap (λ s. now ++ s) (sym (map-append (kept origins.Split) gate rest))
    ∙ (ap (λ c. now ++ split_kept c) (sym whole_is) ∙ inv)))

gate_end : (now all : List Kept) (left : List (List Literal)) → left ≡ [] → now ++ split_kept left ≡ all →
    now ≡ all
gate_end now all left none inv = sym (append-nil now) ∙ (ap (λ c. now ++ split_kept c) (sym none) ∙ inv)

pub or_step : (d place x y : ℕ) (lits : List Literal) (now next all : List Kept) (later : Literal) →
    1 ≤ place → place < length lits →
    now ++ split_kept (or_clauses (d + (place - 1)) (from place lits)) ≡ all →
    x ≡ d + place - 1 → y ≡ x + 1 → later ≡ some_of y (drop place lits) → (b : Literal) →
    b ≡ get_or lits (place - 1) b → next ≡ now ++ split_kept (or_gate x b later) →
    next ++ split_kept (or_clauses (d + (place + 1 - 1)) (from (place + 1) lits)) ≡ all
or_step d place x y lits now next all later counted within inv x_is y_is later_is b b_is next_is =
    let start : x ≡ d + (place - 1) = omega arith in
    let after : d + (place - 1) + 1 ≡ d + (place + 1 - 1) = omega arith in
    let same : place ≡ place + 1 - 1 = omega arith in
    let later_at : later ≡ some_of (d + (place - 1) + 1) (from (place + 1) lits) = later_is
    ∙ (ap (λ n. some_of n (drop place lits)) (y_is ∙ ap (λ n. n + 1) start)
    ∙ ap (λ n. some_of (d + (place - 1) + 1) (drop n lits)) same) in
    let more = ap (or_clauses (d + (place - 1))) (from_more lits place b counted within)
    ∙ (or_clauses-more (d + (place - 1)) (get_or lits (place - 1) b) (from (place + 1) lits)
    (from_some lits place within)
    ∙ (ap (λ l. or_gate (d + (place - 1)) l (some_of (d + (place - 1) + 1) (from (place + 1) lits))
    ++ or_clauses (d + (place - 1) + 1) (from (place + 1) lits)) (sym b_is)
    ∙ (ap (λ l. or_gate (d + (place - 1)) b l ++ or_clauses (d + (place - 1) + 1) (from (place + 1) lits))
    (sym later_at)
    ∙ (ap (λ n. or_gate n b later ++ or_clauses (d + (place - 1) + 1) (from (place + 1) lits)) (sym start)
    ∙ ap (λ n. or_gate x b later ++ or_clauses n (from (place + 1) lits)) after)))) in
    gate_step now next all (or_gate x b later) (or_clauses (d + (place + 1 - 1)) (from (place + 1) lits))
    (or_clauses (d + (place - 1)) (from place lits)) more inv next_is

pub or_end : (d place : ℕ) (lits : List Literal) (now all : List Kept) → length lits ≤ place →
    now ++ split_kept (or_clauses (d + (place - 1)) (from place lits)) ≡ all → now ≡ all
or_end d place lits now all past inv = gate_end now all (or_clauses (d + (place - 1)) (from place lits))
    (or_clauses-short (d + (place - 1)) (from place lits) (from_short lits place past)) inv

pub and_step : (d e place x y : ℕ) (lits : List Literal) (now next all : List Kept) (later : Literal) →
    1 ≤ place → place < length lits →
    now ++ split_kept (and_clauses (d + (place - 1)) (e + (place - 1)) (from place lits)) ≡ all →
    x ≡ e + (place - 1) → y ≡ d + (place - 1) → later ≡ some_of y (drop place lits) → (b : Literal) →
    b ≡ get_or lits (place - 1) b → next ≡ now ++ split_kept (and_gate x b later) →
    next ++ split_kept (and_clauses (d + (place + 1 - 1)) (e + (place + 1 - 1)) (from (place + 1) lits)) ≡ all
and_step d e place x y lits now next all later counted within inv x_is y_is later_is b b_is next_is =
    let after_d : d + (place - 1) + 1 ≡ d + (place + 1 - 1) = omega arith in
    let after_e : e + (place - 1) + 1 ≡ e + (place + 1 - 1) = omega arith in
    let same : place ≡ place + 1 - 1 = omega arith in
    let later_at : later ≡ some_of (d + (place - 1)) (from (place + 1) lits) = later_is
    ∙ (ap (λ n. some_of n (drop place lits)) y_is
    ∙ ap (λ n. some_of (d + (place - 1)) (drop n lits)) same) in
    let more = ap (and_clauses (d + (place - 1)) (e + (place - 1))) (from_more lits place b counted within)
    ∙ (and_clauses-more (d + (place - 1)) (e + (place - 1)) (get_or lits (place - 1) b)
    (from (place + 1) lits) (from_some lits place within)
    ∙ (ap (λ l. and_gate (e + (place - 1)) l (some_of (d + (place - 1)) (from (place + 1) lits))
    ++ and_clauses (d + (place - 1) + 1) (e + (place - 1) + 1) (from (place + 1) lits)) (sym b_is)
    ∙ (ap (λ l. and_gate (e + (place - 1)) b l ++ and_clauses (d + (place - 1) + 1) (e + (place - 1) + 1)
    (from (place + 1) lits)) (sym later_at)
    ∙ (ap (λ n. and_gate n b later ++ and_clauses (d + (place - 1) + 1) (e + (place - 1) + 1)
    (from (place + 1) lits)) (sym x_is)
    ∙ (ap (λ n. and_gate x b later ++ and_clauses n (e + (place - 1) + 1) (from (place + 1) lits)) after_d
    ∙ ap (λ n. and_gate x b later ++ and_clauses (d + (place + 1 - 1)) n (from (place + 1) lits))
    after_e))))) in
    gate_step now next all (and_gate x b later) (and_clauses (d + (place + 1 - 1)) (e + (place + 1 - 1))
    (from (place + 1) lits)) (and_clauses (d + (place - 1)) (e + (place - 1)) (from place lits)) more
    inv next_is

pub and_end : (d e place : ℕ) (lits : List Literal) (now all : List Kept) → length lits ≤ place →
    now ++ split_kept (and_clauses (d + (place - 1)) (e + (place - 1)) (from place lits)) ≡ all → now ≡ all
and_end d e place lits now all past inv = gate_end now all
    (and_clauses (d + (place - 1)) (e + (place - 1)) (from place lits))
    (and_clauses-short (d + (place - 1)) (e + (place - 1)) (from place lits) (from_short lits place past)) inv
