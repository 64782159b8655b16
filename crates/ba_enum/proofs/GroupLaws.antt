-- The set of an assignment: the groups whose selectors are false.

use Rattle.std.proofs.Common.{◌≡◌, ◌≢◌, ℕ, suc, zero, ◌<◌, ◌≤◌, ◌==◌, Bool, true, false, not, cond, ltb, nat_eq, List, [], ◌∷◌, length, get_or, refl, sym, ap, ◌∙◌, subst, arith}
use Rattle.std.proofs.lemmas.Bool.{or_from, and_parts, or_parts, not-true}
use Rattle.std.proofs.lemmas.Bool.Decides.{nat_tests}
use Rattle.std.proofs.lemmas.List.Elements.{All-head, All-tail, All-weaker}
use Rattle.std.specs.Cmp.Lexicographic.{pointwise, bytes_decides}
use Rattle.ba_lits.specs.Literals.{Literal}
use Rattle.ba_lits.specs.Satisfaction.{Assignment, Soft, lit_true, any_true, all_true}
use Rattle.ba_steps.specs.Steps.{AreAbove}
use Rattle.ba_checker.specs.Blocks.{entry_weight, weight_at, lacks_group, is_among, inserted, with_selector, block_clause, block_clauses}
use Rattle.ba_checker.specs.Facts.{AreAmong}
use Rattle.ba_checker.specs.States.{present}
use Rattle.ba_derivations.specs.Encodings.{is_false_group, with_if, false_groups_from, false_groups}
use Rattle.ba_derivations.proofs.GroupLaws.{AreFrom, from_start, from_next, entry_here}

-- ITS NUMBERS ASCEND
above_less : (low high : ℕ) (set : List ℕ) → low ≤ high → AreAbove high set → AreAbove low set
above_less low high [] le above = tt
above_less low high (n ∷ ns) le above = (let first = above.0 in omega (arith, le, first), above.1)

above_from : (v : Assignment) (k : ℕ) (ss : List Soft) → AreAbove k (false_groups_from k v ss)
above_from v k [] = tt
above_from v k (s ∷ ss) = by_case (is_false_group v s) (above_from v (suc k) ss)
  where
    by_case : (b : Bool) → AreAbove (suc k) (false_groups_from (suc k) v ss) →
        AreAbove k (with_if b (suc k) (false_groups_from (suc k) v ss))
    by_case true rest = (omega arith, rest)
    by_case false rest = above_less k (suc k) (false_groups_from (suc k) v ss) (omega arith) rest

pub groups_ascend : (v : Assignment) (softs : List Soft) → AreAbove 0 (false_groups v softs)
groups_ascend v softs = above_from v 0 softs

pub some_groups : (set : List ℕ) → set ≢ [] → 0 < length set
some_groups [] none = absurd (none refl)
some_groups (n ∷ ns) none = omega arith

-- THEY ARE THOSE OF GROUPS
exist_from : (v : Assignment) (softs : List Soft) (k : ℕ) (ss : List Soft) → AreFrom softs k ss →
    lacks_group softs (false_groups_from k v ss) ≡ false
exist_from v softs k [] from = refl
exist_from v softs k (s ∷ ss) from =
    by_case (is_false_group v s) refl (exist_from v softs (suc k) ss (from_next softs k s ss from))
  where
    some : (w : ℕ) → ltb 0 w ≡ true → (w == 0) ≡ false
    some w e = grind (arith, nat_tests)

    by_case : (b : Bool) → is_false_group v s ≡ b →
        lacks_group softs (false_groups_from (suc k) v ss) ≡ false →
        lacks_group softs (with_if b (suc k) (false_groups_from (suc k) v ss)) ≡ false
    by_case true is rest =
        or_from (weight_at softs (suc k) == 0) (lacks_group softs (false_groups_from (suc k) v ss))
        (ap (λ o. entry_weight o == 0) (entry_here softs k s ss from)
        ∙ some s.1 ((and_parts (ltb 0 s.1) (not (lit_true v s.0)) is).0))
        rest
    by_case false is rest = rest

pub groups_exist : (v : Assignment) (softs : List Soft) → lacks_group softs (false_groups v softs) ≡ false
groups_exist v softs = exist_from v softs 0 softs (from_start softs)

-- THEIR CLAUSE IS FALSE
inserted_false : (v : Assignment) (l : Literal) (lits : List Literal) → lit_true v l ≡ false →
    any_true v lits ≡ false → any_true v (inserted l lits) ≡ false
inserted_false v l [] first rest = or_from (lit_true v l) false first refl
inserted_false v l (m ∷ ms) first rest = by_case (λ h. inserted_false v l ms first h) (ltb l.variable
    m.variable)
  where
    by_case : (any_true v ms ≡ false → any_true v (inserted l ms) ≡ false) → (t : Bool) →
        any_true v (cond t (l ∷ m ∷ ms) (m ∷ inserted l ms)) ≡ false
    by_case later true = or_from (lit_true v l) (any_true v (m ∷ ms)) first rest
    by_case later false =
        let both = or_parts (lit_true v m) (any_true v ms) rest in
        or_from (lit_true v m) (any_true v (inserted l ms)) both.0 (later both.1)

clause_from : (v : Assignment) (softs : List Soft) (k : ℕ) (ss : List Soft) → AreFrom softs k ss →
    any_true v (block_clause softs (false_groups_from k v ss)) ≡ false
clause_from v softs k [] from = refl
clause_from v softs k (s ∷ ss) from =
    by_case (is_false_group v s) refl (clause_from v softs (suc k) ss (from_next softs k s ss from))
  where
    by_case : (b : Bool) → is_false_group v s ≡ b →
        any_true v (block_clause softs (false_groups_from (suc k) v ss)) ≡ false →
        any_true v (block_clause softs (with_if b (suc k) (false_groups_from (suc k) v ss))) ≡ false
    by_case true is rest =
        ap (λ o. any_true v (with_selector o (block_clause softs (false_groups_from (suc k) v ss))))
        (entry_here softs k s ss from)
        ∙ inserted_false v s.0 (block_clause softs (false_groups_from (suc k) v ss))
        (not-true (lit_true v s.0) ((and_parts (ltb 0 s.1) (not (lit_true v s.0)) is).1)) rest
    by_case false is rest = rest

clause_false : (v : Assignment) (softs : List Soft) →
    any_true v (block_clause softs (false_groups v softs)) ≡ false
clause_false v softs = clause_from v softs 0 softs (from_start softs)

-- so if the clauses of other sets hold, it is none of them
pub not_among : (v : Assignment) (softs : List Soft) (sets : List (List ℕ)) →
    all_true v (block_clauses softs sets) ≡ true → is_among sets (false_groups v softs) ≡ false
not_among v softs [] holds = refl
not_among v softs (set ∷ sets) holds =
    let parts = and_parts (any_true v (block_clause softs set)) (all_true v (block_clauses softs sets))
    holds in
    or_from (pointwise nat_eq set (false_groups v softs)) (is_among sets (false_groups v softs))
    (other (pointwise nat_eq set (false_groups v softs)) refl parts.0) (not_among v softs sets parts.1)
  where
    other : (t : Bool) → pointwise nat_eq set (false_groups v softs) ≡ t →
        any_true v (block_clause softs set) ≡ true →
        t ≡ false
    other true is clause =
        let same : set ≡ false_groups v softs = (bytes_decides set (false_groups v softs)).0 is in
        let both : true ≡ false = sym clause ∙ (ap (λ s. any_true v (block_clause softs s)) same
        ∙ clause_false v softs) in
        absurd (cc both)
    other false is clause = refl

-- THE SELECTORS of groups are of variables up to a number
abbrev IsAmong : ℕ → Soft → Type 0
IsAmong n s = (1 ≤ s.0.variable) × (s.0.variable ≤ n)

pub present_at : (n : ℕ) (softs : List Soft) (k : ℕ) (s : Soft) → AreAmong n (present softs) →
    k < length softs →
    s ≡ get_or softs k s → 0 < s.1 → s.0.variable ≤ n
present_at n [] k s among lt is some = absurd (omega arith)
present_at n (t ∷ ts) zero s among lt is some =
    let P : Soft → Type 0 = λ u. 0 < u.1 in
    let weighs : ltb 0 t.1 ≡ true = heavy t.1 (subst P is some) in
    let Q : Bool → Type 0 = λ b. AreAmong n (cond b (t ∷ present ts) (present ts)) in
    let here : IsAmong n t = All-head (IsAmong n) t (present ts) (subst Q weighs among) in
    let R : Soft → Type 0 = λ u. u.0.variable ≤ n in
    subst R (sym is) here.1
  where
    heavy : (w : ℕ) → 0 < w → ltb 0 w ≡ true
    heavy w lt = grind (arith, nat_tests)
present_at n (t ∷ ts) (suc k) s among lt is some =
    present_at n ts k s (by_case (ltb 0 t.1) among) (omega (arith, lt)) is some
  where
    by_case : (b : Bool) → AreAmong n (cond b (t ∷ present ts) (present ts)) → AreAmong n (present ts)
    by_case true all = All-tail (IsAmong n) t (present ts) all
    by_case false all = all

pub among_more : (m n : ℕ) (softs : List Soft) → m ≤ n → AreAmong m softs → AreAmong n softs
among_more m n softs le among = All-weaker (IsAmong m) (IsAmong n)
    (λ s is. (is.0, let most = is.1 in omega (arith, le, most))) softs among
