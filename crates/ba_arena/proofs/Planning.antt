-- New places are written into the first links, clause by clause.

use Rattle.std.proofs.Common.{◌≡◌, ◌≢◌, ℕ, suc, ◌+◌, ◌-◌, ◌<◌, ◌≤◌, Option, None, Some, IsSome, length, refl, sym, ap, subst, ◌∙◌, arith, get_or-set_same, get_or-set_other, ⊎_elim}
use Rattle.std.proofs.lemmas.Bool.{cases_lt}
use Rattle.std.proofs.lemmas.List.{get_or_past}
use Rattle.ba_arena.specs.Clauses.{Stored, Clauses, clause_at, lits_at, lits_of, IsLive, changed, linked}
use Rattle.ba_arena.specs.Compaction.{size_of, moved, Plans, IsFirstFrom}
use Rattle.ba_arena.proofs.Moves.{moved-start, moved-next}

-- the clauses before one are planned
pub record IsPlannedBelow (start now : Clauses) (place c : ℕ) : Type 0 where
  pub before : (r : ℕ) → r < c → clause_at now r ≡ linked 0 (Some (moved start r)) (clause_at start r)
  pub from : (r : ℕ) → c ≤ r → clause_at now r ≡ clause_at start r
  pub live : IsLive now c
  pub place_is : place ≡ moved start c
  pub le : place ≤ c

abbrev pub IsPlanning : Clauses → Clauses → ℕ → Option ℕ → Type 0
IsPlanning start now place None = Plans start now
IsPlanning start now place (Some c) = IsPlannedBelow start now place c

-- how many places are left
abbrev pub left : ℕ → Option ℕ → ℕ
left count None = 0
left count (Some c) = suc (count - c)

pub live_within : (cs : Clauses) (c : ℕ) → IsLive cs c → c < length cs
live_within cs c live =
    ⊎_elim (λ h. h) (λ past. absurd (clash _ (get_or_past cs c None past) live)) (cases_lt c (length cs))
  where
    clash : (o : Option Stored) → o ≡ None → IsSome o → ⊥
    clash None e live = cc live
    clash (Some s) e live = cc e

none_linked : (n : ℕ) (o : Option Stored) → o ≡ None → o ≡ linked 0 (Some n) o
none_linked n None e = refl
none_linked n (Some s) e = absurd (cc e)

pub planning-init : (cs : Clauses) (place : ℕ) (next : Option ℕ) → place ≡ 0 → IsFirstFrom cs 0 next
    → IsPlanning cs cs place next
planning-init cs place None e first = λ r. none_linked (moved cs r) (clause_at cs r) (first r (omega arith))
planning-init cs place (Some c) e first = record {
  before = λ r h. none_linked (moved cs r) (clause_at cs r) (first.2 r (omega arith) h);
  from = λ r h. refl;
  live = first.1;
  place_is = e ∙ sym (moved-start cs c (λ k h. first.2 k (omega arith) h));
  le = omega (arith, e);
}

module _ (start now new : Clauses) (place c : ℕ) (m : IsPlannedBelow start now place c)
    (new_is : new ≡ changed (linked 0 (Some place)) now c) where
  here : clause_at new c ≡ linked 0 (Some (moved start c)) (clause_at start c)
  here =
      ap (λ (cs : Clauses). clause_at cs c) new_is
      ∙ (get_or-set_same now c (linked 0 (Some place) (clause_at now c)) None (live_within now c m.live)
      ∙ (ap (λ (o : Option Stored). linked 0 (Some place) o) (m.from c (omega arith))
      ∙ ap (λ n. linked 0 (Some n) (clause_at start c)) m.place_is))

  there : (r : ℕ) → r ≢ c → clause_at new r ≡ clause_at now r
  there r ne = ap (λ (cs : Clauses). clause_at cs r) new_is
      ∙ get_or-set_other now c r (linked 0 (Some place) (clause_at now c)) None ne

  -- up to the next live clause
  upto : (r : ℕ) → ((k : ℕ) → c + 1 ≤ k → k ≤ r → clause_at now k ≡ None)
      → clause_at new r ≡ linked 0 (Some (moved start r)) (clause_at start r)
  upto r none = ⊎_elim
      (λ below. there r (λ e. differ r e below) ∙ m.before r below)
      (λ above. ⊎_elim
      (λ after.
      let gone : clause_at now r ≡ None = none r (omega (arith, after)) (omega arith) in
      let was : clause_at start r ≡ None = sym (m.from r above) ∙ gone in
      there r (λ e. differ_too r e after) ∙ (gone ∙ (sym was ∙ none_linked (moved start r) (clause_at start r) was)))
      (λ le.
      let e : r ≡ c = omega (arith, above, le) in
      subst (λ k. clause_at new k ≡ linked 0 (Some (moved start k)) (clause_at start k)) (sym e) here)
      (cases_lt c r))
      (cases_lt r c)
    where
      differ : (r : ℕ) → r ≡ c → r < c → ⊥
      differ r e h = omega (arith, e, h)

      differ_too : (r : ℕ) → r ≡ c → c < r → ⊥
      differ_too r e h = omega (arith, e, h)

  pub planning-step : (place' size : ℕ) (next : Option ℕ) → IsFirstFrom now (c + 1) next
      → size ≡ 4 + length (lits_at now c) → place' ≡ place + size
      → ((n : ℕ) → next ≡ Some n → c + 4 + length (lits_at now c) ≤ n) → IsPlanning start new place' next
  planning-step place' size None first size_is place'_is room = λ r. upto r (λ k h _. first k h)
  planning-step place' size (Some n) first size_is place'_is room = record {
    before = λ r h. upto r (λ k after le. first.2 k after (omega (arith, le, h)));
    from = λ r h. there r (λ e. differ r e h) ∙ m.from r (omega (arith, h, first.0));
    live = subst (λ (o : Option Stored). IsSome o) (sym (there n (λ e. differ n e (omega arith)))) first.1;
    place_is = omega (
      arith,
      place'_is,
      size_is,
      m.place_is,
      size_live now c m.live,
      ap size_of (m.from c (omega arith)),
      moved-next start c n (omega (arith, first.0))
          (λ k after below. sym (m.from k (omega (arith, after))) ∙ first.2 k (omega (arith, after)) below),
    );
    le = omega (arith, place'_is, size_is, m.le, room n refl);
  }
    where
      differ : (r : ℕ) → r ≡ c → n ≤ r → ⊥
      differ r e h = omega (arith, e, h, first.0)

      size_live : (cs : Clauses) (c : ℕ) → IsLive cs c → size_of (clause_at cs c) ≡ 4 + length (lits_at cs c)
      size_live cs c live = of (clause_at cs c) live
        where
          of : (o : Option Stored) → IsSome o → size_of o ≡ 4 + length (lits_of o)
          of None live = absurd (cc live)
          of (Some s) live = refl
