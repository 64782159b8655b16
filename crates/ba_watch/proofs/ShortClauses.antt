-- Clauses of fewer than two literals, looked at one after the other.

use Rattle.std.proofs.Common.{◌≡◌, ◌≢◌, ℕ, suc, zero, ◌+◌, ◌-◌, ◌<◌, Bool, true, false, None, Some, List, [], ◌∷◌, ◌++◌, length, get_or, take, eqb, cond, refl, sym, ap, subst, ◌∙◌, arith, ⊎_elim}
use Rattle.std.proofs.lemmas.Option.{same_Some}
use Rattle.std.proofs.lemmas.Bool.{cases_eq}
use Rattle.std.proofs.lemmas.Bool.Decides.{nat_tests}
use Rattle.std.proofs.lemmas.List.{take_all, take_more, get_or_read}
use Rattle.ba_lits.specs.Literals.{Literal, index_of, lit_at}
use Rattle.ba_lits.specs.Hints.{has_literal}
use Rattle.ba_lits.proofs.Members.{has_literal-at}
use Rattle.ba_arena.specs.Clauses.{Clauses, lits_at}
use Rattle.ba_watch.specs.Chains.{occurrences}
use Rattle.ba_watch.specs.Threads.{index_at}
use Rattle.ba_watch.specs.Trails.{Assignments, same_sign, value_of, trail_index, decided, IsTrail}
use Rattle.ba_watch.specs.Propagation.{IsReason, AreFacts, AreUnits, AssignsUnits, AssignsUnit}
use Rattle.ba_watch.proofs.Values.{value_of-push_here}
use Rattle.ba_watch.proofs.Levels.{decided-append, decided-take_drop}
use Rattle.ba_watch.proofs.Facts.{AreFacts-push, AreUnits-push, is_false-all}
use Rattle.ba_watch.proofs.Visits.{Begins-refl, Begins-push, Begins-trans}

pub Assigns-none : (a : Clauses) (t : Assignments) → AssignsUnits a t t
Assigns-none a t = record {
  variables = refl;
  trail = Begins-refl t.lits;
  reasons = Begins-refl t.reasons;
  level = refl;
  facts = λ h f. f;
  units = λ w u. u;
}

pub Assigns-trans : (a : Clauses) (t u w : Assignments) → AssignsUnits a t u → AssignsUnits a u w →
    AssignsUnits a t w
Assigns-trans a t u w s r = record {
  variables = r.variables ∙ s.variables;
  trail = Begins-trans t.lits u.lits w.lits s.trail r.trail;
  reasons = Begins-trans t.reasons u.reasons w.reasons s.reasons r.reasons;
  level = r.level ∙ s.level;
  facts = λ h f. r.facts h (s.facts h f);
  units = λ x f. r.units x (s.units x f);
}

pub Assigns-push : (a : Clauses) (t u : Assignments) (r : ℕ) (l : Literal) →
    u ≡ record t { lits = t.lits ++ l ∷ []; reasons = t.reasons ++ Some r ∷ [] } →
    IsTrail u.variables u.lits u.reasons → length t.reasons ≡ length t.lits →
    IsReason (lits_at a r) t.lits l → AssignsUnits a t u
Assigns-push a t u r l is trail len reason =
    let lits_is : u.lits ≡ t.lits ++ l ∷ [] = ap (λ (x : Assignments). x.lits) is in
    let reasons_is : u.reasons ≡ t.reasons ++ Some r ∷ [] = ap (λ (x : Assignments). x.reasons) is in
    let trail' : IsTrail t.variables (t.lits ++ l ∷ []) (t.reasons ++ Some r ∷ []) =
    subst (λ (x : Assignments). IsTrail x.variables x.lits x.reasons) is trail in
    record {
      variables = ap (λ (x : Assignments). x.variables) is;
      trail = Begins-push t.lits (l ∷ []) u.lits lits_is;
      reasons = Begins-push t.reasons (Some r ∷ []) u.reasons reasons_is;
      level = ap decided reasons_is ∙ (decided-append t.reasons (Some r ∷ []) ∙ omega arith);
      facts = λ h f. subst (λ (x : Assignments). AreFacts (lits_at a) x.variables x.lits x.reasons h) (sym is)
          (AreFacts-push (lits_at a) t.variables t.lits t.reasons h l (Some r) f trail'
          (λ q e. subst (λ (m : ℕ). IsReason (lits_at a m) t.lits l) (same_Some r q e) reason)
          (λ _. refl));
      units = λ w f. subst (λ (x : Assignments). AreUnits a x.lits x.reasons w) (sym is)
          (AreUnits-push a t.lits (l ∷ []) t.reasons (Some r ∷ []) w len f);
    }

-- an empty clause is false
pub unit_empty : (a : Clauses) (t : Assignments) (r : ℕ) → length (lits_at a r) ≡ 0 →
    AssignsUnit a t t r false
unit_empty a t r len = record {
  steps = Assigns-none a t;
  one = λ e. absurd (cc e);
  is_true = λ e. absurd (cc e);
  failed = λ e. is_false-all (value_of t.lits) (lits_at a r) (λ k k_in. absurd (omega (arith, k_in, len)));
}

-- a literal that has a value decides
pub unit_valued : (a : Clauses) (t : Assignments) (r : ℕ) (b : Bool) → length (lits_at a r) < 2 →
    length (lits_at a r) ≢ 0 → value_of t.lits (lit_at (lits_at a r) 0) ≡ Some b → AssignsUnit a t t r b
unit_valued a t r b short some value = record {
  steps = Assigns-none a t;
  one = λ e. omega arith;
  is_true = λ e. value ∙ ap (λ (x : Bool). Some x) e;
  failed = λ e. is_false-all (value_of t.lits) (lits_at a r)
      (λ k k_in. subst (λ (m : ℕ). value_of t.lits (lit_at (lits_at a r) m) ≡ Some false)
      (first k (length (lits_at a r)) k_in short) (value ∙ ap (λ (x : Bool). Some x) e));
}
  where
    first : (k n : ℕ) → k < n → n < 2 → 0 ≡ k
    first k n h l = omega arith

-- a literal that has no value is made true
pub unit_pushed : (a : Clauses) (t u : Assignments) (r : ℕ) (l : Literal) → l ≡ lit_at (lits_at a r) 0 →
    length (lits_at a r) < 2 → length (lits_at a r) ≢ 0 →
    u ≡ record t { lits = t.lits ++ l ∷ []; reasons = t.reasons ++ Some r ∷ [] } →
    IsTrail u.variables u.lits u.reasons → length t.reasons ≡ length t.lits
    → value_of t.lits l ≡ None → AssignsUnit a t u r true
unit_pushed a t u r l l_is short some is trail len free = record {
  steps = Assigns-push a t u r l is trail len (record {
    has = subst (λ (x : Literal). has_literal x (lits_at a r) ≡ true) (sym l_is)
        (has_literal-at (lits_at a r) 0 (omega arith));
    others = λ k k_in away. absurd (away (ap (index_at (lits_at a r))
        (first k (length (lits_at a r)) k_in short) ∙ ap index_of (sym l_is)));
  });
  one = λ e. omega arith;
  is_true = λ e. ap (value_of u.lits) (sym l_is)
      ∙ (ap (λ (ys : List Literal). value_of ys l) (ap (λ (x : Assignments). x.lits) is)
      ∙ (value_of-push_here t.lits l l free refl ∙ ap (λ (b : Bool). Some b) (same l.negated)));
  failed = λ e. absurd (cc e);
}
  where
    first : (k n : ℕ) → k < n → n < 2 → k ≡ 0
    first k n h l = omega arith

    same : (n : Bool) → same_sign n n ≡ true
    same true = refl
    same false = refl

-- the last clause of those that wait was looked at
pub Units-pop : (a : Clauses) (t u : Assignments) (waiting rest : List ℕ) (r : ℕ) →
    AreUnits a t.lits t.reasons waiting → waiting ≡ rest ++ r ∷ [] → AssignsUnit a t u r true →
    decided t.reasons ≡ 0 → AreUnits a u.lits u.reasons rest
Units-pop a t u waiting rest r units is step level =
    let old : AreUnits a u.lits u.reasons waiting = step.steps.units waiting units in
    let count : (k : ℕ) → occurrences k waiting ≡ occurrences k rest + cond {A = ℕ} (eqb r k) 1 0 =
    λ k. ap (occurrences k) is ∙ occurrences-push k rest r in
    record {
      one = λ k live short none. ⊎_elim (λ e. subst (λ (m : ℕ). length (lits_at a m) ≡ 1) (sym e)
          (step.one refl)) (λ ne. old.one k live short (absent k r (occurrences k rest) ne none
          (occurrences k waiting) (count k))) (cases_eq k r);
      true_ = λ k live short none. ⊎_elim (λ e. subst (λ (m : ℕ). value_of u.lits (lit_at (lits_at a m) 0)
          ≡ Some true) (sym e) (step.is_true refl)) (λ ne. old.true_ k live short
          (absent k r (occurrences k rest) ne none (occurrences k waiting) (count k))) (cases_eq k r);
      level = λ k live short none. omega (
        arith,
        decided-take_drop
            (trail_index u.lits (lit_at (lits_at a k) 0).variable + 1) u.reasons,
        step.steps.level,
        level,
      );
      live = λ k some. old.live k (omega (arith, some, count k));
      short = λ k some. old.short k (omega (arith, some, count k));
    }
  where
    occurrences-push : (k : ℕ) (xs : List ℕ) (x : ℕ) →
        occurrences k (xs ++ x ∷ []) ≡ occurrences k xs + cond {A = ℕ} (eqb x k) 1 0
    occurrences-push k [] x = omega arith
    occurrences-push k (y ∷ ys) x = ap (λ (n : ℕ). cond {A = ℕ} (eqb y k) 1 0 + n) (occurrences-push k ys x)
        ∙ omega arith

    absent : (k r n : ℕ) → k ≢ r → n ≡ 0 → (m : ℕ) → m ≡ n + cond {A = ℕ} (eqb r k) 1 0 → m ≡ 0
    absent k r n ne e m h = grind (arith, nat_tests)

pub last_split : (xs : List ℕ) (n m r : ℕ) → n ≡ length xs → m ≡ n → 0 < n → r ≡ get_or xs (m - 1) r →
    xs ≡ take (n - 1) xs ++ r ∷ []
last_split xs n m r n_is m_is some r_is =
    let read : r ≡ get_or xs (n - 1) 0 = get_or_read xs (n - 1) r (omega (arith, n_is, some)) (r_is
    ∙ ap (λ (k : ℕ). get_or xs (k - 1) r) m_is) 0 in
    sym (take_all (n - 1 + 1) xs (omega (arith, n_is, some)))
    ∙ (take_more xs (n - 1) 0 (omega (arith, n_is, some))
    ∙ ap (λ (x : ℕ). take (n - 1) xs ++ x ∷ []) (sym read))

pub occurs_last : (xs ys : List ℕ) (r : ℕ) → xs ≡ ys ++ r ∷ [] → 0 < occurrences r xs
occurs_last xs ys r e = omega (arith, ap (occurrences r) e, occurs ys)
  where
    here : (r : ℕ) → cond {A = ℕ} (eqb r r) 1 0 + 0 ≡ 1
    here r = grind (arith, nat_tests)

    occurs : (ys : List ℕ) → 0 < occurrences r (ys ++ r ∷ [])
    occurs [] = omega (arith, here r)
    occurs (y ∷ ys) = omega (arith, occurs ys)

pub level_zero : (d : ℕ) (xs : List ℕ) → (0 < d → xs ≡ []) → 0 < length xs → d ≡ 0
level_zero zero xs h some = refl
level_zero (suc d) xs h some = absurd (omega (arith, some, ap length (h (omega arith))))
