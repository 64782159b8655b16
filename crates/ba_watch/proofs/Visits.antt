-- One clause of the visited list is looked at.

use Rattle.std.proofs.Common.{◌≡◌, ◌≢◌, ℕ, suc, zero, ◌+◌, ◌<◌, ◌≤◌, Bool, true, false, Option, None, Some, is_some, List, [], ◌∷◌, ◌++◌, length, take, eqb, leb, ◌&&◌, ◌||◌, cond, refl, sym, ap, subst, ◌∙◌, arith, ⊎_elim}
use mathlib.Core.Path.{fun_ext}
use Rattle.std.proofs.lemmas.Option.{same_Some}
use Rattle.std.proofs.lemmas.Bool.{cases_eq, cases_lt}
use Rattle.std.proofs.lemmas.Bool.Decides.{nat_tests}
use Rattle.std.proofs.lemmas.List.{take_all, take_at, take-take, length-take, length_push, get_or_append_left}
use Rattle.std.specs.List.{swap}
use Rattle.std.proofs.lemmas.List.Sorted.{IsPermutation-refl, IsPermutation-swap, IsPermutation-trans}
use Rattle.std.proofs.lemmas.List.Edits.{length-swap}
use Rattle.ba_lits.specs.Literals.{Literal, negate, index_of, lit_at, no_literal}
use Rattle.ba_lits.proofs.Members.{same_from_index, has_literal-at}
use Rattle.ba_arena.specs.Clauses.{Clauses, Stored, IsLive, clause_at, lits_at, lits_of}
use Rattle.ba_watch.specs.Chains.{occurrences}
use Rattle.ba_watch.specs.Threads.{Clause, plain, plain_at, reordered, SamePlain, ReordersOne, index_at, watch_count, next_of, pending_of, AreApart}
use Rattle.ba_watch.proofs.Walks.{walk-Leads}
use Rattle.ba_watch.specs.Trails.{Assignments, same_sign, value_of, trail_index, decided, level_at, IsTrail, Begins}
use Rattle.ba_watch.specs.Propagation.{plain_lits, SameClause, is_false, IsReason, HasReasons, IsGuarded, AreGuarded, AreUnits, IsVisiting, AreVisited, VisitsSome, Visits, IsUnderway}
use Rattle.ba_watch.proofs.Values.{value_of-at, value_of-more, value_of-push_here}
use Rattle.ba_watch.proofs.Levels.{decided-append}
use Rattle.ba_watch.proofs.Swaps.{each-swap, lit_at-swap_first, lit_at-swap_other}
use Rattle.ba_watch.proofs.Facts.{value_of-negate, AreFacts-push, AreUnits-push, IsReason-swap, is_false-all}

-- literals and life, read off the plain clause
pub lits-plain : (a : Clauses) (k : ℕ) → lits_at a k ≡ plain_lits (plain_at a k)
lits-plain a k = at (clause_at a k)
  where
    at : (o : Option Stored) → lits_of o ≡ plain_lits (plain o)
    at None = refl
    at (Some s) = refl

pub lits-same : (a a' : Clauses) (k : ℕ) → plain_at a' k ≡ plain_at a k → lits_at a' k ≡ lits_at a k
lits-same a a' k e = lits-plain a' k ∙ (ap plain_lits e ∙ sym (lits-plain a k))

pub some-plain : (a : Clauses) (k : ℕ) → is_some (clause_at a k) ≡ is_some (plain_at a k)
some-plain a k = at (clause_at a k)
  where
    at : (o : Option Stored) → is_some o ≡ is_some (plain o)
    at None = refl
    at (Some s) = refl

some-reordered : (x y : ℕ) (o : Option Clause) → is_some (reordered x y o) ≡ is_some o
some-reordered x y None = refl
some-reordered x y (Some c) = refl

lits-reordered : (x y : ℕ) (o : Option Clause) → plain_lits (reordered x y o) ≡ swap (plain_lits o) x y
lits-reordered x y None = refl
lits-reordered x y (Some c) = refl

pub SameClause-refl : (o : Option Clause) → SameClause o o
SameClause-refl None = tt
SameClause-refl (Some c) = (refl, IsPermutation-refl c.lits)

pub SameClause-is : (o p : Option Clause) → p ≡ o → SameClause o p
SameClause-is o p e = subst (λ (q : Option Clause). SameClause o q) (sym e) (SameClause-refl o)

pub SameClause-trans : (o p q : Option Clause) → SameClause o p → SameClause p q → SameClause o q
SameClause-trans None None None s t = tt
SameClause-trans None None (Some e) s t = t
SameClause-trans None (Some d) q s t = absurd s
SameClause-trans (Some c) None q s t = absurd s
SameClause-trans (Some c) (Some d) None s t = t
SameClause-trans (Some c) (Some d) (Some e) s t =
    (t.0 ∙ s.0, IsPermutation-trans c.lits d.lits e.lits s.1 t.1)

SameClause-reordered : (x y : ℕ) (o : Option Clause) → x < length (plain_lits o) →
    y < length (plain_lits o) → SameClause o (reordered x y o)
SameClause-reordered x y None x_in y_in = tt
SameClause-reordered x y (Some c) x_in y_in = (refl, IsPermutation-swap c.lits _ x y x_in y_in refl)

-- units speak of short clauses alone
AreUnits-kept : (a a' : Clauses) (T : List Literal) (R : List (Option ℕ)) (waiting : List ℕ) →
    ((k : ℕ) → is_some (clause_at a' k) ≡ is_some (clause_at a k))
    → ((k : ℕ) → length (lits_at a' k) < 2 → lits_at a' k ≡ lits_at a k) →
    ((k : ℕ) → length (lits_at a k) < 2 → lits_at a' k ≡ lits_at a k) → AreUnits a T R waiting →
    AreUnits a' T R waiting
AreUnits-kept a a' T R waiting live lits lits_back u = record {
  one = λ k l short none. let e = lits k short in ap length e
      ∙ u.one k (sym (live k) ∙ l) (omega (arith, short, ap length e)) none;
  true_ = λ k l short none. let e = lits k short in ap (λ (ls : List Literal). value_of T (lit_at ls 0)) e
      ∙ u.true_ k (sym (live k) ∙ l) (omega (arith, short, ap length e)) none;
  level = λ k l short none. let e = lits k short in
      ap (λ (ls : List Literal). level_at R (trail_index T (lit_at ls 0).variable)) e
      ∙ u.level k (sym (live k) ∙ l) (omega (arith, short, ap length e)) none;
  live = λ k some. live k ∙ u.live k some;
  short = λ k some. omega (arith, ap length (lits_back k (u.short k some)), u.short k some);
}

-- the visited literal is false, and clauses with one of its index have it
pub visited_false : (L : ℕ → List Literal) (v : ℕ) (T : List Literal) (R : List (Option ℕ)) (h f : ℕ)
    (x : Literal) → IsVisiting L v T R h f → index_of x ≡ f → value_of T x ≡ Some false
visited_false L v T R h f x s is =
    let t : Literal = lit_at T h in
    let x_is : x ≡ negate t = same_from_index x (negate t) (is ∙ s.visited_is) in
    ap (value_of T) x_is ∙ value_of-negate T t true
    (value_of-at T h s.inside (s.facts.trail_is.fresh h s.inside))

pub Begins-refl : {X : Type 0} (xs : List X) → Begins xs xs
Begins-refl xs = take_all (length xs) xs (omega arith)

pub Begins-push : {X : Type 0} (xs ys zs : List X) → zs ≡ xs ++ ys → Begins xs zs
Begins-push xs ys zs e = ap (take (length xs)) e ∙ take_at xs ys (length xs) refl

-- a clause went back into the list
module _ (a a' : Clauses) (t : Assignments) (same : SamePlain a a') where
  kept_lits : lits_at a' ≡ lits_at a
  kept_lits = fun_ext (λ k. lits-same a a' k (same k))

  pub VisitsSome-keep : (f : ℕ) → VisitsSome a a' t t f
  VisitsSome-keep f = record {
    clauses = λ k. SameClause-is (plain_at a k) (plain_at a' k) (same k);
    variables = refl;
    trail = Begins-refl t.lits;
    reasons = Begins-refl t.reasons;
    level = refl;
    in_range = λ h. subst (λ (L : ℕ → List Literal). (r k : ℕ) → k < length (L r) →
        (lit_at (L r) k).variable ≤ t.variables) (sym (fun_ext (λ k. lits-same a a' k (same k)))) h;
    units = λ w u. AreUnits-kept a a' t.lits t.reasons w (λ k. some-plain a' k
        ∙ (ap is_some (same k) ∙ sym (some-plain a k))) (λ k short. lits-same a a' k (same k))
        (λ k short. lits-same a a' k (same k)) u;
    visiting = λ head s. subst (λ (L : ℕ → List Literal). IsVisiting L t.variables t.lits t.reasons head f)
        (sym (fun_ext (λ k. lits-same a a' k (same k)))) s;
  }

pub Begins-trans : {X : Type 0} (xs ys zs : List X) → Begins xs ys → Begins ys zs → Begins xs zs
Begins-trans xs ys zs e f =
    let le : length xs ≤ length ys = omega (arith, ap length e, length-take (length xs) ys) in
    sym (take-take (length xs) (length ys) zs le) ∙ (ap (take (length xs)) f ∙ e)

pub VisitsSome-trans : (a b c : Clauses) (t u w : Assignments) (f : ℕ) → VisitsSome a b t u f →
    VisitsSome b c u w f → VisitsSome a c t w f
VisitsSome-trans a b c t u w f s r = record {
  clauses = λ k. SameClause-trans (plain_at a k) (plain_at b k) (plain_at c k) (s.clauses k) (r.clauses k);
  variables = r.variables ∙ s.variables;
  trail = Begins-trans t.lits u.lits w.lits s.trail r.trail;
  reasons = Begins-trans t.reasons u.reasons w.reasons s.reasons r.reasons;
  level = r.level ∙ s.level;
  in_range = λ h. r.in_range (s.in_range h);
  units = λ x h. r.units x (s.units x h);
  visiting = λ head h. r.visiting head (s.visiting head h);
}

-- a clause watches another of its literals
module _ (a a' : Clauses) (t : Assignments) (r place k : ℕ) (moves : ReordersOne r place k a a')
    (place_le : place ≤ 1) (far : 2 ≤ k) (k_in : k < length (lits_at a r)) where
  pub move_lits : lits_at a' r ≡ swap (lits_at a r) place k
  move_lits = lits-plain a' r ∙ (ap plain_lits moves.0
      ∙ (lits-reordered place k (plain_at a r) ∙ ap (λ (ls : List Literal). swap ls place k)
      (sym (lits-plain a r))))

  pub move_others : (j : ℕ) → j ≢ r → lits_at a' j ≡ lits_at a j
  move_others j ne = lits-same a a' j (moves.1 j ne)

  move_live : (j : ℕ) → is_some (clause_at a' j) ≡ is_some (clause_at a j)
  move_live j = ⊎_elim
      (λ e. subst (λ (m : ℕ). is_some (clause_at a' m) ≡ is_some (clause_at a m)) (sym e) (some-plain a' r
      ∙ (ap is_some moves.0 ∙ (some-reordered place k (plain_at a r) ∙ sym (some-plain a r)))))
      (λ ne. some-plain a' j ∙ (ap is_some (moves.1 j ne) ∙ sym (some-plain a j)))
      (cases_eq j r)

  move_length : length (lits_at a' r) ≡ length (lits_at a r)
  move_length = ap length move_lits ∙ length-swap (lits_at a r) place k

  -- what holds of each clause's literals, but of this one
  move_each : (P : List Literal → Type 0) → (j : ℕ) → (j ≢ r → P (lits_at a j)) →
      (j ≡ r → P (swap (lits_at a r) place k)) → P (lits_at a' j)
  move_each P j other here = ⊎_elim
      (λ e. subst (λ (m : ℕ). P (lits_at a' m)) (sym e) (subst P (sym move_lits) (here e)))
      (λ ne. subst P (sym (move_others j ne)) (other ne))
      (cases_eq j r)

  move_in_range : (n : ℕ) → ((j m : ℕ) → m < length (lits_at a j) → (lit_at (lits_at a j) m).variable ≤ n) →
      (j m : ℕ) → m < length (lits_at a' j) → (lit_at (lits_at a' j) m).variable ≤ n
  move_in_range n h j = move_each (λ ls. (m : ℕ) → m < length ls →
      (lit_at ls m).variable ≤ n) j (λ ne. h j) (λ _. each-swap (λ (l : Literal). l.variable ≤ n)
      (lits_at a r) place k (omega arith) k_in (h r))

  move_units : (waiting : List ℕ) → AreUnits a t.lits t.reasons waiting → AreUnits a' t.lits t.reasons waiting
  move_units waiting = AreUnits-kept a a' t.lits t.reasons waiting move_live
      (λ j short. move_others j (λ e. absurd (omega
      (arith, short, ap (λ (m : ℕ). length (lits_at a' m)) e, move_length, far, k_in))))
      (λ j short. move_others j (λ e. absurd (omega
      (arith, short, ap (λ (m : ℕ). length (lits_at a m)) e, far, k_in))))

  -- the clause's watched literals are the one that was kept and a new one, which isn't false
  move_guarded : (h : ℕ) (other : ℕ) → other ≤ 1 → other ≢ place →
      value_of t.lits (lit_at (lits_at a r) place) ≡ Some false →
      (value_of t.lits (lit_at (lits_at a r) k) ≡ Some false → ⊥) →
      AreGuarded (lits_at a) t.lits t.reasons h → AreGuarded (lits_at a') t.lits t.reasons h
  move_guarded h other other_le ne place_false k_free g =
      let ls : List Literal = lits_at a r in
      let p_in : place < length ls = omega arith in
      let new : lit_at (swap ls place k) place ≡ lit_at ls k = lit_at-swap_first ls place k p_in k_in in
      let old : lit_at (swap ls place k) other ≡ lit_at ls other =
      lit_at-swap_other ls place k other p_in k_in ne (omega arith) in
      let from_new : IsGuarded t.lits t.reasons h (lit_at (swap ls place k) place)
      (lit_at (swap ls place k) other) =
      λ is_false before. absurd (k_free (ap (value_of t.lits) (sym new) ∙ is_false)) in
      let from_old : IsGuarded t.lits t.reasons h (lit_at (swap ls place k) other)
      (lit_at (swap ls place k) place) =
      λ is_false before. absurd (clash (guard_of place other place_le other_le ne
      (ap (value_of t.lits) (sym old) ∙ is_false) (subst
      (λ (l : Literal). trail_index t.lits l.variable < h) old before)) place_false) in
      record {
        first = λ j long. move_each (λ ls'. 2 ≤ length ls' →
            IsGuarded t.lits t.reasons h (lit_at ls' 0) (lit_at ls' 1)) j (λ other_clause. g.first j)
            (λ _ _. pick_first place other place_le other_le ne from_new from_old) long;
        second = λ j long. move_each (λ ls'. 2 ≤ length ls' →
            IsGuarded t.lits t.reasons h (lit_at ls' 1) (lit_at ls' 0)) j (λ other_clause. g.second j)
            (λ _ _. pick_second place other place_le other_le ne from_new from_old) long;
      }
    where
      clash : {x : Option Bool} → x ≡ Some true → x ≡ Some false → ⊥
      clash p q = cc (p, q)

      guard_of : (p o : ℕ) → p ≤ 1 → o ≤ 1 → o ≢ p → value_of t.lits (lit_at (lits_at a r) o) ≡ Some false →
          trail_index t.lits (lit_at (lits_at a r) o).variable < h →
          value_of t.lits (lit_at (lits_at a r) p) ≡ Some true
      guard_of zero zero le le' ne' f b = absurd (ne' refl)
      guard_of zero (suc zero) le le' ne' f b = (g.second r (omega arith) f b).0
      guard_of (suc zero) zero le le' ne' f b = (g.first r (omega arith) f b).0
      guard_of (suc zero) (suc zero) le le' ne' f b = absurd (ne' refl)
      guard_of (suc (suc p)) o le le' ne' f b = absurd (omega arith)
      guard_of zero (suc (suc o)) le le' ne' f b = absurd (omega arith)
      guard_of (suc zero) (suc (suc o)) le le' ne' f b = absurd (omega arith)

      pick_first : (p o : ℕ) → p ≤ 1 → o ≤ 1 → o ≢ p →
          IsGuarded t.lits t.reasons h (lit_at (swap (lits_at a r) place k) p)
          (lit_at (swap (lits_at a r) place k) o) → IsGuarded t.lits t.reasons h
          (lit_at (swap (lits_at a r) place k) o) (lit_at (swap (lits_at a r) place k) p)
          → IsGuarded t.lits t.reasons h (lit_at (swap (lits_at a r) place k) 0)
          (lit_at (swap (lits_at a r) place k) 1)
      pick_first zero zero le le' ne' n o = absurd (ne' refl)
      pick_first zero (suc zero) le le' ne' n o = n
      pick_first (suc zero) zero le le' ne' n o = o
      pick_first (suc zero) (suc zero) le le' ne' n o = absurd (ne' refl)
      pick_first (suc (suc p)) q le le' ne' n o = absurd (omega arith)
      pick_first zero (suc (suc q)) le le' ne' n o = absurd (omega arith)
      pick_first (suc zero) (suc (suc q)) le le' ne' n o = absurd (omega arith)

      pick_second : (p o : ℕ) → p ≤ 1 → o ≤ 1 → o ≢ p →
          IsGuarded t.lits t.reasons h (lit_at (swap (lits_at a r) place k) p)
          (lit_at (swap (lits_at a r) place k) o) → IsGuarded t.lits t.reasons h
          (lit_at (swap (lits_at a r) place k) o) (lit_at (swap (lits_at a r) place k) p)
          → IsGuarded t.lits t.reasons h (lit_at (swap (lits_at a r) place k) 1)
          (lit_at (swap (lits_at a r) place k) 0)
      pick_second zero zero le le' ne' n o = absurd (ne' refl)
      pick_second zero (suc zero) le le' ne' n o = o
      pick_second (suc zero) zero le le' ne' n o = n
      pick_second (suc zero) (suc zero) le le' ne' n o = absurd (ne' refl)
      pick_second (suc (suc p)) q le le' ne' n o = absurd (omega arith)
      pick_second zero (suc (suc q)) le le' ne' n o = absurd (omega arith)
      pick_second (suc zero) (suc (suc q)) le le' ne' n o = absurd (omega arith)

  move_reasons : HasReasons (lits_at a) t.lits t.reasons → HasReasons (lits_at a') t.lits t.reasons
  move_reasons h p j p_in reason = move_each (λ ls. IsReason ls (take p t.lits) (lit_at t.lits p)) j
      (λ ne. h p j p_in reason)
      (λ e. IsReason-swap (lits_at a r) (take p t.lits) (lit_at t.lits p) place k (omega arith) k_in
      (subst (λ (m : ℕ). IsReason (lits_at a m) (take p t.lits) (lit_at t.lits p)) e (h p j p_in reason)))

  pub VisitsSome-move : (f other : ℕ) → other ≤ 1 → other ≢ place → index_at (lits_at a r) place ≡ f →
      (value_of t.lits (lit_at (lits_at a r) k) ≡ Some false → ⊥) → VisitsSome a a' t t f
  VisitsSome-move f other other_le ne place_is k_free = record {
    clauses = λ j. ⊎_elim
        (λ e. subst (λ (m : ℕ). SameClause (plain_at a m) (plain_at a' m)) (sym e)
        (subst (λ (o : Option Clause). SameClause (plain_at a r) o) (sym moves.0)
        (SameClause-reordered place k (plain_at a r) (omega (arith, ap length (lits-plain a r)))
        (omega (arith, ap length (lits-plain a r))))))
        (λ other_clause. SameClause-is (plain_at a j) (plain_at a' j) (moves.1 j other_clause))
        (cases_eq j r);
    variables = refl;
    trail = Begins-refl t.lits;
    reasons = Begins-refl t.reasons;
    level = refl;
    in_range = λ h. move_in_range t.variables h;
    units = move_units;
    visiting = λ head s. record {
      facts = record {
        trail_is = s.facts.trail_is;
        head_le = s.facts.head_le;
        present = s.facts.present;
        guarded = move_guarded head other other_le ne
            (visited_false (lits_at a) t.variables t.lits t.reasons head f (lit_at (lits_at a r) place) s
            place_is) k_free s.facts.guarded;
        reasons_are = move_reasons s.facts.reasons_are;
        in_range = move_in_range t.variables s.facts.in_range;
      };
      inside = s.inside;
      visited_is = s.visited_is;
    };
  }

-- a literal is put on the trail because of the clause
pub VisitsSome-push : (a : Clauses) (t u : Assignments) (r f : ℕ) (l : Literal) →
    u ≡ record t { lits = t.lits ++ l ∷ []; reasons = t.reasons ++ Some r ∷ [] } →
    IsTrail u.variables u.lits u.reasons → length t.reasons ≡ length t.lits
    → ((head : ℕ) → IsVisiting (lits_at a) t.variables t.lits t.reasons head f →
    IsReason (lits_at a r) t.lits l) → VisitsSome a a t u f
VisitsSome-push a t u r f l is trail len reason =
    let lits_is : u.lits ≡ t.lits ++ l ∷ [] = ap (λ (x : Assignments). x.lits) is in
    let reasons_is : u.reasons ≡ t.reasons ++ Some r ∷ [] = ap (λ (x : Assignments). x.reasons) is in
    let variables_is : u.variables ≡ t.variables = ap (λ (x : Assignments). x.variables) is in
    let pushed : Assignments = record t { lits = t.lits ++ l ∷ []; reasons = t.reasons ++ Some r ∷ [] } in
    let trail' : IsTrail t.variables (t.lits ++ l ∷ []) (t.reasons ++ Some r ∷ []) =
    subst (λ (x : Assignments). IsTrail x.variables x.lits x.reasons) is trail in
    record {
      clauses = λ k. SameClause-refl (plain_at a k);
      variables = variables_is;
      trail = Begins-push t.lits (l ∷ []) u.lits lits_is;
      reasons = Begins-push t.reasons (Some r ∷ []) u.reasons reasons_is;
      level = ap decided reasons_is ∙ (decided-append t.reasons (Some r ∷ []) ∙ omega arith);
      in_range = λ h j k k_in. omega (arith, h j k k_in, variables_is);
      units = λ w h. subst (λ (x : Assignments). AreUnits a x.lits x.reasons w) (sym is)
          (AreUnits-push a t.lits (l ∷ []) t.reasons (Some r ∷ []) w len h);
      visiting = λ head s. subst (λ (x : Assignments). IsVisiting (lits_at a) x.variables x.lits x.reasons
          head f) (sym is) (record {
            facts = AreFacts-push (lits_at a) t.variables t.lits t.reasons head l (Some r) s.facts trail'
                (λ q e. subst (λ (m : ℕ). IsReason (lits_at a m) t.lits l) (same_Some r q e) (reason head s))
                (λ _. refl);
            inside = omega (arith, s.inside, length_push t.lits l);
            visited_is = s.visited_is ∙ ap (λ (x : Literal). index_of (negate x))
                (sym (get_or_append_left t.lits (l ∷ []) no_literal head s.inside));
          });
    }

-- one clause less is to be looked at
AreVisited-less : (L L' : ℕ → List Literal) (T T' : List Literal) (f r : ℕ) (rest : List ℕ) →
    AreVisited L T f (r ∷ rest) → ((c : ℕ) → c ≢ r → L' c ≡ L c) →
    ((l : Literal) → value_of T l ≡ Some true → value_of T' l ≡ Some true)
    → (index_at (L' r) 0 ≡ f → value_of T' (lit_at (L' r) 1) ≡ Some true) →
    (index_at (L' r) 1 ≡ f → value_of T' (lit_at (L' r) 0) ≡ Some true) → AreVisited L' T' f rest
AreVisited-less L L' T T' f r rest old same more here_first here_second = record {
  first = λ c long none. ⊎_elim
      (λ e. subst (λ (m : ℕ). index_at (L' m) 0 ≡ f →
      value_of T' (lit_at (L' m) 1) ≡ Some true) (sym e) here_first)
      (λ ne. subst (λ (ls : List Literal). 2 ≤ length ls → index_at ls 0 ≡ f →
      value_of T' (lit_at ls 1) ≡ Some true) (sym (same c ne))
      (λ long' is. more (lit_at (L c) 1) (old.first c long' (absent c r (occurrences c rest) ne none)
      is)) long)
      (cases_eq c r);
  second = λ c long none. ⊎_elim
      (λ e. subst (λ (m : ℕ). index_at (L' m) 1 ≡ f →
      value_of T' (lit_at (L' m) 0) ≡ Some true) (sym e) here_second)
      (λ ne. subst (λ (ls : List Literal). 2 ≤ length ls → index_at ls 1 ≡ f →
      value_of T' (lit_at ls 0) ≡ Some true) (sym (same c ne))
      (λ long' is. more (lit_at (L c) 0) (old.second c long' (absent c r (occurrences c rest) ne none)
      is)) long)
      (cases_eq c r);
}
  where
    absent : (c r n : ℕ) → c ≢ r → n ≡ 0 → cond (eqb r c) 1 0 + n ≡ 0
    absent c r n ne e = grind (arith, nat_tests)

-- the other watched literal of a clause that watches f at a place
other_true : (L : List Literal) (T : List Literal) (f place other : ℕ) → AreApart L → 2 ≤ length L →
    place ≤ 1 → other ≤ 1 → other ≢ place → index_at L place ≡ f → value_of T (lit_at L other) ≡ Some true
    → (index_at L 0 ≡ f → value_of T (lit_at L 1) ≡ Some true)
    × (index_at L 1 ≡ f → value_of T (lit_at L 0) ≡ Some true)
other_true L T f zero zero apart long le le' ne is h = absurd (ne refl)
other_true L T f zero (suc zero) apart long le le' ne is h =
    (λ _. h, λ e. absurd (apart 0 1 (omega arith) (omega arith) (omega arith) (is ∙ sym e)))
other_true L T f (suc zero) zero apart long le le' ne is h =
    (λ e. absurd (apart 0 1 (omega arith) (omega arith) (omega arith) (e ∙ sym is)), λ _. h)
other_true L T f (suc zero) (suc zero) apart long le le' ne is h = absurd (ne refl)
other_true L T f (suc (suc n)) other apart long le le' ne is h = absurd (omega arith)
other_true L T f zero (suc (suc n)) apart long le le' ne is h = absurd (omega arith)
other_true L T f (suc zero) (suc (suc n)) apart long le le' ne is h = absurd (omega arith)

-- a clause that no longer watches f
other_apart : (L : List Literal) (f place other k : ℕ) → AreApart L → 2 ≤ length L → place ≤ 1 → other ≤ 1 →
    other ≢ place → 2 ≤ k → k < length L → index_at L place ≡ f
    → (index_at (swap L place k) 0 ≡ f → ⊥) × (index_at (swap L place k) 1 ≡ f → ⊥)
other_apart L f zero other k apart long le le' ne far k_in is = (
  λ e. apart 0 k (omega arith) k_in (omega arith) (is
      ∙ (sym e ∙ ap index_of (lit_at-swap_first L 0 k (omega arith) k_in))),
  λ e. apart 0 1 (omega arith) (omega arith) (omega arith) (is
      ∙ (sym e ∙ ap index_of (lit_at-swap_other L 0 k 1 (omega arith) k_in (omega arith) (omega arith)))),
)
other_apart L f (suc zero) other k apart long le le' ne far k_in is = (
  λ e. apart 1 0 (omega arith) (omega arith) (omega arith) (is
      ∙ (sym e ∙ ap index_of (lit_at-swap_other L 1 k 0 (omega arith) k_in (omega arith) (omega arith)))),
  λ e. apart 1 k (omega arith) k_in (omega arith) (is
      ∙ (sym e ∙ ap index_of (lit_at-swap_first L 1 k (omega arith) k_in))),
)
other_apart L f (suc (suc n)) other k apart long le le' ne far k_in is = absurd (omega arith)

-- the four ways to look at a clause that watches the visited literal at one place and another literal at the other
module _ (a a' : Clauses) (t : Assignments) (f r place other : ℕ) (rest : List ℕ)
    (apart : AreApart (lits_at a r)) (long : 2 ≤ length (lits_at a r)) (place_le : place ≤ 1)
    (other_le : other ≤ 1) (ne : other ≢ place) (is : index_at (lits_at a r) place ≡ f) where
  -- the other literal is true
  pub visit_true : SamePlain a a' → value_of t.lits (lit_at (lits_at a r) other) ≡ Some true →
      Visits a a' t t f (r ∷ rest) rest r false
  visit_true same is_true =
      let both = other_true (lits_at a r) t.lits f place other apart long place_le other_le ne is is_true in
      record {
        steps = VisitsSome-keep a a' t same f;
        passed = λ head s e sw. AreVisited-less (lits_at a) (lits_at a') t.lits t.lits f r rest sw
            (λ c ne'. lits-same a a' c (same c)) (λ l h. h)
            (λ e0. ap (λ (ls : List Literal). value_of t.lits (lit_at ls 1)) (lits-same a a' r (same r))
            ∙ both.0 (sym (ap (λ (ls : List Literal). index_at ls 0) (lits-same a a' r (same r))) ∙ e0))
            (λ e1. ap (λ (ls : List Literal). value_of t.lits (lit_at ls 0)) (lits-same a a' r (same r))
            ∙ both.1 (sym (ap (λ (ls : List Literal). index_at ls 1) (lits-same a a' r (same r))) ∙ e1));
        failed = λ head s e. absurd (cc e);
      }

  -- a literal that isn't false is watched in its place
  pub visit_move : (k : ℕ) → ReordersOne r place k a a' → 2 ≤ k → k < length (lits_at a r) →
      (value_of t.lits (lit_at (lits_at a r) k) ≡ Some false → ⊥) → Visits a a' t t f (r ∷ rest) rest r false
  visit_move k moves far k_in free =
      let away = other_apart (lits_at a r) f place other k apart long place_le other_le ne far k_in is in
      let L_is : lits_at a' r ≡ swap (lits_at a r) place k =
      move_lits a a' t r place k moves place_le far k_in in
      record {
        steps = VisitsSome-move a a' t r place k moves place_le far k_in f other other_le ne is free;
        passed = λ head s e sw. AreVisited-less (lits_at a) (lits_at a') t.lits t.lits f r rest sw
            (move_others a a' t r place k moves place_le far k_in) (λ l h. h)
            (λ e0. absurd (away.0 (sym (ap (λ (ls : List Literal). index_at ls 0) L_is) ∙ e0)))
            (λ e1. absurd (away.1 (sym (ap (λ (ls : List Literal). index_at ls 1) L_is) ∙ e1)));
        failed = λ head s e. absurd (cc e);
      }

  -- all literals from place 2 on are false
  module _ (same : SamePlain a a') (tail : (k : ℕ) → 2 ≤ k → k < length (lits_at a r) →
      value_of t.lits (lit_at (lits_at a r) k) ≡ Some false) where
    false_but : (head : ℕ) → IsVisiting (lits_at a) t.variables t.lits t.reasons head f → (k : ℕ) →
        k < length (lits_at a r) → k ≢ other → value_of t.lits (lit_at (lits_at a r) k) ≡ Some false
    false_but head s k k_in k_ne = ⊎_elim
        (λ low. subst (λ (m : ℕ). value_of t.lits (lit_at (lits_at a r) m) ≡ Some false)
        (same_place place other k place_le other_le ne low k_ne)
        (visited_false (lits_at a) t.variables t.lits t.reasons head f (lit_at (lits_at a r) place) s is))
        (λ high. tail k high k_in)
        (cases_lt k 2)
      where
        same_place : (p o k : ℕ) → p ≤ 1 → o ≤ 1 → o ≢ p → k < 2 → k ≢ o → p ≡ k
        same_place p o k h1 h2 h3 h4 h5 = omega arith

    -- the other literal is false: so is the clause
    pub visit_false : value_of t.lits (lit_at (lits_at a r) other) ≡ Some false →
        Visits a a' t t f (r ∷ rest) rest r true
    visit_false other_false = record {
      steps = VisitsSome-keep a a' t same f;
      passed = λ head s e sw. absurd (cc e);
      failed = λ head s e. ap (is_false (value_of t.lits)) (lits-same a a' r (same r))
          ∙ is_false-all (value_of t.lits) (lits_at a r)
          (λ k k_in. ⊎_elim (λ e'. subst (λ (m : ℕ). value_of t.lits (lit_at (lits_at a r) m) ≡ Some false)
          (sym e') other_false) (λ k_ne. false_but head s k k_in k_ne) (cases_eq k other));
    }

    -- the other literal has no value: it is made true
    pub visit_unit : (u : Assignments) → u ≡ record t {
      lits = t.lits ++ lit_at (lits_at a r) other ∷ [];
      reasons = t.reasons ++ Some r ∷ [];
    } →
        IsTrail u.variables u.lits u.reasons → length t.reasons ≡ length t.lits →
        value_of t.lits (lit_at (lits_at a r) other) ≡ None
        → Visits a a' t u f (r ∷ rest) rest r false
    visit_unit u u_is trail len free =
        let l : Literal = lit_at (lits_at a r) other in
        let o_in : other < length (lits_at a r) = omega (arith, other_le, long) in
        let L_is : lits_at a' r ≡ lits_at a r = lits-same a a' r (same r) in
        let lits_is : u.lits ≡ t.lits ++ l ∷ [] = ap (λ (x : Assignments). x.lits) u_is in
        let is_true : value_of u.lits l ≡ Some true = ap (λ (ys : List Literal). value_of ys l) lits_is
        ∙ (value_of-push_here t.lits l l free refl ∙ ap (λ (b : Bool). Some b)
        (same_sign-same l.negated)) in
        let both = other_true (lits_at a r) u.lits f place other apart long place_le other_le ne is is_true in
        let reason : (head : ℕ) → IsVisiting (lits_at a') t.variables t.lits t.reasons head f →
        IsReason (lits_at a' r) t.lits l = λ head s'.
        let s : IsVisiting (lits_at a) t.variables t.lits t.reasons head f =
        subst (λ (L : ℕ → List Literal). IsVisiting L t.variables t.lits t.reasons head f)
        (fun_ext (λ k. lits-same a a' k (same k))) s' in
        subst (λ (ls : List Literal). IsReason ls t.lits l) (sym L_is) (record {
          has = has_literal-at (lits_at a r) other o_in;
          others = λ k k_in away. false_but head s k k_in (λ e. away (ap (index_at (lits_at a r)) e));
        }) in
        record {
          steps = VisitsSome-trans a a' a' t t u f (VisitsSome-keep a a' t same f)
              (VisitsSome-push a' t u r f l u_is trail len reason);
          passed = λ head s e sw. AreVisited-less (lits_at a) (lits_at a') t.lits u.lits f r rest sw
              (λ c ne'. lits-same a a' c (same c))
              (λ x h. ap (λ (ys : List Literal). value_of ys x) lits_is
              ∙ value_of-more t.lits (l ∷ []) x true h)
              (λ e0. ap (λ (ls : List Literal). value_of u.lits (lit_at ls 1)) L_is
              ∙ both.0 (sym (ap (λ (ls : List Literal). index_at ls 0) L_is) ∙ e0))
              (λ e1. ap (λ (ls : List Literal). value_of u.lits (lit_at ls 0)) L_is
              ∙ both.1 (sym (ap (λ (ls : List Literal). index_at ls 1) L_is) ∙ e1));
          failed = λ head s e. absurd (cc e);
        }
      where
        same_sign-same : (n : Bool) → same_sign n n ≡ true
        same_sign-same true = refl
        same_sign-same false = refl

-- what is neither true nor false has no value
pub neither : (v : Option Bool) → (v ≡ Some true → ⊥) → (v ≡ Some false → ⊥) → v ≡ None
neither None t f = refl
neither (Some true) t f = absurd (t refl)
neither (Some false) t f = absurd (f refl)

-- the visits of one list go on
pub Underway-start : (a : Clauses) (t : Assignments) (f : ℕ) (todo : List ℕ) →
    ((r : ℕ) → occurrences r todo ≡ watch_count a f r) → IsUnderway a a t t f todo None
Underway-start a t f todo all = record {
  steps = VisitsSome-keep a a t (λ k. refl) f;
  passed = λ e head s. record {
    first = λ r long none is. absurd (first (length (lits_at a r)) (index_at (lits_at a r) 0)
        (index_at (lits_at a r) 1) f long is (sym (all r) ∙ none));
    second = λ r long none is. absurd (second (length (lits_at a r)) (index_at (lits_at a r) 0)
        (index_at (lits_at a r) 1) f long is (sym (all r) ∙ none));
  };
  failed = λ r e. absurd (cc e);
  live = λ r e. absurd (cc e);
}
  where
    first : (n i j f : ℕ) → 2 ≤ n → i ≡ f → cond {A = ℕ} (leb 2 n && (eqb i f || eqb j f)) 1 0 ≡ 0 → ⊥
    first n i j f long is none = grind (arith, nat_tests)

    second : (n i j f : ℕ) → 2 ≤ n → j ≡ f → cond {A = ℕ} (leb 2 n && (eqb i f || eqb j f)) 1 0 ≡ 0 → ⊥
    second n i j f long is none = grind (arith, nat_tests)

live-same : (a a' : Clauses) (r : ℕ) → SameClause (plain_at a r) (plain_at a' r) → IsLive a r → IsLive a' r
live-same a a' r same live = some-plain a' r ∙ (some_same (plain_at a r) (plain_at a' r) same
    ∙ (sym (some-plain a r) ∙ live))
  where
    some_same : (o p : Option Clause) → SameClause o p → is_some p ≡ is_some o
    some_same None None s = refl
    some_same None (Some d) s = absurd s
    some_same (Some c) None s = absurd s
    some_same (Some c) (Some d) s = refl

-- a clause is only put back once another is false
pub Underway-keep : (start a a' : Clauses) (t u : Assignments) (f r : ℕ) (rest : List ℕ)
    (conflict : Option ℕ) → IsUnderway start a t u f (r ∷ rest) conflict → is_some conflict ≡ true →
    SamePlain a a' → IsUnderway start a' t u f rest conflict
Underway-keep start a a' t u f r rest conflict way some same = record {
  steps = VisitsSome-trans start a a' t u u f way.steps (VisitsSome-keep a a' u same f);
  passed = λ e. absurd (none conflict some e);
  failed = λ k e head s. ap (is_false (value_of u.lits)) (lits-same a a' k (same k)) ∙ way.failed k e head s;
  live = λ k e. live-same a a' k (SameClause-is (plain_at a k) (plain_at a' k) (same k)) (way.live k e);
}
  where
    none : (o : Option ℕ) → is_some o ≡ true → o ≡ None → ⊥
    none None e h = absurd (cc e)
    none (Some x) e h = absurd (cc h)

-- a clause is looked at
pub Underway-visit : (start a a' : Clauses) (t u w : Assignments) (f r : ℕ) (rest : List ℕ)
    (conflict : Option ℕ) → IsUnderway start a t u f (r ∷ rest) conflict → is_some conflict ≡ false →
    Visits a a' u w f (r ∷ rest) rest r false → IsUnderway start a' t w f rest None
Underway-visit start a a' t u w f r rest conflict way none v = record {
  steps = VisitsSome-trans start a a' t u w f way.steps v.steps;
  passed = λ e head s. v.passed head (way.steps.visiting head s) refl
      (way.passed (is_none conflict none) head s);
  failed = λ k e. absurd (cc e);
  live = λ k e. absurd (cc e);
}
  where
    is_none : (o : Option ℕ) → is_some o ≡ false → o ≡ None
    is_none None e = refl
    is_none (Some x) e = absurd (cc e)

pub Underway-conflict : (start a a' : Clauses) (t u w : Assignments) (f r : ℕ) (rest : List ℕ)
    (conflict : Option ℕ) → IsUnderway start a t u f (r ∷ rest) conflict → IsLive a r →
    Visits a a' u w f (r ∷ rest) rest r true → IsUnderway start a' t w f rest (Some r)
Underway-conflict start a a' t u w f r rest conflict way live v = record {
  steps = VisitsSome-trans start a a' t u w f way.steps v.steps;
  passed = λ e. absurd (cc e);
  failed = λ k e head s. subst (λ (m : ℕ). is_false (value_of w.lits) (lits_at a' m) ≡ true) (same_Some r k e)
      (v.failed head (way.steps.visiting head s) refl);
  live = λ k e. subst (λ (m : ℕ). IsLive a' m) (same_Some r k e) (live-same a a' r (v.steps.clauses r) live);
}

pub Underway-next : (start a a' : Clauses) (t u w : Assignments) (f g r : ℕ) (todo rest : List ℕ)
    (conflict conflict' : Option ℕ) → IsUnderway start a t u f todo conflict → g ≡ f → todo ≡ r ∷ rest
    → (IsUnderway start a t u g (r ∷ rest) conflict → IsUnderway start a' t w g rest conflict') →
    IsUnderway start a' t w f rest conflict'
Underway-next start a a' t u w f g r todo rest conflict conflict' way same todo_is next =
    subst (λ (n : ℕ). IsUnderway start a' t w n rest conflict') same
    (next (subst (λ (n : ℕ). IsUnderway start a t u n (r ∷ rest) conflict) (sym same)
    (subst (λ (xs : List ℕ). IsUnderway start a t u f xs conflict) todo_is way)))

pub none_from : (o : Option ℕ) → ((x : ℕ) → o ≡ Some x → ⊥) → o ≡ None
none_from None h = refl
none_from (Some x) h = absurd (h x refl)

pub nothing_pending : (a : Clauses) (f : ℕ) (p : Option ℕ) → p ≡ None → pending_of a f p ≡ []
nothing_pending a f p e = ap (pending_of a f) e
    ∙ walk-Leads (length a) (next_of a f) None [] refl (omega arith)
