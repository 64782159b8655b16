-- The next clause of the visited list leaves it in two ways. It goes back, or into the list of another
-- literal that it watches from now on.

use Rattle.std.proofs.Common.{◌≡◌, ◌≢◌, ℕ, suc, zero, ◌+◌, ◌<◌, ◌≤◌, Bool, true, false, Option, None, Some, List, [], ◌∷◌, length, get_or, set, eqb, leb, cond, ◌&&◌, refl, sym, ap, subst, ◌∙◌, arith, get_or-set_same, get_or-set_other}
use Rattle.std.proofs.lemmas.Bool.{eq-eqb}
use Rattle.std.proofs.lemmas.Bool.Decides.{nat_tests}
use Rattle.std.proofs.lemmas.List.{length-set}
use Rattle.std.specs.List.{swap}
use Rattle.std.proofs.lemmas.List.Edits.{length-swap}
use Rattle.ba_lits.specs.Literals.{Literal, index_of}
use Rattle.ba_arena.specs.Clauses.{Clauses, Stored, clause_at, lits_at, lits_of, link_at, link_of, changed, linked, swapped}
use Rattle.ba_watch.specs.Chains.{occurrences}
use Rattle.ba_watch.specs.Threads.{next_of, list_of, pending_of, index_at, watch_count, AreApart, AreThreaded, plain, reordered}
use Rattle.ba_watch.proofs.Walks.{Leads, Leads-walk}
use Rattle.ba_watch.proofs.Relinks.{moved, within_from_watch, watch_count-le}
use Rattle.ba_watch.proofs.Steps.{Relinks, Moves-first, Moves-second}
use Rattle.ba_watch.proofs.Swaps.{lit_at-swap_first, lit_at-swap_other, AreApart-swap}

-- a changed clause, at its place and elsewhere
pub changed_here : (change : Option Stored → Option Stored) (a : Clauses) (r : ℕ) → r < length a →
    clause_at (changed change a r) r ≡ change (clause_at a r)
changed_here change a r within = get_or-set_same a r (change (clause_at a r)) None within

pub changed_there : (change : Option Stored → Option Stored) (a : Clauses) (r k : ℕ) → k ≢ r →
    clause_at (changed change a r) k ≡ clause_at a k
changed_there change a r k ne = get_or-set_other a r k (change (clause_at a r)) None ne

-- links are no part of the plain clause
plain-cond : (b : Bool) (s t : Stored) → plain (Some s) ≡ plain (Some t) →
    plain (Some (cond b s t)) ≡ plain (Some s)
plain-cond true s t e = refl
plain-cond false s t e = sym e

pub plain-linked : (which : ℕ) (next : Option ℕ) (o : Option Stored) → plain (linked which next o) ≡ plain o
plain-linked which next None = refl
plain-linked which next (Some s) = plain-cond (eqb which 0) (record s { first = next })
    (record s { second = next }) refl

pub plain-swapped : (x y : ℕ) (o : Option Stored) → plain (swapped x y o) ≡ reordered x y (plain o)
plain-swapped x y None = refl
plain-swapped x y (Some s) = refl

-- the next clause of the visited list watches its literal
pub pending_watches : (a : Clauses) (heads : List (Option ℕ)) (f r : ℕ) → AreThreaded a heads f (Some r) →
    watch_count a f r ≡ 1
pending_watches a heads f r t =
    let leads : Leads (next_of a f) (Some r) (pending_of a f (Some r)) =
    Leads-walk (length a) _ _ t.pending_ends in
    let some : 1 ≤ occurrences r (pending_of a f (Some r)) =
    first (next_of a f) (pending_of a f (Some r)) leads in
    let listed_f = t.counts f r in
    let le : watch_count a f r ≤ 1 = watch_count-le a f r in
    from (eqb f f) (eq-eqb f f refl) (occurrences r (list_of a heads f)) _ _ (t.counts f r) some le
  where
    here : (x r n : ℕ) → x ≡ r → 1 ≤ cond (eqb x r) 1 0 + n
    here x r n e = grind (arith, nat_tests)

    first : (next : ℕ → Option ℕ) (xs : List ℕ) → Leads next (Some r) xs → 1 ≤ occurrences r xs
    first next [] leads = absurd (cc leads)
    first next (x ∷ xs) leads = let e : x ≡ r = cc leads.0 in here x r (occurrences r xs) e

    from : (b : Bool) → b ≡ true → (l p w : ℕ) → l + cond b p 0 ≡ w → 1 ≤ p → w ≤ 1 → w ≡ 1
    from true e l p w h some le = omega arith
    from false e l p w h some le = absurd (cc e)

watched_long : (n : ℕ) (b : Bool) → cond {A = ℕ} (leb 2 n && b) 1 0 ≡ 1 → 2 ≤ n
watched_long n b h = grind (arith, nat_tests)

pub pending_long : (a : Clauses) (heads : List (Option ℕ)) (f r : ℕ) → AreThreaded a heads f (Some r) →
    2 ≤ length (lits_at a r)
pending_long a heads f r t = watched_long (length (lits_at a r)) _ (pending_watches a heads f r t)

pub pending_within : (a : Clauses) (heads : List (Option ℕ)) (f r : ℕ) → AreThreaded a heads f (Some r) →
    r < length a
pending_within a heads f r t = within_from_watch a f r (omega (arith, pending_watches a heads f r t))

-- the outcome of taking the next clause off the visited list
abbrev pub Takes : Clauses → Clauses → List (Option ℕ) → ℕ → ℕ → Option ℕ → Type 0
Takes a a' heads' f r next = AreThreaded a' heads' f next
    × (pending_of a f (Some r) ≡ r ∷ pending_of a' f next)

module _ (a : Clauses) (heads : List (Option ℕ)) (f r : ℕ) (t : AreThreaded a heads f (Some r)) where
  kept_first : (s : Stored) → clause_at a r ≡ Some s → 2 ≤ length s.lits → index_at s.lits 0 ≡ f →
      f < length heads
      → Takes a (changed (linked 0 (get_or heads f None)) a r) (set heads f (Some r)) f r s.first
  kept_first s at long was within =
      let h : Option ℕ = get_or heads f None in
      let a' : Clauses = changed (linked 0 h) a r in
      let s' : Stored = record s { first = h } in
      let apart : AreApart s.lits = subst (λ (o : Option Stored). AreApart (lits_of o)) at (t.apart r) in
      let c : Relinks a a' r s s' = record {
        was = at;
        is = changed_here (linked 0 h) a r (pending_within a heads f r t) ∙ ap (linked 0 h) at;
        others = λ k ne. changed_there (linked 0 h) a r k ne;
        long = long;
        long_still = long;
        apart_still = apart;
      } in
      let other : index_at s.lits 1 ≢ f = λ e. apart 0 1 (omega arith) (omega arith) (omega arith) (was
      ∙ sym e) in
      moved a a' heads f f r s.first t (Moves-first a a' heads f f r s s' c t.apart within was was refl refl
      refl other other)

  kept_second : (s : Stored) → clause_at a r ≡ Some s → 2 ≤ length s.lits → index_at s.lits 1 ≡ f →
      f < length heads
      → Takes a (changed (linked 1 (get_or heads f None)) a r) (set heads f (Some r)) f r s.second
  kept_second s at long was within =
      let h : Option ℕ = get_or heads f None in
      let a' : Clauses = changed (linked 1 h) a r in
      let s' : Stored = record s { second = h } in
      let apart : AreApart s.lits = subst (λ (o : Option Stored). AreApart (lits_of o)) at (t.apart r) in
      let c : Relinks a a' r s s' = record {
        was = at;
        is = changed_here (linked 1 h) a r (pending_within a heads f r t) ∙ ap (linked 1 h) at;
        others = λ k ne. changed_there (linked 1 h) a r k ne;
        long = long;
        long_still = long;
        apart_still = apart;
      } in
      let other : index_at s.lits 0 ≢ f = λ e. apart 0 1 (omega arith) (omega arith) (omega arith) (e
      ∙ sym was) in
      moved a a' heads f f r s.second t (Moves-second a a' heads f f r s s' c t.apart within was was refl
      refl refl other other)

  kept_some : (place : ℕ) (s : Stored) → clause_at a r ≡ Some s → 2 ≤ length s.lits → place ≤ 1 →
      index_at s.lits place ≡ f → f < length heads
      → Takes a (changed (linked place (get_or heads f None)) a r) (set heads f (Some r)) f r
      (link_of place (Some s))
  kept_some zero s at long le was within = kept_first s at long was within
  kept_some (suc zero) s at long le was within = kept_second s at long was within
  kept_some (suc (suc n)) s at long le was within = absurd (omega arith)

  kept_at : (place : ℕ) (o : Option Stored) → clause_at a r ≡ o → 2 ≤ length (lits_of o) → place ≤ 1 →
      index_at (lits_of o) place ≡ f → f < length heads
      → Takes a (changed (linked place (get_or heads f None)) a r) (set heads f (Some r)) f r
      (link_of place o)
  kept_at place None at long le was within = absurd (omega arith)
  kept_at place (Some s) at long le was within = kept_some place s at long le was within

  -- the clause goes back into the list
  pub kept : (place : ℕ) → place ≤ 1 → index_at (lits_at a r) place ≡ f → f < length heads
      → Takes a (changed (linked place (get_or heads f None)) a r) (set heads f (Some r)) f r
      (link_at a r place)
  kept place le was within = kept_at place (clause_at a r) refl (pending_long a heads f r t) le was within

  shifted_first : (s : Stored) (k : ℕ) → clause_at a r ≡ Some s → 2 ≤ k → k < length s.lits →
      index_at s.lits 0 ≡ f → index_at s.lits k < length heads
      → Takes a (changed (linked 0 (get_or heads (index_at s.lits k) None)) (changed (swapped 0 k) a r) r)
      (set heads (index_at s.lits k) (Some r)) f r s.first
  shifted_first s k at far k_in was within =
      let g : ℕ = index_at s.lits k in
      let h : Option ℕ = get_or heads g None in
      let a1 : Clauses = changed (swapped 0 k) a r in
      let a' : Clauses = changed (linked 0 h) a1 r in
      let lits' : List Literal = swap s.lits 0 k in
      let len : length lits' ≡ length s.lits = length-swap s.lits 0 k in
      let s' : Stored = record s { lits = lits'; first = h } in
      let r_in : r < length a = pending_within a heads f r t in
      let apart : AreApart s.lits = subst (λ (o : Option Stored). AreApart (lits_of o)) at (t.apart r) in
      let c : Relinks a a' r s s' = record {
        was = at;
        is =
            changed_here (linked 0 h) a1 r (rw length-set r_in)
            ∙ ap (linked 0 h) (changed_here (swapped 0 k) a r r_in ∙ ap (swapped 0 k) at);
        others = λ j ne. changed_there (linked 0 h) a1 r j ne ∙ changed_there (swapped 0 k) a r j ne;
        long = omega arith;
        long_still = omega arith;
        apart_still = AreApart-swap s.lits 0 k (omega arith) k_in apart;
      } in
      moved a a' heads f g r s.first t (Moves-first a a' heads f g r s s' c t.apart within was
      (ap index_of (lit_at-swap_first s.lits 0 k (omega arith) k_in))
      (ap index_of (lit_at-swap_other s.lits 0 k 1 (omega arith) k_in (omega arith) (omega arith)))
      refl refl
      (λ e. apart 0 1 (omega arith) (omega arith) (omega arith) (was ∙ sym e))
      (λ e. apart 1 k (omega arith) k_in (omega arith) e))

  shifted_second : (s : Stored) (k : ℕ) → clause_at a r ≡ Some s → 2 ≤ k → k < length s.lits →
      index_at s.lits 1 ≡ f → index_at s.lits k < length heads
      → Takes a (changed (linked 1 (get_or heads (index_at s.lits k) None)) (changed (swapped 1 k) a r) r)
      (set heads (index_at s.lits k) (Some r)) f r s.second
  shifted_second s k at far k_in was within =
      let g : ℕ = index_at s.lits k in
      let h : Option ℕ = get_or heads g None in
      let a1 : Clauses = changed (swapped 1 k) a r in
      let a' : Clauses = changed (linked 1 h) a1 r in
      let lits' : List Literal = swap s.lits 1 k in
      let len : length lits' ≡ length s.lits = length-swap s.lits 1 k in
      let s' : Stored = record s { lits = lits'; second = h } in
      let r_in : r < length a = pending_within a heads f r t in
      let apart : AreApart s.lits = subst (λ (o : Option Stored). AreApart (lits_of o)) at (t.apart r) in
      let c : Relinks a a' r s s' = record {
        was = at;
        is =
            changed_here (linked 1 h) a1 r (rw length-set r_in)
            ∙ ap (linked 1 h) (changed_here (swapped 1 k) a r r_in ∙ ap (swapped 1 k) at);
        others = λ j ne. changed_there (linked 1 h) a1 r j ne ∙ changed_there (swapped 1 k) a r j ne;
        long = omega arith;
        long_still = omega arith;
        apart_still = AreApart-swap s.lits 1 k (omega arith) k_in apart;
      } in
      moved a a' heads f g r s.second t (Moves-second a a' heads f g r s s' c t.apart within was
      (ap index_of (lit_at-swap_first s.lits 1 k (omega arith) k_in))
      (ap index_of (lit_at-swap_other s.lits 1 k 0 (omega arith) k_in (omega arith) (omega arith)))
      refl refl
      (λ e. apart 0 1 (omega arith) (omega arith) (omega arith) (e ∙ sym was))
      (λ e. apart 0 k (omega arith) k_in (omega arith) e))

  shifted_some : (place k : ℕ) (s : Stored) → clause_at a r ≡ Some s → place ≤ 1 → 2 ≤ k →
      k < length s.lits → index_at s.lits place ≡ f → index_at s.lits k < length heads
      → Takes a (changed (linked place (get_or heads (index_at s.lits k) None))
      (changed (swapped place k) a r) r) (set heads (index_at s.lits k) (Some r)) f r
      (link_of place (Some s))
  shifted_some zero k s at le far k_in was within = shifted_first s k at far k_in was within
  shifted_some (suc zero) k s at le far k_in was within = shifted_second s k at far k_in was within
  shifted_some (suc (suc n)) k s at le far k_in was within = absurd (omega arith)

  shifted_at : (place k : ℕ) (o : Option Stored) → clause_at a r ≡ o → place ≤ 1 → 2 ≤ k →
      k < length (lits_of o) → index_at (lits_of o) place ≡ f → index_at (lits_of o) k < length heads
      → Takes a (changed (linked place (get_or heads (index_at (lits_of o) k) None))
      (changed (swapped place k) a r) r) (set heads (index_at (lits_of o) k) (Some r)) f r
      (link_of place o)
  shifted_at place k None at le far k_in was within = absurd (omega arith)
  shifted_at place k (Some s) at le far k_in was within = shifted_some place k s at le far k_in was within

  -- the clause watches the literal at place k from now on, and goes into its list
  pub shifted : (place k : ℕ) → place ≤ 1 → 2 ≤ k → k < length (lits_at a r) →
      index_at (lits_at a r) place ≡ f → index_at (lits_at a r) k < length heads
      → Takes a (changed (linked place (get_or heads (index_at (lits_at a r) k) None))
      (changed (swapped place k) a r) r) (set heads (index_at (lits_at a r) k) (Some r)) f r
      (link_at a r place)
  shifted place k le far k_in was within = shifted_at place k (clause_at a r) refl le far k_in was within
