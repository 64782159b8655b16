-- The clauses of a list that no number of a deletion names.

use Rattle.std.proofs.Common.{◌≡◌, ◌≢◌, ℕ, suc, zero, ◌+◌, ◌<◌, ◌≤◌, Bool, true, false, not, ◌||◌, cond, eqb, Option, Some, List, [], ◌∷◌, ◌++◌, length, get_or, set, take, filter, refl, sym, ap, ◌∙◌, arith, ⊎_elim, get_or-set_other}
use Rattle.std.specs.List.{Contains}
use Rattle.std.proofs.lemmas.Bool.{cases_eq}
use Rattle.std.proofs.lemmas.Bool.Decides.{nat_tests}
use Rattle.std.proofs.lemmas.List.{append-nil, length-set, take-set, take_more_set}
use Rattle.std.proofs.lemmas.List.Elements.{filter_more}
use Rattle.ba_arena.specs.Clauses.{Clauses, Stored, IsLive, clause_at, number_at, number_of}
use Rattle.ba_arena.proofs.Reading.{stored_some}
use Rattle.ba_watch.specs.Chains.{occurrences}
use Rattle.ba_watch.specs.Deletion.{IsKept, is_named, unnamed_of}
use Rattle.ba_watch.proofs.Walks.{at_occurs}

-- the test for a number of a list, and what it says
named_true : (numbers : List ℕ) (n k : ℕ) → k < length numbers → get_or numbers k n ≡ n →
    is_named numbers n ≡ true
named_true [] n k h e = absurd (omega (arith, h))
named_true (m ∷ ms) n zero h e = hit m n (is_named ms n) e
  where
    hit : (m n : ℕ) (b : Bool) → m ≡ n → eqb m n || b ≡ true
    hit m n b e = grind (arith, nat_tests)
named_true (m ∷ ms) n (suc k) h e = later (eqb m n) (is_named ms n) (named_true ms n k (omega (arith, h)) e)
  where
    later : (a b : Bool) → b ≡ true → a || b ≡ true
    later true b e = refl
    later false b e = e

true_named : (numbers : List ℕ) (n : ℕ) → is_named numbers n ≡ true → Contains numbers n
true_named [] n e = absurd (cc e)
true_named (m ∷ ms) n e = ⊎_elim
    (λ same. (0, omega arith, same))
    (λ other.
    let rest = true_named ms n (later m n (is_named ms n) other e) in
    (suc rest.0, omega (arith, rest.1), rest.2))
    (cases_eq m n)
  where
    later : (m n : ℕ) (b : Bool) → m ≢ n → eqb m n || b ≡ true → b ≡ true
    later m n b ne e = grind (arith, nat_tests)

-- what a filter keeps
filter_at : (test : ℕ → Bool) (P : ℕ → Type 0) (xs : List ℕ) →
    ((k : ℕ) → k < length xs → test (get_or xs k 0) ≡ true → P (get_or xs k 0)) →
    (k : ℕ) → k < length (filter test xs) → P (get_or (filter test xs) k 0)
filter_at test P [] each k h = absurd (omega (arith, h))
filter_at test P (x ∷ xs) each k h = at (test x) refl
    (filter_at test P xs (λ i i_in e. each (suc i) (omega (arith, i_in)) e)) k h
  where
    at : (b : Bool) → test x ≡ b →
        ((j : ℕ) → j < length (filter test xs) → P (get_or (filter test xs) j 0)) →
        (j : ℕ) → j < length (cond b (x ∷ filter test xs) (filter test xs)) →
        P (get_or (cond b (x ∷ filter test xs) (filter test xs)) j 0)
    at true e rest zero within = each 0 (omega arith) e
    at true e rest (suc j) within = rest j (omega (arith, within))
    at false e rest j within = rest j within

filter_fewer : (test : ℕ → Bool) (xs : List ℕ) (r : ℕ) → occurrences r (filter test xs) ≤ occurrences r xs
filter_fewer test [] r = omega arith
filter_fewer test (x ∷ xs) r = at (test x) (filter_fewer test xs r)
  where
    at : (b : Bool) → occurrences r (filter test xs) ≤ occurrences r xs →
        occurrences r (cond b (x ∷ filter test xs) (filter test xs)) ≤ occurrences r (x ∷ xs)
    at true fewer = omega (arith, fewer)
    at false fewer = omega (arith, fewer)

filter_same : (test : ℕ → Bool) (xs : List ℕ) (r : ℕ) → test r ≡ true →
    occurrences r (filter test xs) ≡ occurrences r xs
filter_same test [] r e = refl
filter_same test (x ∷ xs) r e = at (test x) refl (filter_same test xs r e)
  where
    other : (x r : ℕ) → x ≢ r → cond {A = ℕ} (eqb x r) 1 0 ≡ 0
    other x r ne = grind (arith, nat_tests)

    clash : false ≡ true → ⊥
    clash e = cc e

    at : (b : Bool) → test x ≡ b → occurrences r (filter test xs) ≡ occurrences r xs →
        occurrences r (cond b (x ∷ filter test xs) (filter test xs)) ≡ occurrences r (x ∷ xs)
    at true is same = omega (arith, same)
    at false is same = omega (arith, same, other x r (λ x_is. clash (sym is ∙ (ap test x_is ∙ e))))

-- the clause of a reference isn't named
abbrev is_unnamed : Clauses → List ℕ → ℕ → Bool
is_unnamed a numbers r = not (is_named numbers (number_at a r))

module _ (a : Clauses) (numbers : List ℕ) where
  named_is : (r : ℕ) (s : Stored) → clause_at a r ≡ Some s →
      is_named numbers (number_at a r) ≡ is_named numbers s.number
  named_is r s is = ap (λ (o : Option Stored). is_named numbers (number_of o)) is

  kept_from : (r : ℕ) → IsLive a r → is_unnamed a numbers r ≡ true → IsKept a numbers r
  kept_from r live e =
      let s = stored_some (clause_at a r) live in (
        s.0,
        s.1,
        λ has. clash (is_named numbers (number_at a r)) e
            (named_is r s.0 s.1 ∙ named_true numbers s.0.number has.0 has.1 has.2),
      )
    where
      clash : (b : Bool) → not b ≡ true → b ≡ true → ⊥
      clash true e t = cc e
      clash false e t = cc t

  unnamed_from : (r : ℕ) → IsKept a numbers r → is_unnamed a numbers r ≡ true
  unnamed_from r kept = at (is_named numbers (number_at a r)) refl
    where
      at : (b : Bool) → is_named numbers (number_at a r) ≡ b → not b ≡ true
      at true e = absurd (kept.2 (true_named numbers kept.0.number (sym (named_is r kept.0 kept.1) ∙ e)))
      at false e = refl

  -- those that stay on a list of live clauses
  pub unnamed_kept : (w : List ℕ) → ((k : ℕ) → k < length w → IsLive a (get_or w k 0)) →
      (k : ℕ) → k < length (unnamed_of a numbers w) → IsKept a numbers (get_or (unnamed_of a numbers w) k 0)
  unnamed_kept w live = filter_at (is_unnamed a numbers) (IsKept a numbers) w
      (λ k within e. kept_from (get_or w k 0) (live k within) e)

  pub unnamed_stands : (w : List ℕ) (k : ℕ) → k < length (unnamed_of a numbers w) →
      0 < occurrences (get_or (unnamed_of a numbers w) k 0) w
  unnamed_stands w k within =
      let r = get_or (unnamed_of a numbers w) k 0 in
      omega (
        arith,
        at_occurs (unnamed_of a numbers w) k within,
        filter_fewer (is_unnamed a numbers) w r,
      )

  pub unnamed_occurs : (w : List ℕ) (r : ℕ) → IsKept a numbers r →
      occurrences r (unnamed_of a numbers w) ≡ occurrences r w
  unnamed_occurs w r kept = filter_same (is_unnamed a numbers) w r (unnamed_from r kept)

-- so many clauses of a list were looked at, and those that stay are at its front
pub record IsKeeping (a : Clauses) (numbers start now : List ℕ) (place count : ℕ) : Type 0 where
  pub front : take count now ≡ unnamed_of a numbers (take place start)
  pub len : length now ≡ length start
  pub before : count ≤ place
  pub rest : (k : ℕ) → place ≤ k → get_or now k 0 ≡ get_or start k 0

-- one more is looked at
module _ (a : Clauses) (numbers start now new : List ℕ) (place count clause : ℕ)
    (was : IsKeeping a numbers start now place count) (within : place < length start)
    (is : clause ≡ get_or now place 0) (new_is : new ≡ set now count clause) where
  start_is : get_or start place 0 ≡ clause
  start_is = sym (was.rest place (omega arith)) ∙ sym is

  more : (b : Bool) → is_unnamed a numbers clause ≡ b → unnamed_of a numbers (take (place + 1) start)
      ≡ take count now ++ cond b (clause ∷ []) []
  more b e = filter_more (is_unnamed a numbers) start place 0 within
      ∙ (ap (λ r. filter (is_unnamed a numbers) (take place start)
      ++ cond (is_unnamed a numbers r) (r ∷ []) []) start_is
      ∙ (ap (λ t. filter (is_unnamed a numbers) (take place start) ++ cond t (clause ∷ []) []) e
      ∙ ap (λ xs. xs ++ cond b (clause ∷ []) []) (sym was.front)))

  new_rest : (k : ℕ) → place + 1 ≤ k → get_or new k 0 ≡ get_or start k 0
  new_rest k past = ap (λ xs. get_or xs k 0) new_is
      ∙ (get_or-set_other now count k clause 0 (apart k past was.before) ∙ was.rest k (omega (arith, past)))
    where
      apart : (k : ℕ) → place + 1 ≤ k → count ≤ place → k ≢ count
      apart k past before e = absurd (omega (arith, past, before, e))

  new_len : length new ≡ length start
  new_len = ap length new_is ∙ (length-set now count clause ∙ was.len)

  pub one_named : (next : ℕ) → next ≡ count → is_named numbers (number_at a clause) ≡ true →
      IsKeeping a numbers start new (place + 1) next
  one_named next next_is named = record {
    front = ap (λ n. take n new) next_is ∙ (ap (take count) new_is ∙ (take-set now count clause
        ∙ (sym (append-nil (take count now)) ∙ sym (more false (ap not named)))));
    len = new_len;
    before = omega (arith, next_is, was.before);
    rest = new_rest;
  }

  pub one_kept : (next : ℕ) → next ≡ count + 1 → is_named numbers (number_at a clause) ≡ false →
      IsKeeping a numbers start new (place + 1) next
  one_kept next next_is other = record {
    front = ap (λ n. take n new) next_is ∙ (ap (take (count + 1)) new_is
        ∙ (take_more_set now count clause (omega (arith, was.before, within, was.len))
        ∙ sym (more true (ap not other))));
    len = new_len;
    before = omega (arith, next_is, was.before);
    rest = new_rest;
  }
