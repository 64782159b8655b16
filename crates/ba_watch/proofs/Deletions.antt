-- Clauses are marked dead by their numbers, and the lists are threaded anew.

use Rattle.std.proofs.Common.{◌≡◌, ◌≢◌, ℕ, suc, zero, ◌+◌, ◌<◌, ◌≤◌, Option, None, Some, IsSome, is_some, List, [], ◌∷◌, length, get_or, set, take, eqb, cond, refl, sym, ap, subst, ◌∙◌, arith, ⊎_elim, inl, inr, get_or-set_other}
use Rattle.std.proofs.lemmas.Bool.{cases_eq, cases_lt}
use Rattle.std.proofs.lemmas.List.{get_or_past, get_or_read, get_or-take, length-take, length-set}
use Rattle.std.proofs.lemmas.Option.{none-some, same_Some}
use Rattle.ba_arena.specs.Clauses.{Clauses, Stored, IsLive, clause_at, lits_at, lits_of, changed, linked}
use Rattle.ba_arena.specs.Compaction.{IsFirstFrom}
use Rattle.ba_arena.proofs.Planning.{live_within}
use Rattle.ba_arena.proofs.Reading.{stored_some}
use Rattle.ba_watch.specs.Chains.{occurrences}
use Rattle.ba_watch.specs.Threads.{next_in, next_of, list_of, index_at, watches, AreApart, AreThreaded, plain, plain_at, SamePlain}
use Rattle.ba_watch.specs.Propagation.{plain_lits}
use Rattle.ba_watch.specs.Deletion.{number_of, numbered, AreReferenced, AreAlone, IsNamed, IsWithout}
use Rattle.ba_watch.proofs.Walks.{Leads-walk, Leads-same}
use Rattle.ba_watch.proofs.Relinks.{Rebuilt, rebuilt, no_more}
use Rattle.ba_watch.proofs.Additions.{IsNew, added, added_short, plain_counts}
use Rattle.ba_watch.proofs.Keeps.{changed_here, changed_there}
use Rattle.ba_watch.proofs.Visits.{lits-plain}

-- a value is set to none
set_none : {X : Type 0} (xs : List (Option X)) (i : ℕ) → get_or (set xs i None) i None ≡ None
set_none [] i = refl
set_none (x ∷ xs) zero = refl
set_none (x ∷ xs) (suc i) = set_none xs i

-- no clause has the number
pub unnamed : (a : Clauses) (refs : List (Option ℕ)) (number : ℕ) → AreReferenced a refs →
    get_or refs number None ≡ None
    → IsWithout (λ n. n ≡ number) a a
unnamed a refs number r none = record {
  either = λ k. inr refl;
  gone = λ k m is e. absurd (dead (get_or refs m None) (ap (λ n. get_or refs n None) e
      ∙ none) (r.each m k is));
  stays = λ k m is other. refl;
}
  where
    dead : (o : Option ℕ) → o ≡ None → IsSome o → ⊥
    dead None e some = cc some
    dead (Some x) e some = cc e

-- the clause of the number is marked
module _ (a a' : Clauses) (refs : List (Option ℕ)) (number q : ℕ) (r : AreReferenced a refs)
    (alone : AreAlone a)
    (is : get_or refs number None ≡ Some q) (a'_is : a' ≡ set a q None) where
  here : clause_at a' q ≡ None
  here = ap (λ (c : Clauses). clause_at c q) a'_is ∙ set_none a q

  there : (k : ℕ) → k ≢ q → clause_at a' k ≡ clause_at a k
  there k ne = ap (λ (c : Clauses). clause_at c k) a'_is ∙ get_or-set_other a q k None None ne

  only : (k m : ℕ) → numbered a k ≡ Some m → m ≢ number → k ≢ q
  only k m k_is other e =
      other (same_Some m number (sym k_is ∙ (ap (numbered a) e ∙ r.sound number q is)))

  pub marked : IsWithout (λ n. n ≡ number) a a'
  marked = record {
    either = λ k. ⊎_elim
        (λ e. inl (ap (clause_at a') e ∙ here))
        (λ ne. inr (there k ne))
        (cases_eq k q);
    gone = λ k m k_is e.
        ap (clause_at a') (alone k q number (k_is ∙ ap (λ (n : ℕ). Some n) e) (r.sound number q is)) ∙ here;
    stays = λ k m k_is other. there k (only k m k_is other);
  }

  pub marked_references : AreReferenced a' (set refs number None)
  marked_references = record {
    sound = λ n k at. ⊎_elim
        (λ e. absurd (none-some k (sym (ap (λ (m : ℕ). get_or (set refs number None) m None) e
        ∙ set_none refs number) ∙ at)))
        (λ ne.
        let was : numbered a k ≡ Some n = r.sound n k (sym (get_or-set_other refs number n None None ne)
        ∙ at) in
        ap number_of (there k (only k n was ne)) ∙ was)
        (cases_eq n number);
    each = λ n k at.
        let ne : k ≢ q = λ e. none-some n (sym (ap (numbered a') e ∙ ap number_of here) ∙ at) in
        let was : numbered a k ≡ Some n = sym (ap number_of (there k ne)) ∙ at in
        let other : n ≢ number = λ e. ne (alone k q number (was
        ∙ ap (λ (m : ℕ). Some m) e) (r.sound number q is)) in
        ap is_some (get_or-set_other refs number n None None other) ∙ r.each n k was;
  }

-- one number after the other
pub without_none : (a : Clauses) (numbers : List ℕ) → IsWithout (IsNamed numbers 0) a a
without_none a numbers = record {
  either = λ k. inr refl;
  gone = λ k m is named. absurd (omega (arith, named.1));
  stays = λ k m is other. refl;
}

was_numbered : (P : ℕ → Type 0) (a b : Clauses) → IsWithout P a b → (k n : ℕ) → numbered b k ≡ Some n →
    numbered a k ≡ Some n
was_numbered P a b w k n is = ⊎_elim
    (λ none. absurd (none-some n (sym (ap number_of none) ∙ is)))
    (λ same. sym (ap number_of same) ∙ is)
    (w.either k)

pub alone_without : (P : ℕ → Type 0) (a b : Clauses) → IsWithout P a b → AreAlone a → AreAlone b
alone_without P a b w alone x y n x_is y_is =
    alone x y n (was_numbered P a b w x n x_is) (was_numbered P a b w y n y_is)

pub without_more : (a b d : Clauses) (numbers : List ℕ) (i x : ℕ) → IsWithout (IsNamed numbers i) a b
    → IsWithout (λ n. n ≡ x) b d → x ≡ get_or numbers i 0 → IsWithout (IsNamed numbers (i + 1)) a d
without_more a b d numbers i x first second x_is = record {
  either = λ k. ⊎_elim
      (λ none. inl none)
      (λ same. ⊎_elim (λ none. inl (same ∙ none)) (λ too. inr (same ∙ too)) (first.either k))
      (second.either k);
  gone = λ k m is named. ⊎_elim
      (λ below. still k (first.gone k m is (named.0, below, named.2)))
      (λ last. ⊎_elim
      (λ none. still k none)
      (λ same. second.gone k m (ap number_of same ∙ is)
      (sym named.2 ∙ (ap (λ j. get_or numbers j 0) (equal named.0 last named.1) ∙ sym x_is)))
      (first.either k))
      (cases_lt named.0 i);
  stays = λ k m is other.
      let before : clause_at b k ≡ clause_at a k =
      first.stays k m is (λ named. other (named.0, omega (arith, named.1), named.2)) in
      second.stays k m (ap number_of before ∙ is) (λ e. other (i, omega arith, sym x_is ∙ sym e)) ∙ before;
}
  where
    equal : (k : ℕ) → i ≤ k → k < i + 1 → k ≡ i
    equal k above below = omega (arith, above, below)

    still : (k : ℕ) → clause_at b k ≡ None → clause_at d k ≡ None
    still k none = ⊎_elim (λ e. e) (λ same. same ∙ none) (second.either k)

-- the clauses up to a place
pub at_below : (m k : ℕ) (a : Clauses) → k < m → clause_at (take m a) k ≡ clause_at a k
at_below m k a h = get_or-take m a k None h

pub at_past : (m k : ℕ) (a : Clauses) → m ≤ k → clause_at (take m a) k ≡ None
at_past m k a h = get_or_past (take m a) k None (omega (arith, length-take m a, h))

-- the same clauses have the same lists
pub threaded_same : (a a' : Clauses) (heads : List (Option ℕ)) (v : ℕ) →
    ((k : ℕ) → clause_at a' k ≡ clause_at a k)
    → AreThreaded a heads v None → AreThreaded a' heads v None
threaded_same a a' heads v same t =
    let L : ℕ → List ℕ = list_of a heads in
    let all : Rebuilt a' heads v None L [] = rebuilt a' heads v None L []
    (λ index. Leads-same (next_of a index) (next_of a' index) _ (L index) (λ k. ap (next_in index) (same k))
    (Leads-walk (length a) _ _ (t.ends index)))
    refl
    (λ index k. no_more (eqb index v) (occurrences k (L index)) 0 refl ∙ (plain_counts a heads v t index k
    ∙ ap (λ (o : Option Stored). cond (watches (lits_of o) index) 1 0) (sym (same k))))
    (λ k. subst (λ (o : Option Stored). AreApart (lits_of o)) (sym (same k)) (t.apart k)) in
    all.threaded

pub lits_same : (a b : Clauses) → SamePlain a b → (k : ℕ) → lits_at b k ≡ lits_at a k
lits_same a b same k = lits-plain b k ∙ (ap plain_lits (same k) ∙ sym (lits-plain a k))

-- if there is no clause, all lists are empty
pub threaded_none : (a : Clauses) (heads : List (Option ℕ)) (v : ℕ) → ((k : ℕ) → clause_at a k ≡ None)
    → ((k : ℕ) → get_or heads k None ≡ None) → AreThreaded a heads v None
threaded_none a heads v none empty =
    let all : Rebuilt a heads v None (λ _. []) [] = rebuilt a heads v None (λ _. []) [] empty refl
    (λ index k. no_more (eqb index v) 0 0 refl ∙ ap
    (λ (o : Option Stored). cond (watches (lits_of o) index) 1 0) (sym (none k)))
    (λ k. subst (λ (o : Option Stored). AreApart (lits_of o)) (sym (none k))
    (λ i j i_in. absurd (omega (arith, i_in)))) in
    all.threaded

-- one clause more, up to its place
new_upto : (a b : Clauses) (r : ℕ) (s : Stored) → clause_at b r ≡ Some s →
    ((k : ℕ) → k ≢ r → clause_at b k ≡ clause_at a k)
    → AreApart s.lits → IsNew (take r a) (take (r + 1) b) r s
new_upto a b r s is others apart = record {
  fresh = at_past r r a (omega arith);
  is = at_below (r + 1) r b (omega arith) ∙ is;
  others = λ k ne. ⊎_elim
      (λ below. at_below (r + 1) k b (omega (arith, below)) ∙ (others k ne ∙ sym (at_below r k a below)))
      (λ above. at_past (r + 1) k b (more k ne above) ∙ sym (at_past r k a above))
      (cases_lt k r);
  apart = apart;
}
  where
    more : (k : ℕ) → k ≢ r → r ≤ k → r + 1 ≤ k
    more k ne le = ⊎_elim (λ h. omega (arith, h)) (λ ge. absurd (ne (omega (arith, ge, le)))) (cases_lt r k)

pub linked_short : (a : Clauses) (heads : List (Option ℕ)) (r v : ℕ) → IsLive a r → AreApart (lits_at a r)
    → length (lits_at a r) < 2 → AreThreaded (take r a) heads v None →
    AreThreaded (take (r + 1) a) heads v None
linked_short a heads r v live apart short t =
    let some = stored_some (clause_at a r) live in
    let lits : lits_at a r ≡ some.0.lits = ap lits_of some.1 in
    added_short (take r a) (take (r + 1) a) heads v r some.0 t
    (new_upto a a r some.0 some.1 (λ k ne. refl) (subst (λ ls. AreApart ls) lits apart))
    (subst (λ ls. length ls < 2) lits short)

module _ (a a3 a4 : Clauses) (r : ℕ) (first second : Option ℕ) (live : IsLive a r)
    (a3_is : a3 ≡ changed (linked 0 first) a r) (a4_is : a4 ≡ changed (linked 1 second) a3 r) where
  link_here : clause_at a4 r ≡ linked 1 second (linked 0 first (clause_at a r))
  link_here =
      let in0 : r < length a = live_within a r live in
      let in3 : r < length a3 = rw a3_is (rw length-set in0) in
      ap (λ (c : Clauses). clause_at c r) a4_is ∙ (changed_here (linked 1 second) a3 r in3
      ∙ ap (linked 1 second)
      (ap (λ (c : Clauses). clause_at c r) a3_is ∙ changed_here (linked 0 first) a r in0))

  link_there : (k : ℕ) → k ≢ r → clause_at a4 k ≡ clause_at a k
  link_there k ne =
      ap (λ (c : Clauses). clause_at c k) a4_is ∙ (changed_there (linked 1 second) a3 r k ne
      ∙ (ap (λ (c : Clauses). clause_at c k) a3_is ∙ changed_there (linked 0 first) a r k ne))

  plain_links : (o : Option Stored) → plain (linked 1 second (linked 0 first o)) ≡ plain o
  plain_links None = refl
  plain_links (Some s) = refl

  pub linked_plain : SamePlain a a4
  linked_plain k = ⊎_elim
      (λ e. subst (λ (n : ℕ). plain_at a4 n ≡ plain_at a n) (sym e) (ap plain link_here
      ∙ plain_links (clause_at a r)))
      (λ ne. ap plain (link_there k ne))
      (cases_eq k r)

  live_links : (o : Option Stored) → IsSome o → IsSome (linked 1 second (linked 0 first o))
  live_links None live = absurd (cc live)
  live_links (Some s) live = refl

  pub linked_live : IsLive a4 r
  linked_live = subst (λ (o : Option Stored). IsSome o) (sym link_here) (live_links (clause_at a r) live)

  pub linked_long : (heads : List (Option ℕ)) (v g h : ℕ) → AreApart (lits_at a r) → 2 ≤ length (lits_at a r)
      → g ≡ index_at (lits_at a r) 0 → h ≡ index_at (lits_at a r) 1 → g < length heads → h < length heads
      → first ≡ get_or heads g first → second ≡ get_or heads h second → AreThreaded (take r a) heads v None
      → AreThreaded (take (r + 1) a4) (set (set heads g (Some r)) h (Some r)) v None
  linked_long heads v g h apart long g_is h_is g_in h_in first_is second_is t =
      let some = stored_some (clause_at a r) live in
      let s = some.0 in
      let lits : lits_at a r ≡ s.lits = ap lits_of some.1 in
      let s' : Stored = record { lits = s.lits; number = s.number; first = first; second = second } in
      let at0 : g ≡ index_at s.lits 0 = g_is ∙ ap (λ ls. index_at ls 0) lits in
      let at1 : h ≡ index_at s.lits 1 = h_is ∙ ap (λ ls. index_at ls 1) lits in
      let new : IsNew (take r a) (take (r + 1) a4) r s' =
      new_upto a a4 r s' (link_here ∙ ap (λ (o : Option Stored). linked 1 second (linked 0 first o)) some.1)
      link_there
      (subst (λ ls. AreApart ls) lits apart) in
      let out = added (take r a) (take (r + 1) a4) heads v r s' t new (subst (λ ls. 2 ≤ length ls) lits long)
      (omega (arith, at0, g_in)) (omega (arith, at1, h_in))
      (get_or_read heads g first g_in first_is None ∙ ap (λ (n : ℕ). get_or heads n None) at0)
      (get_or_read heads h second h_in second_is None ∙ ap (λ (n : ℕ). get_or heads n None) at1) in
      subst (λ (n : ℕ). AreThreaded (take (r + 1) a4) (set (set heads n (Some r)) h (Some r)) v None)
      (sym at0)
      (subst (λ (n : ℕ). AreThreaded (take (r + 1) a4)
      (set (set heads (index_at s.lits 0) (Some r)) n (Some r)) v None) (sym at1) out)

-- the clauses before one are threaded
abbrev pub upto : Clauses → Option ℕ → Clauses
upto a None = a
upto a (Some c) = take c a

pub record IsRelinking (start now : Clauses) (count : ℕ) (heads : List (Option ℕ)) (next : Option ℕ) : Type
    0 where
  pub plain_is : SamePlain start now
  pub len : length heads ≡ count
  pub live : (c : ℕ) → next ≡ Some c → IsLive now c
  pub threaded : (v : ℕ) → AreThreaded (upto now next) heads v None

pub relinking_init : (a : Clauses) (count : ℕ) (heads : List (Option ℕ)) (next : Option ℕ) →
    length heads ≡ count
    → ((k : ℕ) → get_or heads k None ≡ None) → IsFirstFrom a 0 next → IsRelinking a a count heads next
relinking_init a count heads None len empty first = record {
  plain_is = λ k. refl;
  len = len;
  live = λ c e. absurd (cc e);
  threaded = λ v. threaded_none a heads v (λ k. first k (omega arith)) empty;
}
relinking_init a count heads (Some n) len empty first = record {
  plain_is = λ k. refl;
  len = len;
  live = λ c e. subst (λ m. IsLive a m) (same_Some n c e) first.1;
  threaded = λ v. threaded_none (take n a) heads v
      (λ k. ⊎_elim (λ below. at_below n k a below ∙ first.2 k (omega arith) below)
      (λ above. at_past n k a above) (cases_lt k n)) empty;
}

pub relinking_step : (start now new : Clauses) (count c : ℕ) (heads heads' : List (Option ℕ))
    (next : Option ℕ)
    → IsRelinking start now count heads (Some c) → SamePlain now new → length heads' ≡ length heads
    → ((v : ℕ) → AreThreaded (take c now) heads v None → AreThreaded (take (c + 1) new) heads' v None)
    → IsFirstFrom new (c + 1) next → IsRelinking start new count heads' next
relinking_step start now new count c heads heads' None was same len step first = record {
  plain_is = λ k. same k ∙ was.plain_is k;
  len = len ∙ was.len;
  live = λ d e. absurd (cc e);
  threaded = λ v. threaded_same (take (c + 1) new) new heads' v
      (λ k. ⊎_elim
      (λ below. sym (at_below (c + 1) k new below))
      (λ above. first k above ∙ sym (at_past (c + 1) k new above))
      (cases_lt k (c + 1)))
      (step v (was.threaded v));
}
relinking_step start now new count c heads heads' (Some n) was same len step first = record {
  plain_is = λ k. same k ∙ was.plain_is k;
  len = len ∙ was.len;
  live = λ d e. subst (λ m. IsLive new m) (same_Some n d e) first.1;
  threaded = λ v. threaded_same (take (c + 1) new) (take n new) heads' v
      (λ k. ⊎_elim
      (λ below. at_below n k new (omega (arith, below, first.0)) ∙ sym (at_below (c + 1) k new below))
      (λ above. ⊎_elim
      (λ before. at_below n k new before ∙ (first.2 k above before ∙ sym (at_past (c + 1) k new above)))
      (λ past. at_past n k new past ∙ sym (at_past (c + 1) k new above))
      (cases_lt k n))
      (cases_lt k (c + 1)))
      (step v (was.threaded v));
}
