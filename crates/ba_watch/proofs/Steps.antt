-- A clause of the visited list that goes back into it, or into another.

use Rattle.std.proofs.Common.{◌≡◌, ◌≢◌, ℕ, ◌+◌, ◌<◌, ◌≤◌, Bool, true, false, Option, None, Some, List, length, get_or, eqb, cond, leb, ◌&&◌, ◌||◌, refl, sym, ap, subst, ◌∙◌, arith, ⊎_elim}
use Rattle.std.proofs.lemmas.Bool.{cases_eq}
use Rattle.std.proofs.lemmas.Bool.Decides.{nat_tests}
use Rattle.ba_arena.specs.Clauses.{Clauses, Stored, clause_at, lits_at, lits_of}
use Rattle.ba_watch.specs.Threads.{next_in, index_at, watches, watch_count, AreApart}
use Rattle.ba_watch.proofs.Relinks.{Moves}

-- the link and the count, by the indices of the two watched literals
abbrev next_by : ℕ → ℕ → Option ℕ → Option ℕ → ℕ → Option ℕ
next_by i j first second index = cond (eqb i index) first (cond (eqb j index) second None)

abbrev count_by_two : ℕ → ℕ → ℕ → ℕ
count_by_two i j index = cond (eqb i index || eqb j index) 1 0

others_first : (i j i' j' f g : ℕ) (a b c d : Option ℕ) (index : ℕ) → i ≡ f → i' ≡ g → j' ≡ j → d ≡ c →
    index ≢ f → index ≢ g → next_by i' j' b d index ≡ next_by i j a c index
others_first i j i' j' f g a b c d index was is stays link nf ng = grind (arith, nat_tests)

others_second : (i j i' j' f g : ℕ) (a b c d : Option ℕ) (index : ℕ) → j ≡ f → j' ≡ g → i' ≡ i → d ≡ c →
    index ≢ f → index ≢ g → next_by i' j' d b index ≡ next_by i j c a index
others_second i j i' j' f g a b c d index was is stays link nf ng = grind (arith, nat_tests)

here_first : (i j g : ℕ) (a b : Option ℕ) → i ≡ g → next_by i j a b g ≡ a
here_first i j g a b is = grind (arith, nat_tests)

here_second : (i j g : ℕ) (a b : Option ℕ) → j ≡ g → i ≢ g → next_by i j a b g ≡ b
here_second i j g a b is ne = grind (arith, nat_tests)

counts_first : (i j i' j' f g index : ℕ) → i ≡ f → i' ≡ g → j' ≡ j → j ≢ f → j ≢ g →
    count_by_two i' j' index + cond (eqb index f) 1 0 ≡ count_by_two i j index + cond (eqb index g) 1 0
counts_first i j i' j' f g index was is stays nf ng = grind (arith, nat_tests)

counts_second : (i j i' j' f g index : ℕ) → j ≡ f → j' ≡ g → i' ≡ i → i ≢ f → i ≢ g →
    count_by_two i' j' index + cond (eqb index f) 1 0 ≡ count_by_two i j index + cond (eqb index g) 1 0
counts_second i j i' j' f g index was is stays nf ng = grind (arith, nat_tests)

long_test : (n : ℕ) → 2 ≤ n → leb 2 n ≡ true
long_test n h = grind (arith, nat_tests)

long_watches : (b c : Bool) → b ≡ true → (b && c) ≡ c
long_watches true c e = refl
long_watches false c e = absurd (cc e)

-- the watches of a clause with at least two literals
pub watch_count-long : (a : Clauses) (r : ℕ) (s : Stored) (index : ℕ) → clause_at a r ≡ Some s →
    2 ≤ length s.lits → watch_count a index r ≡ count_by_two (index_at s.lits 0) (index_at s.lits 1) index
watch_count-long a r s index at long =
    ap (λ c. cond (watches (lits_of c) index) 1 0) at
    ∙ ap (λ b. cond b 1 0) (long_watches (leb 2 (length s.lits)) _ (long_test (length s.lits) long))

-- the clauses other than one are the same
pub record Relinks (a a' : Clauses) (r : ℕ) (s s' : Stored) : Type 0 where
  pub was : clause_at a r ≡ Some s
  pub is : clause_at a' r ≡ Some s'
  pub others : (k : ℕ) → k ≢ r → clause_at a' k ≡ clause_at a k
  pub long : 2 ≤ length s.lits
  pub long_still : 2 ≤ length s'.lits
  pub apart_still : AreApart s'.lits

AreApart-all : (a a' : Clauses) (r : ℕ) (s s' : Stored) → Relinks a a' r s s' →
    ((k : ℕ) → AreApart (lits_at a k)) → (k : ℕ) → AreApart (lits_at a' k)
AreApart-all a a' r s s' c apart k = ⊎_elim
    (λ e. subst (λ (m : ℕ). AreApart (lits_at a' m)) (sym e)
    (subst (λ (o : Option Stored). AreApart (lits_of o)) (sym c.is) c.apart_still))
    (λ ne. subst (λ (o : Option Stored). AreApart (lits_of o)) (sym (c.others k ne)) (apart k))
    (cases_eq k r)

pub Moves-first : (a a' : Clauses) (heads : List (Option ℕ)) (f g r : ℕ) (s s' : Stored) →
    Relinks a a' r s s' → ((k : ℕ) → AreApart (lits_at a k)) → g < length heads
    → index_at s.lits 0 ≡ f → index_at s'.lits 0 ≡ g → index_at s'.lits 1 ≡ index_at s.lits 1 →
    s'.first ≡ get_or heads g None → s'.second ≡ s.second → index_at s.lits 1 ≢ f → index_at s.lits 1 ≢ g
    → Moves a a' heads f g r s.first
Moves-first a a' heads f g r s s' c apart within was is stays link link_stays nf ng = record {
  elsewhere = λ index k ne. ap (next_in index) (c.others k ne);
  others = λ index i_f i_g. ap (next_in index) c.is
      ∙ (others_first (index_at s.lits 0) (index_at s.lits 1) (index_at s'.lits 0) (index_at s'.lits 1) f g
      s.first s'.first s.second s'.second index was is stays link_stays i_f i_g
      ∙ sym (ap (next_in index) c.was));
  here = ap (next_in g) c.is ∙ (here_first (index_at s'.lits 0) (index_at s'.lits 1) g s'.first s'.second is
      ∙ link);
  counts_elsewhere = λ index k ne. ap (λ o. cond (watches (lits_of o) index) 1 0) (c.others k ne);
  counts_here = λ index. rw (
    watch_count-long a' r s' index c.is c.long_still,
    watch_count-long a r s index
        c.was c.long,
  ) (counts_first (index_at s.lits 0) (index_at s.lits 1) (index_at s'.lits 0)
      (index_at s'.lits 1) f g index was is stays nf ng);
  apart = AreApart-all a a' r s s' c apart;
  within = within;
  next = sym (ap (next_in f) c.was ∙ here_first (index_at s.lits 0) (index_at s.lits 1) f s.first s.second
      was);
}

pub Moves-second : (a a' : Clauses) (heads : List (Option ℕ)) (f g r : ℕ) (s s' : Stored) →
    Relinks a a' r s s' → ((k : ℕ) → AreApart (lits_at a k)) → g < length heads
    → index_at s.lits 1 ≡ f → index_at s'.lits 1 ≡ g → index_at s'.lits 0 ≡ index_at s.lits 0 →
    s'.second ≡ get_or heads g None → s'.first ≡ s.first → index_at s.lits 0 ≢ f → index_at s.lits 0 ≢ g
    → Moves a a' heads f g r s.second
Moves-second a a' heads f g r s s' c apart within was is stays link link_stays nf ng = record {
  elsewhere = λ index k ne. ap (next_in index) (c.others k ne);
  others = λ index i_f i_g. ap (next_in index) c.is
      ∙ (others_second (index_at s.lits 0) (index_at s.lits 1) (index_at s'.lits 0) (index_at s'.lits 1) f g
      s.second s'.second s.first s'.first index was is stays link_stays i_f i_g
      ∙ sym (ap (next_in index) c.was));
  here = ap (next_in g) c.is ∙ (here_second (index_at s'.lits 0) (index_at s'.lits 1) g s'.first s'.second
      is (λ e. ng (sym stays ∙ e)) ∙ link);
  counts_elsewhere = λ index k ne. ap (λ o. cond (watches (lits_of o) index) 1 0) (c.others k ne);
  counts_here = λ index. rw (
    watch_count-long a' r s' index c.is c.long_still,
    watch_count-long a r s index
        c.was c.long,
  ) (counts_second (index_at s.lits 0) (index_at s.lits 1) (index_at s'.lits 0)
      (index_at s'.lits 1) f g index was is stays nf ng);
  apart = AreApart-all a a' r s s' c apart;
  within = within;
  next = sym (ap (next_in f) c.was ∙ here_second (index_at s.lits 0) (index_at s.lits 1) f s.first s.second
      was nf);
}
