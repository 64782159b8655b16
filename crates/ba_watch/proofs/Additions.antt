-- A clause that is added to the arena and to the lists of its watched literals.

use Rattle.std.proofs.Common.{◌≡◌, ◌≢◌, ℕ, ◌+◌, ◌<◌, ◌≤◌, Bool, true, false, Option, None, Some, List, [], ◌∷◌, length, get_or, set, eqb, leb, cond, ◌||◌, ◌&&◌, refl, sym, ap, subst, ◌∙◌, arith, ⊎_elim, get_or-set_same, get_or-set_other}
use Rattle.std.proofs.lemmas.Bool.{cases_eq}
use Rattle.std.proofs.lemmas.Bool.Decides.{nat_tests}
use Rattle.std.proofs.lemmas.List.{length-set}
use Rattle.ba_arena.specs.Clauses.{Clauses, Stored, clause_at, lits_at, lits_of}
use Rattle.ba_watch.specs.Chains.{walk, occurrences}
use Rattle.ba_watch.specs.Threads.{next_in, next_of, list_of, index_at, watches, watch_count, AreApart, AreThreaded}
use Rattle.ba_watch.proofs.Walks.{Leads, Leads-walk, walk-Leads, Leads-elsewhere}
use Rattle.ba_watch.proofs.Relinks.{Rebuilt, rebuilt, occurrences-put, none_there_in, no_more}
use Rattle.ba_watch.proofs.Steps.{watch_count-long}

pub plain_counts : (a : Clauses) (heads : List (Option ℕ)) (old : ℕ) → AreThreaded a heads old None →
    (index k : ℕ) → occurrences k (list_of a heads index) ≡ watch_count a index k
plain_counts a heads old t index k =
    let nothing : walk (length a) (next_of a old) None ≡ [] =
    walk-Leads (length a) _ None [] refl (omega arith) in
    sym (no_more (eqb index old) (occurrences k (list_of a heads index)) _ (ap (occurrences k) nothing))
    ∙ t.counts index k

-- a clause r is new: nothing was there, and the others stay
pub record IsNew (a a' : Clauses) (r : ℕ) (s : Stored) : Type 0 where
  pub fresh : clause_at a r ≡ None
  pub is : clause_at a' r ≡ Some s
  pub others : (k : ℕ) → k ≢ r → clause_at a' k ≡ clause_at a k
  pub apart : AreApart s.lits

unwatched : (a : Clauses) (r index : ℕ) → clause_at a r ≡ None → watch_count a index r ≡ 0
unwatched a r index fresh = ap (λ o. cond (watches (lits_of o) index) 1 0) fresh

apart_all : (a a' : Clauses) (r : ℕ) (s : Stored) → IsNew a a' r s → ((k : ℕ) → AreApart (lits_at a k)) →
    (k : ℕ) → AreApart (lits_at a' k)
apart_all a a' r s c apart k = ⊎_elim
    (λ e. subst (λ (m : ℕ). AreApart (lits_at a' m)) (sym e)
    (subst (λ (o : Option Stored). AreApart (lits_of o)) (sym c.is) c.apart))
    (λ ne. subst (λ (o : Option Stored). AreApart (lits_of o)) (sym (c.others k ne)) (apart k))
    (cases_eq k r)

elsewhere : (a a' : Clauses) (r : ℕ) (s : Stored) → IsNew a a' r s → (index k : ℕ) → k ≢ r →
    next_of a' index k ≡ next_of a index k
elsewhere a a' r s c index k ne = ap (next_in index) (c.others k ne)

-- a clause that watches nothing
pub added_short : (a a' : Clauses) (heads : List (Option ℕ)) (old r : ℕ) (s : Stored) →
    AreThreaded a heads old None → IsNew a a' r s → length s.lits < 2 → AreThreaded a' heads old None
added_short a a' heads old r s t c short =
    let L : ℕ → List ℕ = list_of a heads in
    let plain : (index k : ℕ) → occurrences k (L index) ≡ watch_count a index k =
    plain_counts a heads old t in
    let none' : (index : ℕ) → watch_count a' index r ≡ 0 =
    λ index. ap (λ o. cond (watches (lits_of o) index) 1 0) c.is ∙ short_count (length s.lits) _ short in
    let counts : (index k : ℕ) → occurrences k (L index) + cond (eqb index old) (occurrences k []) 0
    ≡ watch_count a' index k =
    λ index k. no_more (eqb index old) (occurrences k (L index)) 0 refl ∙ (plain index k ∙ ⊎_elim
    (λ e. subst (λ (j : ℕ). watch_count a index j ≡ watch_count a' index j) (sym e)
    (unwatched a r index c.fresh ∙ sym (none' index)))
    (λ ne. ap (λ o. cond (watches (lits_of o) index) 1 0) (sym (c.others k ne)))
    (cases_eq k r)) in
    let all : Rebuilt a' heads old None L [] = rebuilt a' heads old None L []
    (λ index. Leads-elsewhere (next_of a index) (next_of a' index) r _ (L index)
    (elsewhere a a' r s c index) (plain index r ∙ unwatched a r index c.fresh)
    (Leads-walk (length a) _ _ (t.ends index)))
    refl counts (apart_all a a' r s c t.apart) in
    all.threaded
  where
    short_count : (n : ℕ) (b : Bool) → n < 2 → cond {A = ℕ} (leb 2 n && b) 1 0 ≡ 0
    short_count n b h = grind (arith, nat_tests)

count_new : (b : Bool) (r n : ℕ) → n ≡ 0 → cond b (cond (eqb r r) 1 0) 0 + n ≡ cond b 1 0
count_new b r n e = grind (arith, nat_tests)

either : (g h index : ℕ) → index ≢ g → index ≢ h → (eqb g index || eqb h index) ≡ false
either g h index ng nh = grind (arith, nat_tests)

either_first : (g h : ℕ) → (eqb g g || eqb h g) ≡ true
either_first g h = grind (arith, nat_tests)

either_second : (g h : ℕ) → (eqb g h || eqb h h) ≡ true
either_second g h = grind (arith, nat_tests)

-- a clause that watches its first two literals, at the heads of their lists
pub added : (a a' : Clauses) (heads : List (Option ℕ)) (old r : ℕ) (s : Stored) →
    AreThreaded a heads old None → IsNew a a' r s → 2 ≤ length s.lits
    → index_at s.lits 0 < length heads → index_at s.lits 1 < length heads →
    s.first ≡ get_or heads (index_at s.lits 0) None → s.second ≡ get_or heads (index_at s.lits 1) None
    → AreThreaded a' (set (set heads (index_at s.lits 0) (Some r)) (index_at s.lits 1) (Some r)) old None
added a a' heads old r s t c long first_in second_in first second =
    let g : ℕ = index_at s.lits 0 in
    let h : ℕ = index_at s.lits 1 in
    let gh : g ≢ h = c.apart 0 1 (omega arith) (omega arith) (omega arith) in
    let hg : h ≢ g = λ e. gh (sym e) in
    let L : ℕ → List ℕ = list_of a heads in
    let L' : ℕ → List ℕ = λ index. cond (eqb g index || eqb h index) (r ∷ L index) (L index) in
    let heads' : List (Option ℕ) = set (set heads g (Some r)) h (Some r) in
    let plain : (index k : ℕ) → occurrences k (L index) ≡ watch_count a index k =
    plain_counts a heads old t in
    let absent : (index : ℕ) → occurrences r (L index) ≡ 0 = λ index. plain index r
    ∙ unwatched a r index c.fresh in
    let away : (index : ℕ) → Leads (next_of a' index) (get_or heads index None) (L index) =
    λ index. Leads-elsewhere (next_of a index) (next_of a' index) r _ (L index) (elsewhere a a' r s c index)
    (absent index) (Leads-walk (length a) _ _ (t.ends index)) in
    let at_g : Leads (next_of a' g) (get_or heads' g None) (r ∷ L g) = (
      get_or-set_other (set heads g (Some r)) h g (Some r) None gh
          ∙ get_or-set_same heads g (Some r) None first_in,
      subst
          (λ (o : Option ℕ). Leads (next_of a' g) o (L g))
          (sym (ap (next_in g) c.is ∙ (next_first g h s.first s.second ∙ first))) (away g),
    ) in
    let at_h : Leads (next_of a' h) (get_or heads' h None) (r ∷ L h) = (
      get_or-set_same (set heads g (Some r)) h (Some r) None (rw length-set second_in),
      subst
          (λ (o : Option ℕ). Leads (next_of a' h) o (L h))
          (sym (ap (next_in h) c.is ∙ (next_second g h s.first s.second gh ∙ second))) (away h),
    ) in
    let leads : (index : ℕ) → Leads (next_of a' index) (get_or heads' index None) (L' index) =
    λ index. ⊎_elim
    (λ e. subst (λ (i : ℕ). Leads (next_of a' i) (get_or heads' i None) (L' i)) (sym e)
    (subst (λ (b : Bool). Leads (next_of a' g) (get_or heads' g None) (cond b (r ∷ L g) (L g)))
    (sym (either_first g h)) at_g))
    (λ ng. ⊎_elim
    (λ e. subst (λ (i : ℕ). Leads (next_of a' i) (get_or heads' i None) (L' i)) (sym e)
    (subst (λ (b : Bool). Leads (next_of a' h) (get_or heads' h None) (cond b (r ∷ L h) (L h)))
    (sym (either_second g h)) at_h))
    (λ nh. subst (λ (b : Bool). Leads (next_of a' index) (get_or heads' index None)
    (cond b (r ∷ L index) (L index))) (sym (either g h index ng nh))
    (subst (λ (o : Option ℕ). Leads (next_of a' index) o (L index))
    (sym (get_or-set_other (set heads g (Some r)) h index (Some r) None nh
    ∙ get_or-set_other heads g index (Some r) None ng)) (away index)))
    (cases_eq index h))
    (cases_eq index g) in
    let counts : (index k : ℕ) → occurrences k (L' index) + cond (eqb index old) (occurrences k []) 0
    ≡ watch_count a' index k =
    λ index k. no_more (eqb index old) (occurrences k (L' index)) 0 refl
    ∙ (occurrences-put (eqb g index || eqb h index) k r (L index) ∙ ⊎_elim
    (λ e. subst (λ (j : ℕ). cond (eqb g index || eqb h index) (cond (eqb r j) 1 0) 0 + occurrences j
    (L index) ≡ watch_count a' index j) (sym e)
    (count_new (eqb g index || eqb h index) r (occurrences r (L index)) (absent index)
    ∙ sym (watch_count-long a' r s index c.is long)))
    (λ ne. none_there_in (eqb g index || eqb h index) k r (occurrences k (L index)) ne
    ∙ (plain index k ∙ ap (λ o. cond (watches (lits_of o) index) 1 0) (sym (c.others k ne))))
    (cases_eq k r)) in
    let all : Rebuilt a' heads' old None L' [] = rebuilt a' heads' old None L' [] leads refl counts
    (apart_all a a' r s c t.apart) in
    all.threaded
  where
    next_first : (g h : ℕ) (x y : Option ℕ) → cond (eqb g g) x (cond (eqb h g) y None) ≡ x
    next_first g h x y = grind (arith, nat_tests)

    next_second : (g h : ℕ) (x y : Option ℕ) → g ≢ h → cond (eqb g h) x (cond (eqb h h) y None) ≡ y
    next_second g h x y ne = grind (arith, nat_tests)
