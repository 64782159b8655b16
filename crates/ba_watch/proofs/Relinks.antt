-- What a change of a clause's links and of a head does to the threaded lists.

use Rattle.std.proofs.Common.{◌≡◌, ◌≢◌, ℕ, ◌+◌, ◌<◌, ◌≤◌, Bool, true, false, Option, None, Some, List, [], ◌∷◌, length, get_or, set, drop, eqb, cond, refl, sym, ap, subst, ◌∙◌, arith, ⊎_elim, get_or-set_same, get_or-set_other}
use Rattle.std.proofs.lemmas.Bool.{cases_eq, cases_lt, eq-eqb, ne_eqb}
use Rattle.std.proofs.lemmas.Bool.Decides.{nat_tests}
use Rattle.std.proofs.lemmas.List.{get_or_past}
use Rattle.ba_arena.specs.Clauses.{Clauses, lits_at, lits_of}
use Rattle.ba_watch.specs.Chains.{occurrences}
use Rattle.ba_watch.specs.Threads.{next_of, list_of, pending_of, watches, watch_count, AreApart, AreThreaded}
use Rattle.ba_watch.proofs.Walks.{Leads, Leads-walk, walk-Leads, end_of_walk-Leads, Leads-elsewhere, Leads-same, length-le_from_occurrences}

at_most_one : (b : Bool) → cond b 1 0 ≤ 1
at_most_one true = omega arith
at_most_one false = omega arith

pub watch_count-le : (a : Clauses) (index clause : ℕ) → watch_count a index clause ≤ 1
watch_count-le a index clause = at_most_one (watches (lits_at a clause) index)

watch_count-past : (a : Clauses) (index clause : ℕ) → length a ≤ clause → watch_count a index clause ≡ 0
watch_count-past a index clause past = ap (λ s. cond (watches (lits_of s) index) 1 0)
    (get_or_past a clause None past)

-- a clause that watches a literal is in the arena
pub within_from_watch : (a : Clauses) (index clause : ℕ) → 0 < watch_count a index clause → clause < length a
within_from_watch a index clause some =
    ⊎_elim (λ h. h) (λ past. absurd (omega (arith, watch_count-past a index clause past)))
    (cases_lt clause (length a))

-- heads and links that thread given lists
pub record Rebuilt (a : Clauses) (heads : List (Option ℕ)) (visited : ℕ) (pending : Option ℕ) (L : ℕ →
    List ℕ) (P : List ℕ) : Type 0 where
  pub threaded : AreThreaded a heads visited pending
  pub rest : pending_of a visited pending ≡ P

pub rebuilt : (a : Clauses) (heads : List (Option ℕ)) (visited : ℕ) (pending : Option ℕ) (L : ℕ →
    List ℕ) (P : List ℕ)
    → ((index : ℕ) → Leads (next_of a index) (get_or heads index None) (L index))
    → Leads (next_of a visited) pending P
    → ((index clause : ℕ) → occurrences clause (L index) + cond (eqb index visited) (occurrences clause P) 0
    ≡ watch_count a index clause)
    → ((clause : ℕ) → AreApart (lits_at a clause))
    → Rebuilt a heads visited pending L P
rebuilt a heads visited pending L P leads leads_pending counts apart =
    let short : (index : ℕ) → length (L index) ≤ length a =
    λ index. length-le_from_occurrences (L index) (length a)
    (λ r. omega (arith, counts index r, watch_count-le a index r))
    (λ r some. within_from_watch a index r (omega (arith, counts index r))) in
    let pending_counts : (r : ℕ) → occurrences r P ≤ watch_count a visited r =
    λ r. at_visited r (eqb visited visited) (eq-eqb visited visited refl) (counts visited r) in
    let short_pending : length P ≤ length a =
    length-le_from_occurrences P (length a) (λ r. omega
    (arith, pending_counts r, watch_count-le a visited r))
    (λ r some. within_from_watch a visited r (omega (arith, pending_counts r))) in
    let lists : (index : ℕ) → list_of a heads index ≡ L index =
    λ index. walk-Leads (length a) _ _ (L index) (leads index) (short index) in
    let rest : pending_of a visited pending ≡ P = walk-Leads (length a) _ _ P leads_pending short_pending in
    record {
      threaded = record {
        ends = λ index. end_of_walk-Leads (length a) _ _ (L index) (leads index) (short index);
        pending_ends = end_of_walk-Leads (length a) _ _ P leads_pending short_pending;
        counts = λ index clause. ap (λ xs. occurrences clause xs + cond (eqb index visited)
            (occurrences clause (pending_of a visited pending)) 0) (lists index)
            ∙ ap (λ xs. occurrences clause (L index) + cond (eqb index visited) (occurrences clause xs) 0)
            rest ∙ counts index clause;
        apart = apart;
      };
      rest = rest;
    }
  where
    at_visited : (r : ℕ) (b : Bool) → b ≡ true → occurrences r (L visited) + cond b (occurrences r P) 0
        ≡ watch_count a visited r → occurrences r P ≤ watch_count a visited r
    at_visited r true e h = omega arith
    at_visited r false e h = absurd (cc e)

uncons : (next : ℕ → Option ℕ) (r : ℕ) (xs : List ℕ) → Leads next (Some r) xs →
    (xs ≡ r ∷ drop 1 xs) × Leads next (next r) (drop 1 xs)
uncons next r [] leads = absurd (cc leads)
uncons next r (x ∷ xs) leads =
    let e : x ≡ r = cc leads.0 in
    (ap (λ y. y ∷ xs) e, subst (λ y. Leads next (next y) xs) e leads.1)

pub occurrences-put : (b : Bool) (k r : ℕ) (xs : List ℕ) →
    occurrences k (cond b (r ∷ xs) xs) ≡ cond b (cond (eqb r k) 1 0) 0 + occurrences k xs
occurrences-put true k r xs = refl
occurrences-put false k r xs = omega arith

-- the lists after the clause was put into that of g
abbrev put_in : ℕ → ℕ → (ℕ → List ℕ) → ℕ → List ℕ
put_in g r L index = cond (eqb index g) (r ∷ L index) (L index)

-- the clause r, which was the next of the visited list f, goes into the list of g
pub record Moves (a a' : Clauses) (heads : List (Option ℕ)) (f g r : ℕ) (pending : Option ℕ) : Type 0 where
  pub elsewhere : (index k : ℕ) → k ≢ r → next_of a' index k ≡ next_of a index k
  pub others : (index : ℕ) → index ≢ f → index ≢ g → next_of a' index r ≡ next_of a index r
  pub here : next_of a' g r ≡ get_or heads g None
  pub counts_elsewhere : (index k : ℕ) → k ≢ r → watch_count a' index k ≡ watch_count a index k
  pub counts_here : (index : ℕ) → watch_count a' index r + cond (eqb index f) 1 0
      ≡ watch_count a index r + cond (eqb index g) 1 0
  pub apart : (k : ℕ) → AreApart (lits_at a' k)
  pub within : g < length heads
  pub next : pending ≡ next_of a f r

absent_in_g : (gf : Bool) (l p0 w w' : ℕ) → l + cond gf p0 0 ≡ w → w' + cond gf 1 0 ≡ w + 1 → w ≤ 1 →
    w' ≤ 1 → 1 ≤ p0 → l ≡ 0
absent_in_g true l p0 w w' h e le le' some = omega arith
absent_in_g false l p0 w w' h e le le' some = omega arith

absent_in_f : (ff : Bool) (l p0 w : ℕ) → ff ≡ true → l + cond ff p0 0 ≡ w → w ≤ 1 → 1 ≤ p0 →
    (l ≡ 0) × (p0 ≡ 1)
absent_in_f true l p0 w e h le some = (omega arith, omega arith)
absent_in_f false l p0 w e h le some = absurd (cc e)

count_here : (ig if' : Bool) (l p0 p w w' : ℕ) → p0 ≡ 1 + p → l + cond if' p0 0 ≡ w →
    w' + cond if' 1 0 ≡ w + cond ig 1 0 → cond ig 1 0 + l + cond if' p 0 ≡ w'
count_here true true l p0 p w w' e h k = omega arith
count_here true false l p0 p w w' e h k = omega arith
count_here false true l p0 p w w' e h k = omega arith
count_here false false l p0 p w w' e h k = omega arith

once_here : (r n : ℕ) → cond (eqb r r) 1 0 + n ≡ 1 + n
once_here r n = grind (arith, nat_tests)

none_there : (k r n : ℕ) → k ≢ r → cond (eqb r k) 1 0 + n ≡ n
none_there k r n h = grind (arith, nat_tests)

pub none_there_in : (b : Bool) (k r n : ℕ) → k ≢ r → cond b (cond (eqb r k) 1 0) 0 + n ≡ n
none_there_in true k r n h = none_there k r n h
none_there_in false k r n h = omega arith

once_there_in : (b : Bool) (r n : ℕ) → cond b (cond (eqb r r) 1 0) 0 + n ≡ cond b 1 0 + n
once_there_in true r n = once_here r n
once_there_in false r n = refl

pub moved : (a a' : Clauses) (heads : List (Option ℕ)) (f g r : ℕ) (pending : Option ℕ) →
    AreThreaded a heads f (Some r) → Moves a a' heads f g r pending
    → AreThreaded a' (set heads g (Some r)) f pending
    × (pending_of a f (Some r) ≡ r ∷ pending_of a' f pending)
moved a a' heads f g r pending t m =
    let L : ℕ → List ℕ = list_of a heads in
    let P0 : List ℕ = pending_of a f (Some r) in
    let P : List ℕ = drop 1 P0 in
    let u : (P0 ≡ r ∷ P) × Leads (next_of a f) (next_of a f r) P =
    uncons (next_of a f) r P0 (Leads-walk (length a) _ _ t.pending_ends) in
    let p0 : occurrences r P0 ≡ 1 + occurrences r P = ap (occurrences r) u.0
    ∙ once_here r (occurrences r P) in
    let in_f : (occurrences r (L f) ≡ 0) × (occurrences r P0 ≡ 1) =
    absent_in_f (eqb f f) _ _ _ (eq-eqb f f refl) (t.counts f r) (watch_count-le a f r) (omega arith) in
    let in_g : occurrences r (L g) ≡ 0 =
    absent_in_g (eqb g f) _ (occurrences r P0) (watch_count a g r) (watch_count a' g r) (t.counts g r)
    (plus_one (eqb g g) (eq-eqb g g refl) (m.counts_here g)) (watch_count-le a g r)
    (watch_count-le a' g r) (omega arith) in
    let old : (index : ℕ) → Leads (next_of a index) (get_or heads index None) (L index) =
    λ index. Leads-walk (length a) _ _ (t.ends index) in
    let heads' : List (Option ℕ) = set heads g (Some r) in
    let away : (index : ℕ) → index ≢ g → Leads (next_of a' index) (get_or heads index None) (L index) =
    λ index ne. ⊎_elim
    (λ e. subst (λ (i : ℕ). Leads (next_of a' i) (get_or heads i None) (L i)) (sym e)
    (Leads-elsewhere (next_of a f) (next_of a' f) r _ (L f) (m.elsewhere f) in_f.0 (old f)))
    (λ nf. Leads-same (next_of a index) (next_of a' index) _ (L index)
    (λ k. ⊎_elim (λ e. subst (λ (j : ℕ). next_of a' index j ≡ next_of a index j) (sym e)
    (m.others index nf ne)) (m.elsewhere index k) (cases_eq k r)) (old index))
    (cases_eq index f) in
    let at_g : Leads (next_of a' g) (get_or heads' g None) (r ∷ L g) = (
      get_or-set_same heads g (Some r) None m.within,
      rw m.here
          (Leads-elsewhere (next_of a g) (next_of a' g) r _ (L g) (m.elsewhere g) in_g (old g)),
    ) in
    let leads : (index : ℕ) → Leads (next_of a' index) (get_or heads' index None) (put_in g r L index) =
    λ index. ⊎_elim
    (λ e. subst (λ (i : ℕ). Leads (next_of a' i) (get_or heads' i None) (put_in g r L i)) (sym e)
    (subst (λ (b : Bool). Leads (next_of a' g) (get_or heads' g None) (cond b (r ∷ L g) (L g)))
    (sym (eq-eqb g g refl)) at_g))
    (λ ne. subst (λ (b : Bool). Leads (next_of a' index) (get_or heads' index None)
    (cond b (r ∷ L index) (L index))) (sym (ne_eqb index g ne))
    (rw (get_or-set_other heads g index (Some r) None ne) (away index ne)))
    (cases_eq index g) in
    let leads_pending : Leads (next_of a' f) pending P =
    rw m.next (Leads-elsewhere (next_of a f) (next_of a' f) r _ P (m.elsewhere f) (omega arith) u.1) in
    let counts : (index k : ℕ) → occurrences k (put_in g r L index) + cond (eqb index f) (occurrences k P) 0
    ≡ watch_count a' index k =
    λ index k. ⊎_elim
    (λ e. subst (λ (j : ℕ). occurrences j (put_in g r L index) + cond (eqb index f) (occurrences j P) 0
    ≡ watch_count a' index j) (sym e)
    (ap (λ n. n + cond (eqb index f) (occurrences r P) 0) (occurrences-put (eqb index g) r r (L index)
    ∙ once_there_in (eqb index g) r _)
    ∙ count_here (eqb index g) (eqb index f) (occurrences r (L index)) (occurrences r P0) (occurrences r P)
    _ _ p0 (t.counts index r) (m.counts_here index)))
    (λ ne. ap (λ n. n + cond (eqb index f) (occurrences k P) 0) (occurrences-put (eqb index g) k r (L index)
    ∙ none_there_in (eqb index g) k r _ ne)
    ∙ (ap (λ n. occurrences k (L index) + cond (eqb index f) n 0)
    (sym (ap (occurrences k) u.0 ∙ none_there k r _ ne))
    ∙ (t.counts index k ∙ sym (m.counts_elsewhere index k ne))))
    (cases_eq k r) in
    let all : Rebuilt a' heads' f pending (put_in g r L) P =
    rebuilt a' heads' f pending (put_in g r L) P leads leads_pending counts m.apart in
    (all.threaded, u.0 ∙ ap (λ xs. r ∷ xs) (sym all.rest))
  where
    plus_one : (b : Bool) → b ≡ true → watch_count a' g r + cond (eqb g f) 1 0
        ≡ watch_count a g r + cond b 1 0 → watch_count a' g r + cond (eqb g f) 1 0 ≡ watch_count a g r + 1
    plus_one true e h = h
    plus_one false e h = absurd (cc e)

pub no_more : (b : Bool) (l p : ℕ) → p ≡ 0 → l + cond b p 0 ≡ l
no_more true l p e = omega arith
no_more false l p e = omega arith

-- the list of f is taken to be visited
pub taken : (a : Clauses) (heads : List (Option ℕ)) (old f : ℕ) → AreThreaded a heads old None →
    f < length heads
    → AreThreaded a (set heads f None) f (get_or heads f None)
    × ((r : ℕ) → occurrences r (pending_of a f (get_or heads f None)) ≡ watch_count a f r)
taken a heads old f t within =
    let L : ℕ → List ℕ = list_of a heads in
    let L' : ℕ → List ℕ = λ index. cond (eqb index f) [] (L index) in
    let nothing : pending_of a old None ≡ [] = walk-Leads (length a) _ None [] refl (omega arith) in
    let plain : (index k : ℕ) → occurrences k (L index) ≡ watch_count a index k =
    λ index k. sym (no_more (eqb index old) (occurrences k (L index)) _ (ap (occurrences k) nothing))
    ∙ t.counts index k in
    let heads' : List (Option ℕ) = set heads f None in
    let leads : (index : ℕ) → Leads (next_of a index) (get_or heads' index None) (L' index) =
    λ index. ⊎_elim
    (λ e. subst (λ (i : ℕ). Leads (next_of a i) (get_or heads' i None) (L' i)) (sym e)
    (subst (λ (b : Bool). Leads (next_of a f) (get_or heads' f None) (cond b [] (L f)))
    (sym (eq-eqb f f refl)) (get_or-set_same heads f None None within)))
    (λ ne. subst (λ (b : Bool). Leads (next_of a index) (get_or heads' index None) (cond b [] (L index)))
    (sym (ne_eqb index f ne))
    (rw (get_or-set_other heads f index None None ne) (Leads-walk (length a) _ _ (t.ends index))))
    (cases_eq index f) in
    let counts : (index k : ℕ) → occurrences k (L' index) + cond (eqb index f) (occurrences k (L f)) 0
    ≡ watch_count a index k =
    λ index k. ⊎_elim
    (λ e. subst (λ (i : ℕ). occurrences k (L' i) + cond (eqb i f) (occurrences k (L f)) 0 ≡ watch_count a i k)
    (sym e) (subst (λ (b : Bool). occurrences k (cond b [] (L f)) + cond b
    (occurrences k (L f)) 0 ≡ watch_count a f k) (sym (eq-eqb f f refl)) (omega (arith, plain f k))))
    (λ ne. subst (λ (b : Bool). occurrences k (cond b [] (L index)) + cond b
    (occurrences k (L f)) 0 ≡ watch_count a index k) (sym (ne_eqb index f ne))
    (omega (arith, plain index k)))
    (cases_eq index f) in
    let all : Rebuilt a heads' f (get_or heads f None) L' (L f) =
    rebuilt a heads' f (get_or heads f None) L' (L f) leads (Leads-walk (length a) _ _ (t.ends f))
    counts t.apart in
    (all.threaded, λ r. plain f r)
