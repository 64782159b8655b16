-- The steps on the threaded lists as the code makes them.

use Rattle.std.proofs.Common.{◌≡◌, ◌≢◌, ℕ, suc, zero, ◌+◌, ◌-◌, ◌<◌, ◌≤◌, Bool, true, false, Option, None, Some, Result, Ok, Err, IfOk, OnErr, List, [], ◌∷◌, ◌++◌, length, get_or, set, take, replicate, eqb, leb, ◌&&◌, ◌||◌, cond, refl, sym, ap, subst, ◌∙◌, arith, ⊎_elim}
use Rattle.std.specs.List.{swap}
use Rattle.std.proofs.lemmas.Bool.{cases_lt}
use Rattle.std.proofs.lemmas.Bool.Decides.{nat_tests}
use Rattle.std.proofs.lemmas.List.{length-set, length-replicate, get_or_read, get_or-replicate, get_or_past, take_all}
use Rattle.std.proofs.lemmas.List.Edits.{length-swap}
use Rattle.ba_lits.specs.Literals.{Literal, index_of}
use Rattle.ba_arena.specs.Clauses.{Clauses, Stored, IsLive, clause_at, lits_at, link_at, changed, linked, swapped, Adds}
use Rattle.ba_arena.proofs.Reading.{live_from_lits}
use Rattle.ba_watch.specs.Chains.{walk, occurrences}
use Rattle.ba_watch.specs.Threads.{next_of, pending_of, index_at, watch_count, AreApart, AreThreaded, plain, AddsPlain}
use Rattle.ba_watch.proofs.Relinks.{taken}
use Rattle.ba_watch.proofs.Additions.{IsNew, added, added_short}
use Rattle.ba_watch.proofs.Swaps.{lit_at-swap_first, lit_at-swap_other, AreApart-swap}
use Rattle.ba_watch.proofs.Keeps.{kept, shifted, pending_watches, pending_long, changed_here, changed_there}

pub pending_live : (a : Clauses) (heads : List (Option ℕ)) (f r : ℕ) (pending : Option ℕ) →
    AreThreaded a heads f pending → pending ≡ Some r → IsLive a r
pending_live a heads f r pending t e =
    let long : 2 ≤ length (lits_at a r) = pending_long a heads f r
    (subst (λ (p : Option ℕ). AreThreaded a heads f p) e t) in
    live_from_lits (clause_at a r) 0 (omega arith)

pub keep_step : (a a' : Clauses) (heads : List (Option ℕ)) (f r place : ℕ) (pending next head : Option ℕ) →
    AreThreaded a heads f pending → pending ≡ Some r → place ≤ 1
    → index_at (lits_at a r) place ≡ f → f < length heads → next ≡ link_at a r place →
    head ≡ get_or heads f head → a' ≡ changed (linked place head) a r
    → AreThreaded a' (set heads f (Some r)) f next × (pending_of a f pending ≡ r ∷ pending_of a' f next)
keep_step a a' heads f r place pending next head t e le was within next_is head_is a'_is =
    let t' : AreThreaded a heads f (Some r) = subst (λ (p : Option ℕ). AreThreaded a heads f p) e t in
    let out = kept a heads f r t' place le was within in
    let head_none : head ≡ get_or heads f None = get_or_read heads f head within head_is None in
    let a'_none : a' ≡ changed (linked place (get_or heads f None)) a r = a'_is
    ∙ ap (λ h. changed (linked place h) a r) head_none in (
      subst (λ (n : Option ℕ). AreThreaded a' (set heads f (Some r)) f n) (sym next_is)
          (subst (λ (b : Clauses). AreThreaded b (set heads f (Some r)) f (link_at a r place)) (sym a'_none)
          out.0),
      ap (pending_of a f) e ∙ (out.1 ∙ (ap (λ (b : Clauses). r ∷ pending_of b f (link_at a r place))
          (sym a'_none) ∙ ap (λ (n : Option ℕ). r ∷ pending_of a' f n) (sym next_is))),
    )

pub move_step : (a a1 a' : Clauses) (heads : List (Option ℕ)) (f g r place k : ℕ)
    (pending next head : Option ℕ) → AreThreaded a heads f pending → pending ≡ Some r → place ≤ 1
    → 2 ≤ k → k < length (lits_at a r) → index_at (lits_at a r) place ≡ f → g ≡ index_at (lits_at a r) k →
    index_at (lits_at a r) k < length heads → next ≡ link_at a r place → head ≡ get_or heads g head
    → a1 ≡ changed (swapped place k) a r → a' ≡ changed (linked place head) a1 r
    → AreThreaded a' (set heads g (Some r)) f next × (pending_of a f pending ≡ r ∷ pending_of a' f next)
move_step a a1 a' heads f g r place k pending next head t e le far k_in was g_is within next_is head_is
    a1_is a'_is =
    let t' : AreThreaded a heads f (Some r) = subst (λ (p : Option ℕ). AreThreaded a heads f p) e t in
    let out = shifted a heads f r t' place k le far k_in was within in
    let i : ℕ = index_at (lits_at a r) k in
    let head_none : head ≡ get_or heads i None = get_or_read heads g head (omega (arith, g_is)) head_is None
    ∙ ap (λ (n : ℕ). get_or heads n None) g_is in
    let b : Clauses = changed (linked place (get_or heads i None)) (changed (swapped place k) a r) r in
    let a'_none : a' ≡ b = a'_is ∙ (ap (λ h. changed (linked place h) a1 r) head_none
    ∙ ap (λ (c : Clauses). changed (linked place (get_or heads i None)) c r) a1_is) in (
      subst (λ (n : Option ℕ). AreThreaded a' (set heads g (Some r)) f n) (sym next_is)
          (subst (λ (c : Clauses). AreThreaded c (set heads g (Some r)) f (link_at a r place)) (sym a'_none)
          (subst (λ (n : ℕ). AreThreaded b (set heads n (Some r)) f (link_at a r place)) (sym g_is) out.0)),
      ap (pending_of a f) e ∙ (out.1 ∙ (ap (λ (c : Clauses). r ∷ pending_of c f (link_at a r place))
          (sym a'_none) ∙ ap (λ (n : Option ℕ). r ∷ pending_of a' f n) (sym next_is))),
    )

pub take_step : (a : Clauses) (heads : List (Option ℕ)) (old f : ℕ) (pending head : Option ℕ) →
    AreThreaded a heads old pending → pending ≡ None → f < length heads → head ≡ get_or heads f head
    → AreThreaded a (set heads f None) f head × ((r : ℕ) →
    occurrences r (pending_of a f head) ≡ watch_count a f r)
take_step a heads old f pending head t e within head_is =
    let out = taken a heads old f (subst (λ (p : Option ℕ). AreThreaded a heads old p) e t) within in
    let head_none : get_or heads f None ≡ head = sym (get_or_read heads f head within head_is None) in (
      subst (λ (h : Option ℕ). AreThreaded a (set heads f None) f h) head_none out.0,
      λ r. subst
          (λ (h : Option ℕ). occurrences r (pending_of a f h) ≡ watch_count a f r) head_none (out.1 r),
    )

-- more heads, all of them without a list
get_or-more : (xs : List (Option ℕ)) (n i : ℕ) → get_or (xs ++ replicate n None) i None ≡ get_or xs i None
get_or-more [] n i = ⊎_elim (λ below. get_or-replicate n i None None below)
    (λ past. get_or_past (replicate n None) i None (rw length-replicate past)) (cases_lt i n)
get_or-more (x ∷ xs) n zero = refl
get_or-more (x ∷ xs) n (suc i) = get_or-more xs n i

AreThreaded-heads : (a : Clauses) (heads heads' : List (Option ℕ)) (f : ℕ) (pending : Option ℕ) →
    ((i : ℕ) → get_or heads' i None ≡ get_or heads i None) → AreThreaded a heads f pending →
    AreThreaded a heads' f pending
AreThreaded-heads a heads heads' f pending same t = record {
  ends = λ i. rw (same i) (t.ends i);
  pending_ends = t.pending_ends;
  counts = λ i r. ap (λ (h : Option ℕ). occurrences r (walk (length a) (next_of a i) h) + cond (eqb i f)
      (occurrences r (pending_of a f pending)) 0) (same i) ∙ t.counts i r;
  apart = t.apart;
}

pub grow_step : (a : Clauses) (heads heads' : List (Option ℕ)) (f n len : ℕ) (pending filler : Option ℕ)
    (ok : Bool) → AreThreaded a heads f pending → len ≡ length heads → len < n → filler ≡ None
    → heads' ≡ cond ok (take n heads ++ replicate (n - len) filler) heads → AreThreaded a heads' f pending
grow_step a heads heads' f n len pending filler true t len_is more filler_is heads'_is =
    AreThreaded-heads a heads heads' f pending
    (λ i. ap (λ (hs : List (Option ℕ)). get_or hs i None) (heads'_is
    ∙ (ap (λ (x : Option ℕ). take n heads ++ replicate (n - len) x) filler_is
    ∙ ap (λ (hs : List (Option ℕ)). hs ++ replicate (n - len) None) (take_all n heads (omega arith))))
    ∙ get_or-more heads (n - len) i) t
grow_step a heads heads' f n len pending filler false t len_is more filler_is heads'_is =
    subst (λ (hs : List (Option ℕ)). AreThreaded a hs f pending) (sym heads'_is) t

-- what the arena says of an added clause
IsNew-from_Adds : (a a' : Clauses) (r : ℕ) (s : Stored) → Adds a a' r s → AreApart s.lits → IsNew a a' r s
IsNew-from_Adds a a' r s adds apart = record {
  fresh = get_or_past a r None (omega (arith, adds.at_end));
  is = adds.there;
  others = adds.others;
  apart = apart;
}

short_apart : (lits : List Literal) → length lits < 2 → AreApart lits
short_apart lits short j k j_in k_in ne same = ne (omega arith)

pub add_short_step : (a a' : Clauses) (heads : List (Option ℕ)) (f r : ℕ) (pending : Option ℕ) (s : Stored)
    → AreThreaded a heads f pending → pending ≡ None → length s.lits < 2 → Adds a a' r s →
    AreThreaded a' heads f pending
add_short_step a a' heads f r pending s t e short adds =
    subst (λ (p : Option ℕ). AreThreaded a' heads f p) (sym e)
    (added_short a a' heads f r s (subst (λ (p : Option ℕ). AreThreaded a heads f p) e t)
    (IsNew-from_Adds a a' r s adds (short_apart s.lits short)) short)

pub AddsPlain-from_Adds : (a a' : Clauses) (r : ℕ) (s : Stored) → Adds a a' r s →
    AddsPlain a a' r s.lits s.number
AddsPlain-from_Adds a a' r s adds = record {
  fresh = ap plain (get_or_past a r None (omega (arith, adds.at_end)));
  there = ap plain adds.there;
  others = λ k ne. ap plain (adds.others k ne);
}

pub add_short_result : {E : Type 0} (a a' : Clauses) (heads : List (Option ℕ)) (f : ℕ) (pending : Option ℕ)
    (s : Stored) (result : Result ℕ E) → AreThreaded a heads f pending → pending ≡ None → length s.lits < 2
    → IfOk result (λ r. Adds a a' r s) → OnErr result (a' ≡ a) → AreThreaded a' heads f pending
add_short_result a a' heads f pending s (Ok r) t e short adds same =
    add_short_step a a' heads f r pending s t e short adds
add_short_result a a' heads f pending s (Err x) t e short adds same =
    subst (λ (c : Clauses). AreThreaded c heads f pending) (sym same) t

module _ (a a0 a1 a2 a3 a4 : Clauses) (heads : List (Option ℕ)) (f r x y : ℕ) (first second : Option ℕ)
    (s : Stored)
    (adds : Adds a a0 r s)
    (a1_is : a1 ≡ changed (swapped 0 x) a0 r) (a2_is : a2 ≡ changed (swapped 1 y) a1 r) (a3_is : a3
    ≡ changed (linked 0 first) a2 r) (a4_is : a4 ≡ changed (linked 1 second) a3 r) where
  final : Stored
  final = record { lits = swap (swap s.lits 0 x) 1 y; number = s.number; first = first; second = second }

  final_here : clause_at a4 r ≡ Some (record {
    lits = swap (swap s.lits 0 x) 1 y;
    number = s.number;
    first = first;
    second = second;
  })
  final_here =
      let in0 : r < length a0 = omega (arith, adds.at_end, adds.longer) in
      let in1 : r < length a1 = rw a1_is (rw length-set in0) in
      let in2 : r < length a2 = rw a2_is (rw length-set in1) in
      let in3 : r < length a3 = rw a3_is (rw length-set in2) in
      ap (λ (c : Clauses). clause_at c r) a4_is ∙ (changed_here (linked 1 second) a3 r in3
      ∙ ap (linked 1 second)
      (ap (λ (c : Clauses). clause_at c r) a3_is ∙ (changed_here (linked 0 first) a2 r in2
      ∙ ap (linked 0 first)
      (ap (λ (c : Clauses). clause_at c r) a2_is ∙ (changed_here (swapped 1 y) a1 r in1 ∙ ap (swapped 1 y)
      (ap (λ (c : Clauses). clause_at c r) a1_is ∙ (changed_here (swapped 0 x) a0 r in0
      ∙ ap (swapped 0 x) adds.there)))))))

  final_there : (k : ℕ) → k ≢ r → clause_at a4 k ≡ clause_at a k
  final_there k ne =
      ap (λ (c : Clauses). clause_at c k) a4_is ∙ (changed_there (linked 1 second) a3 r k ne
      ∙ (ap (λ (c : Clauses). clause_at c k) a3_is ∙ (changed_there (linked 0 first) a2 r k ne
      ∙ (ap (λ (c : Clauses). clause_at c k) a2_is ∙ (changed_there (swapped 1 y) a1 r k ne
      ∙ (ap (λ (c : Clauses). clause_at c k) a1_is ∙ (changed_there (swapped 0 x) a0 r k ne
      ∙ adds.others k ne)))))))

  pub add_long_plain : AddsPlain a a4 r (swap (swap s.lits 0 x) 1 y) s.number
  add_long_plain = record {
    fresh = ap plain (get_or_past a r None (omega (arith, adds.at_end)));
    there = ap plain final_here;
    others = λ k ne. ap plain (final_there k ne);
  }

  pub add_long_step : (pending : Option ℕ) (g h : ℕ) → AreThreaded a heads f pending → pending ≡ None →
      x < y → y < length s.lits → AreApart s.lits
      → g ≡ index_at s.lits x → h ≡ index_at s.lits y → g < length heads → h < length heads →
      first ≡ get_or heads g first → second ≡ get_or heads h second
      → AreThreaded a4 (set (set heads g (Some r)) h (Some r)) f pending
  add_long_step pending g h t e order y_in apart g_is h_is g_in h_in first_is second_is =
      let once : List Literal = swap s.lits 0 x in
      let once_len : length once ≡ length s.lits = length-swap s.lits 0 x in
      let twice : List Literal = swap once 1 y in
      let len : length twice ≡ length s.lits = length-swap once 1 y ∙ once_len in
      let s' : Stored = record { lits = twice; number = s.number; first = first; second = second } in
      let at0 : index_at twice 0 ≡ g = ap index_of (lit_at-swap_other once 1 y 0 (omega arith) (omega arith)
      (omega arith) (omega arith) ∙ lit_at-swap_first s.lits 0 x (omega arith) (omega arith))
      ∙ sym g_is in
      let at1 : index_at twice 1 ≡ h = ap index_of (lit_at-swap_first once 1 y (omega arith) (omega arith)
      ∙ lit_at-swap_other s.lits 0 x y (omega arith) (omega arith) (omega arith) (omega arith))
      ∙ sym h_is in
      let new : IsNew a a4 r s' = record {
        fresh = get_or_past a r None (omega (arith, adds.at_end));
        is = final_here;
        others = final_there;
        apart = AreApart-swap once 1 y (omega arith) (omega arith)
            (AreApart-swap s.lits 0 x (omega arith) (omega arith) apart);
      } in
      let out = added a a4 heads f r s' (subst (λ (p : Option ℕ). AreThreaded a heads f p) e t) new
      (omega arith) (omega (arith, at0)) (omega (arith, at1))
      (get_or_read heads g first g_in first_is None ∙ ap (λ (n : ℕ). get_or heads n None) (sym at0))
      (get_or_read heads h second h_in second_is None ∙ ap (λ (n : ℕ). get_or heads n None) (sym at1)) in
      subst (λ (p : Option ℕ). AreThreaded a4 (set (set heads g (Some r)) h (Some r)) f p) (sym e)
      (subst (λ (n : ℕ). AreThreaded a4 (set (set heads n (Some r)) h (Some r)) f None) at0
      (subst (λ (n : ℕ). AreThreaded a4 (set (set heads (index_at twice 0) (Some r)) n (Some r)) f None) at1
      out))

pub pending_long_at : (a : Clauses) (heads : List (Option ℕ)) (f r : ℕ) (pending : Option ℕ) →
    AreThreaded a heads f pending → pending ≡ Some r → 2 ≤ length (lits_at a r)
pending_long_at a heads f r pending t e = pending_long a heads f r
    (subst (λ (p : Option ℕ). AreThreaded a heads f p) e t)

-- the clause has the visited literal at place 1 if it hasn't at place 0
pub pending_other : (a : Clauses) (heads : List (Option ℕ)) (f r : ℕ) (pending : Option ℕ) →
    AreThreaded a heads f pending → pending ≡ Some r → index_at (lits_at a r) 0 ≢ f →
    index_at (lits_at a r) 1 ≡ f
pending_other a heads f r pending t e ne =
    other (length (lits_at a r)) (index_at (lits_at a r) 0) (index_at (lits_at a r) 1) f
    (pending_watches a heads f r (subst (λ (p : Option ℕ). AreThreaded a heads f p) e t)) ne
  where
    other : (n i j f : ℕ) → cond {A = ℕ} (leb 2 n && (eqb i f || eqb j f)) 1 0 ≡ 1 → i ≢ f → j ≡ f
    other n i j f h ne = grind (arith, nat_tests)
