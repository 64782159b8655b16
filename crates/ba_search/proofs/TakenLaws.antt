-- The numbers of the live clauses.

use Rattle.std.proofs.Common.{◌≡◌, ◌≢◌, ℕ, suc, zero, ◌+◌, ◌<◌, ◌≤◌, ◌==◌, ◌||◌, Bool, true, false, Option, None, Some, List, [], ◌∷◌, ◌++◌, length, get_or, refl, sym, ap, subst, ◌∙◌, arith, ◌⊎◌, inl, inr, ⊎_elim}
use Rattle.std.proofs.lemmas.Bool.{cases_eq}
use Rattle.std.proofs.lemmas.Bool.Decides.{nat_tests}
use Rattle.std.proofs.lemmas.List.{length_push}
use Rattle.std.specs.List.{slice_get}
use Rattle.std.specs.List.Sorted.{IsPermutation}
use Rattle.std.proofs.lemmas.List.Sorted.{IsPermutation-trans}
use Rattle.ba_lits.specs.Literals.{Literal}
use Rattle.ba_watch.specs.Threads.{Clause}
use Rattle.ba_watch.specs.Propagation.{State, clause_in, SameClause, SameClauses, AddsClause}
use Rattle.ba_learn.specs.Live.{IsSame, AreLive}
use Rattle.ba_checker.specs.States.{Kept, kept, live_lits, clause_at}
use Rattle.ba_checker.specs.declared.store.Origin.TheVariants.{Learnt}
use Rattle.ba_search.specs.Searching.{ArePart}
use Rattle.ba_search.specs.Iterations.{Numbering, HasNumber, MarksLive, AreTaken, AreThere, MarksOne, AddsOne}

-- clauses by their numbers
at_some : (cs : List Kept) (k : ℕ) (c : List Literal) → live_lits (slice_get cs k) ≡ Some c → k < length cs
at_some [] k c is = absurd (cc is)
at_some (x ∷ xs) zero c is = omega arith
at_some (x ∷ xs) (suc k) c is = omega (arith, at_some xs k c is)

pub number_within : (cs : List Kept) (n : ℕ) (c : List Literal) → clause_at cs n ≡ Some c →
    (1 ≤ n) × (n ≤ length cs)
number_within cs zero c is = absurd (cc is)
number_within cs (suc k) c is = (omega arith, omega (arith, at_some cs k c is))

at_more : (cs ds : List Kept) (k : ℕ) → k < length cs → slice_get (cs ++ ds) k ≡ slice_get cs k
at_more [] ds k within = absurd (omega arith)
at_more (x ∷ xs) ds zero within = refl
at_more (x ∷ xs) ds (suc k) within = at_more xs ds k (omega arith)

pub clause_at-more : (cs ds : List Kept) (n : ℕ) → n ≤ length cs → clause_at (cs ++ ds) n ≡ clause_at cs n
clause_at-more cs ds zero within = refl
clause_at-more cs ds (suc k) within = ap live_lits (at_more cs ds k (omega arith))

at_end : (cs : List Kept) (x : Kept) → slice_get (cs ++ x ∷ []) (length cs) ≡ Some x
at_end [] x = refl
at_end (c ∷ cs) x = at_end cs x

pub clause_at-end : (cs : List Kept) (lits : List Literal) (n : ℕ) → n ≡ length cs + 1 →
    clause_at (cs ++ kept Learnt lits ∷ []) n ≡ Some lits
clause_at-end cs lits n is =
    ap (clause_at (cs ++ kept Learnt lits ∷ [])) (is ∙ later (length cs))
    ∙ ap live_lits (at_end cs (kept Learnt lits))
  where
    later : (k : ℕ) → k + 1 ≡ suc k
    later k = omega arith

-- the clause of a number is some clause
pub same_some : (o : Option (List Literal)) (lits : List Literal) → IsSame o lits →
    (given : List Literal) × (o ≡ Some given) × IsPermutation given lits
same_some None lits h = absurd h
same_some (Some given) lits h = (given, refl, h)

pub number_le : (cs : List Kept) (n : ℕ) (lits : List Literal) → IsSame (clause_at cs n) lits → n ≤ length cs
number_le cs n lits h = let s = same_some (clause_at cs n) lits h in (number_within cs n s.0 s.1).1

-- nothing is taken at first
empty : (r : ℕ) (c : Clause) → clause_in [] r ≡ Some c → ⊥
empty r c is = cc is

pub taken_none : (clauses : List (Option Clause)) (taken : List Bool) (live : ℕ → Option (List Literal)) →
    clauses ≡ [] → ((number : ℕ) → get_or taken number false ≡ false) → AreTaken clauses taken live
taken_none clauses taken live none unmarked = record {
  numbered = record {
    each = λ n marked. absurd (cc (sym (unmarked n) ∙ marked));
    marked = λ r c is. absurd (empty r c (subst (λ cs. clause_in cs r ≡ Some c) none is));
    alone = λ a b c d at_a at_b same. absurd (empty a c (subst (λ cs. clause_in cs a ≡ Some c) none at_a));
  };
  part = λ r c is. absurd (empty r c (subst (λ cs. clause_in cs r ≡ Some c) none is));
}

-- what was added
there_is : (o : Option Clause) (lits : List Literal) (number : ℕ) →
    SameClause (Some (record { lits = lits; number = number })) o →
    (c : Clause) × (o ≡ Some c) × (c.number ≡ number) × IsPermutation lits c.lits
there_is None lits number h = absurd h
there_is (Some c) lits number h = (c, refl, h.0, h.1)

module _ (s t : State) (clause number : ℕ) (lits : List Literal) (adds : AddsClause s t clause lits number)
  where
    here : (c : Clause) × (clause_in t.clauses clause ≡ Some c) × (c.number ≡ number)
        × IsPermutation lits c.lits
    here = there_is (clause_in t.clauses clause) lits number adds.there

    -- each clause is the one that was added, or was there
    cases : (r : ℕ) (c : Clause) → clause_in t.clauses r ≡ Some c →
        ((c.number ≡ number) × IsPermutation lits c.lits) ⊎ (clause_in s.clauses r ≡ Some c)
    cases r c is = ⊎_elim
        (λ same. inl (
        let e : here.0 ≡ c = some_same (sym here.1 ∙ (ap (clause_in t.clauses) (sym same) ∙ is)) in (
          ap (λ (x : Clause). x.number) (sym e) ∙ here.2,
          subst (λ (x : Clause). IsPermutation lits x.lits) e
              here.3,
        )))
        (λ other. inr (sym (adds.others r other) ∙ is))
        (cases_eq r clause)
      where
        some_same : {c d : Clause} → ◌≡◌ {A = Option Clause} (Some c) (Some d) → c ≡ d
        some_same e = cc e

    -- what was there is still there
    stays : (r : ℕ) (c : Clause) → clause_in s.clauses r ≡ Some c → clause_in t.clauses r ≡ Some c
    stays r c is = adds.others r (λ e. absurd (cc (sym is ∙ (ap (clause_in s.clauses) e ∙ adds.fresh)))) ∙ is

    -- so what has a number keeps it
    pub has_still : (k : ℕ) → HasNumber s.clauses k → HasNumber t.clauses k
    has_still k h = record {
      reference = h.reference;
      clause = h.clause;
      there = stays h.reference h.clause h.there;
      named = h.named;
    }

    pub has_new : HasNumber t.clauses number
    has_new = record { reference = clause; clause = here.0; there = here.1; named = here.2 }

    -- a clause that was there, and the one that is new
    old_at : (r : ℕ) (c : Clause) → r ≢ clause → clause_in t.clauses r ≡ Some c →
        clause_in s.clauses r ≡ Some c
    old_at r c other is = sym (adds.others r other) ∙ is

    new_named : (r : ℕ) (c : Clause) → r ≡ clause → clause_in t.clauses r ≡ Some c → c.number ≡ number
    new_named r c same is = named_as here.0 c here.2 (sym here.1 ∙ (ap (clause_in t.clauses) (sym same) ∙ is))
      where
        named_as : (x c : Clause) → x.number ≡ number → ◌≡◌ {A = Option Clause} (Some x) (Some c) →
            c.number ≡ number
        named_as x c named e = let i : x ≡ c = cc e in ap (λ (y : Clause). y.number) (sym i) ∙ named

    pub numbered_more : (taken more : List Bool) → MarksOne taken more number →
        get_or taken number false ≡ false →
        MarksLive s.clauses taken → MarksLive t.clauses more
    numbered_more taken more marks fresh numbered = record {
      each = λ k marked. ⊎_elim
          (λ same. subst (λ n. HasNumber t.clauses n) (sym same) has_new)
          (λ other. has_still k (numbered.each k (unmarked k (get_or taken k false) other (sym (marks k)
          ∙ marked))))
          (cases_eq k number);
      marked = λ r c is. ⊎_elim
          (λ new. marks c.number ∙ is_one c.number (get_or taken c.number false) new.0)
          (λ old. marks c.number ∙ is_other (c.number == number) (get_or taken c.number false)
          (numbered.marked r c old))
          (cases r c is);
      alone = λ a b c d at_a at_b same. ⊎_elim
          (λ a_new. ⊎_elim
          (λ b_new. a_new ∙ sym b_new)
          (λ b_old. absurd (apart d (numbered.marked b d (old_at b d b_old at_b)) (sym same
          ∙ new_named a c a_new at_a)))
          (cases_eq b clause))
          (λ a_old. ⊎_elim
          (λ b_new. absurd (apart c (numbered.marked a c (old_at a c a_old at_a)) (same
          ∙ new_named b d b_new at_b)))
          (λ b_old. numbered.alone a b c d (old_at a c a_old at_a) (old_at b d b_old at_b) same)
          (cases_eq b clause))
          (cases_eq a clause);
    }
      where
        unmarked : (k : ℕ) (b : Bool) → k ≢ number → ((k == number) || b) ≡ true → b ≡ true
        unmarked k b other is = grind (arith, nat_tests, other, is)

        is_one : (k : ℕ) (b : Bool) → k ≡ number → ((k == number) || b) ≡ true
        is_one k b same = grind (arith, nat_tests, same)

        is_other : (a b : Bool) → b ≡ true → (a || b) ≡ true
        is_other true b is = refl
        is_other false b is = is

        apart : (c : Clause) → get_or taken c.number false ≡ true → c.number ≡ number → ⊥
        apart c marked named = cc (sym fresh ∙ (ap (λ n. get_or taken n false) (sym named) ∙ marked))

    pub part_more : (live : ℕ → Option (List Literal)) → ArePart s.clauses live → live number ≡ Some lits →
        ArePart t.clauses live
    part_more live part is r c at = ⊎_elim
        (λ new. subst (λ o. IsSame o c.lits) (sym (ap live new.0 ∙ is)) new.1)
        (λ old. part r c old)
        (cases r c at)

    -- a clause that is live elsewhere from now on
    pub live_more : (cs : List Kept) → number ≡ length cs + 1 → AreLive s.clauses (clause_at cs) →
        AreLive t.clauses (clause_at (cs ++ kept Learnt lits ∷ []))
    live_more cs next are = record {
      each = λ r c at. ⊎_elim
          (λ new. subst (λ o. IsSame o c.lits) (sym (clause_at-end cs lits c.number (new.0 ∙ next))) new.1)
          (λ old. let p = are.each r c old in subst (λ o. IsSame o c.lits)
          (sym (clause_at-more cs (kept Learnt lits ∷ []) c.number (number_le cs c.number c.lits p))) p)
          (cases r c at);
      all = λ n given is. ⊎_elim
          (λ last. (clause, here.0, here.1, here.2 ∙ (next ∙ sym last)))
          (λ other.
          let w = number_within (cs ++ kept Learnt lits ∷ []) n given is in
          let before : n ≤ length cs = omega (arith, w.1, length_push cs (kept Learnt lits), other) in
          let e = are.all n given (sym (clause_at-more cs (kept Learnt lits ∷ []) n before) ∙ is) in
          (e.0, e.1, stays e.0 e.1 e.2, e.3))
          (cases_eq n (length cs + 1));
    }

-- the next of the clauses elsewhere is there too
pub there_next : (clauses : List (Option Clause)) (place number : ℕ) (live : ℕ → Option (List Literal)) →
    number ≡ place + 1 → AreThere clauses place live →
    ((given : List Literal) → live number ≡ Some given → HasNumber clauses number) →
    AreThere clauses number live
there_next clauses place number live next there last k within given is = ⊎_elim
    (λ same. subst (λ n. HasNumber clauses n) (sym same) (last given (ap live (sym same) ∙ is)))
    (λ other. there k (omega (arith, within, next, other)) given is)
    (cases_eq k number)

-- all clauses are there
pub taken_live : (clauses : List (Option Clause)) (taken : List Bool) (cs : List Kept) (last : ℕ) →
    AreTaken clauses taken (clause_at cs) → AreThere clauses last (clause_at cs) → length cs ≤ last →
    AreLive clauses (clause_at cs)
taken_live clauses taken cs last are there all = record {
  each = are.part;
  all = λ n given is.
      let w = number_within cs n given is in
      let h = there n (omega (arith, w.1, all)) given is in
      (h.reference, h.clause, h.there, h.named);
}

-- nor does another order of literals
was : (o p : Option Clause) (d : Clause) → SameClause o p → p ≡ Some d →
    (c : Clause) × (o ≡ Some c) × (d.number ≡ c.number) × IsPermutation c.lits d.lits
was None None d same is = absurd (cc is)
was None (Some e) d same is = absurd same
was (Some c) None d same is = absurd same
was (Some c) (Some e) d same is =
    let i : e ≡ d = cc is in (
      c,
      refl,
      ap (λ (x : Clause). x.number) (sym i)
          ∙ same.0,
      subst (λ (x : Clause). IsPermutation c.lits x.lits) i same.1,
    )

becomes : (o p : Option Clause) (c : Clause) → SameClause o p → o ≡ Some c →
    (d : Clause) × (p ≡ Some d) × (d.number ≡ c.number)
becomes None None c same is = absurd (cc is)
becomes None (Some e) c same is = absurd same
becomes (Some b) None c same is = absurd same
becomes (Some b) (Some e) c same is =
    let i : b ≡ c = cc is in
    (e, refl, same.0 ∙ ap (λ (x : Clause). x.number) i)

same_further : (o : Option (List Literal)) (xs ys : List Literal) → IsPermutation xs ys → IsSame o xs →
    IsSame o ys
same_further None xs ys p h = absurd h
same_further (Some given) xs ys p h = IsPermutation-trans given xs ys h p

pub numbered_same : (old new : List (Option Clause)) (taken : List Bool) → SameClauses old new →
    MarksLive old taken →
    MarksLive new taken
numbered_same old new taken same numbered = record {
  each = λ n marked.
      let e = numbered.each n marked in
      let b = becomes (clause_in old e.reference) (clause_in new e.reference) e.clause (same e.reference)
      e.there in
      record { reference = e.reference; clause = b.0; there = b.1; named = b.2 ∙ e.named };
  marked = λ r d is.
      let w = was (clause_in old r) (clause_in new r) d (same r) is in
      ap (λ n. get_or taken n false) w.2 ∙ numbered.marked r w.0 w.1;
  alone = λ a b c d at_a at_b named.
      let v = was (clause_in old a) (clause_in new a) c (same a) at_a in
      let w = was (clause_in old b) (clause_in new b) d (same b) at_b in
      numbered.alone a b v.0 w.0 v.1 w.1 (sym v.2 ∙ (named ∙ w.2));
}

pub live_same : (old new : List (Option Clause)) (live : ℕ → Option (List Literal)) → SameClauses old new →
    AreLive old live → AreLive new live
live_same old new live same are = record {
  each = λ r d is.
      let w = was (clause_in old r) (clause_in new r) d (same r) is in
      same_further (live d.number) w.0.lits d.lits w.3
      (subst (λ n. IsSame (live n) w.0.lits) (sym w.2) (are.each r w.0 w.1));
  all = λ n given is.
      let e = are.all n given is in
      let b = becomes (clause_in old e.0) (clause_in new e.0) e.1 (same e.0) e.2 in
      (e.0, b.0, b.1, b.2 ∙ e.3);
}

-- a clause that was added under its number elsewhere
pub taken_more : (s t : State) (old new : Numbering) (number : ℕ) (lits : List Literal) (live : ℕ →
    Option (List Literal)) →
    AddsOne s t old new number lits → get_or old.taken number false ≡ false →
    AreTaken s.clauses old.taken live →
    live number ≡ Some lits → AreTaken t.clauses new.taken live
taken_more s t old new number lits live adds fresh are is = record {
  numbered = numbered_more s t adds.clause number lits adds.adds old.taken new.taken adds.marks fresh
      are.numbered;
  part = part_more s t adds.clause number lits adds.adds live are.part is;
}

pub there_more : (s t : State) (old new : Numbering) (place number : ℕ) (lits : List Literal) (live : ℕ →
    Option (List Literal)) →
    AddsOne s t old new number lits → number ≡ place + 1 → AreThere s.clauses place live →
    AreThere t.clauses number live
there_more s t old new place number lits live adds next there =
    there_next t.clauses place number live next
    (λ k within given is. has_still s t adds.clause number lits adds.adds k (there k within given is))
    (λ given is. has_new s t adds.clause number lits adds.adds)

-- the next number is not marked
pub unmarked_next : (clauses : List (Option Clause)) (taken : List Bool) (cs : List Kept) (number : ℕ) →
    MarksLive clauses taken → AreLive clauses (clause_at cs) → number ≡ length cs + 1 →
    get_or taken number false ≡ false
unmarked_next clauses taken cs number numbered live next = step (get_or taken number false) refl
  where
    step : (b : Bool) → get_or taken number false ≡ b → get_or taken number false ≡ false
    step false is = is
    step true is =
        let h = numbered.each number is in
        let le = number_le cs h.clause.number h.clause.lits (live.each h.reference h.clause h.there) in
        absurd (omega (arith, le, h.named, next))

-- no later number is marked
pub marks_later : (old new : List Bool) (place k : ℕ) → MarksOne old new (place + 1) →
    ((k : ℕ) → place < k → get_or old k false ≡ false) → place + 1 < k → get_or new k false ≡ false
marks_later old new place k marks unmarked past =
    marks k ∙ neither (get_or old k false) (unmarked k (omega (arith, past)))
  where
    neither : (b : Bool) → b ≡ false → ((k == place + 1) || b) ≡ false
    neither b is = grind (arith, nat_tests, past, is)
