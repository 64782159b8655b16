-- What it means for a clause to be new, and clauses by their numbers.

use Rattle.std.proofs.Common.{◌≡◌, ◌≢◌, ℕ, suc, zero, ◌<◌, Bool, true, false, ◌&&◌, Option, None, Some, List, [], ◌∷◌, length, eqb, cond, refl, sym, ap, subst, ◌∙◌, arith, ◌⊎◌, inl, inr, ⊎_elim}
use Rattle.std.proofs.lemmas.Bool.{cases_eq}
use Rattle.std.proofs.lemmas.Bool.Decides.{nat_tests}
use Rattle.std.proofs.lemmas.List.Sorted.{IsPermutation-refl}
use Rattle.std.specs.List.Sorted.{IsPermutation}
use Rattle.ba_lits.specs.Literals.{Literal, index_of, lit_at}
use Rattle.ba_watch.specs.Threads.{Clause, index_at, AreApart}
use Rattle.ba_watch.specs.Trails.{value_of}
use Rattle.ba_watch.specs.Propagation.{falsified, is_false, unit_step, is_unit, clause_in}
use Rattle.ba_watch.proofs.Facts.{is_false-all}
use Rattle.ba_learn.specs.Live.{IsSame, AreLive, IsNew, by_number, HaveDistinctNumbers, IsPartOf}
use Rattle.ba_lits.proofs.Members.{same_from_index, literal_found}

-- a clause is false or unit if one literal without a value occurs at most once in it and all others are false
one_free : (value : Literal → Option Bool) (t : Literal) (c : List Literal) → value t ≡ None → AreApart c →
    ((k : ℕ) → k < length c → (lit_at c k ≡ t) ⊎ (value (lit_at c k) ≡ Some false)) →
    (is_false value c ≡ true) ⊎ (is_unit value c ≡ true)
one_free value t [] none apart each = inl refl
one_free value t (x ∷ xs) none apart each = ⊎_elim
    (λ is. inr (free (value x) (is_false value xs) (is_unit value xs) (ap value is ∙ none)
    (is_false-all value xs (λ k k_in. ⊎_elim
    (λ same. absurd (apart 0 (suc k) (omega arith) (omega arith) (λ e. omega arith)
    (ap index_of (is ∙ sym same))))
    (λ h. h)
    (each (suc k) (omega arith))))))
    (λ h. step (value x) (is_false value xs) (is_unit value xs) h
    (one_free value t xs none (λ j k j_in k_in ne. apart (suc j) (suc k) (omega arith) (omega arith)
    (λ e. ne (omega arith))) (λ k k_in. each (suc k) (omega arith))))
    (each 0 (omega arith))
  where
    free : (v : Option Bool) (a b : Bool) → v ≡ None → a ≡ true → unit_step v a b ≡ true
    free None a b e h = h
    free (Some true) a b e h = absurd (cc e)
    free (Some false) a b e h = absurd (cc e)

    step : (v : Option Bool) (a b : Bool) → v ≡ Some false → (a ≡ true) ⊎ (b ≡ true) →
        ((falsified v && a) ≡ true) ⊎ (unit_step v a b ≡ true)
    step None a b e h = absurd (cc e)
    step (Some true) a b e h = absurd (cc e)
    step (Some false) a b e h = h

pub contains_none : (live : ℕ → Option (List Literal)) (lits : List Literal) → IsNew live lits →
    (number : ℕ) (c : List Literal) → live number ≡ Some c → AreApart c → IsPartOf c lits → ⊥
contains_none live lits new number c is apart part = ⊎_elim
    (λ e. absurd (cc (sym e ∙ new.quiet.none_false number c is)))
    (λ e. absurd (cc (sym e ∙ new.quiet.none_unit number c is)))
    (one_free (value_of new.trail) new.free c new.no_value apart each)
  where
    each : (k : ℕ) → k < length c → (lit_at c k ≡ new.free) ⊎ (value_of new.trail (lit_at c k) ≡ Some false)
    each k k_in =
        let r = literal_found (lit_at c k) lits (part k k_in) in
        ⊎_elim
        (λ same. inl (sym r.2 ∙ same_from_index (lit_at lits r.0) new.free same))
        (λ other. inr (ap (value_of new.trail) (sym r.2) ∙ new.asserts.others r.0 r.1 other))
        (cases_eq (index_at lits r.0) (index_of new.free))

-- clauses by their numbers
found : (clauses : List (Option Clause)) (number : ℕ) (given : List Literal) →
    by_number clauses number ≡ Some given → (reference : ℕ) × (c : Clause)
    × (clause_in clauses reference ≡ Some c) × (c.number ≡ number)
found [] number given is = absurd (cc is)
found (None ∷ clauses) number given is = let r = found clauses number given is in (suc r.0, r.1, r.2, r.3)
found (Some c ∷ clauses) number given is = ⊎_elim
    (λ same. (0, c, refl, same))
    (λ other. let r = found clauses number given (rest c.number (by_number clauses number) other is) in
    (suc r.0, r.1, r.2, r.3))
    (cases_eq c.number number)
  where
    rest : (n : ℕ) (o : Option (List Literal)) → n ≢ number →
        cond (eqb n number) (Some c.lits) o ≡ Some given → o ≡ Some given
    rest n o ne e = grind (arith, nat_tests)

numbered_rest : (o : Option Clause) (clauses : List (Option Clause)) → HaveDistinctNumbers (o ∷ clauses) →
    HaveDistinctNumbers clauses
numbered_rest o clauses h a b c d is_c is_d e = less a b (h (suc a) (suc b) c d is_c is_d e)
  where
    less : (a b : ℕ) → suc a ≡ suc b → a ≡ b
    less a b e = omega arith

has_number : (clauses : List (Option Clause)) → HaveDistinctNumbers clauses → (reference : ℕ) (c : Clause) →
    clause_in clauses reference ≡ Some c → IsSame (by_number clauses c.number) c.lits
has_number [] h reference c is = absurd (cc is)
has_number (None ∷ clauses) h zero c is = absurd (cc is)
has_number (None ∷ clauses) h (suc reference) c is =
    has_number clauses (numbered_rest None clauses h) reference c is
has_number (Some d ∷ clauses) h zero c is =
    let e : d ≡ c = cc is in
    here d.number c.number (by_number clauses c.number) (ap (λ (x : Clause). x.number) e)
    (subst (λ (x : Clause). IsPermutation x.lits c.lits) (sym e) (IsPermutation-refl c.lits))
  where
    here : (m n : ℕ) (o : Option (List Literal)) → m ≡ n → IsPermutation d.lits c.lits →
        IsSame (cond (eqb m n) (Some d.lits) o) c.lits
    here m n o e p = subst (λ (b : Bool). IsSame (cond b (Some d.lits) o) c.lits) (sym (yes m n e)) p
      where
        yes : (m n : ℕ) → m ≡ n → eqb m n ≡ true
        yes m n e = grind (arith, nat_tests)
has_number (Some d ∷ clauses) h (suc reference) c is =
    there d.number c.number (λ e. absurd (zero_not (h 0 (suc reference) d c refl is e)))
    (has_number clauses (numbered_rest (Some d) clauses h) reference c is)
  where
    zero_not : 0 ≡ suc reference → ⊥
    zero_not e = omega arith

    there : (m n : ℕ) → m ≢ n → IsSame (by_number clauses c.number) c.lits →
        IsSame (cond (eqb m n) (Some d.lits) (by_number clauses c.number)) c.lits
    there m n ne p = subst (λ (b : Bool). IsSame (cond b (Some d.lits) (by_number clauses c.number)) c.lits)
        (sym (no' m n ne)) p
      where
        no' : (m n : ℕ) → m ≢ n → eqb m n ≡ false
        no' m n ne = grind (arith, nat_tests)

pub live_by_number : (clauses : List (Option Clause)) → HaveDistinctNumbers clauses →
    AreLive clauses (by_number clauses)
live_by_number clauses h = record { each = has_number clauses h; all = found clauses }
