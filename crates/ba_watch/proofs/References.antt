-- The table from numbers to clauses.

use Rattle.std.proofs.Common.{◌≡◌, ◌≢◌, ℕ, ◌<◌, Option, None, Some, is_some, List, [], length, get_or, set, refl, sym, ap, ◌∙◌, ⊎_elim, get_or-set_same, get_or-set_other}
use Rattle.std.proofs.lemmas.Bool.{cases_eq}
use Rattle.std.proofs.lemmas.Option.{none-some, same_Some}
use Rattle.ba_lits.specs.Literals.{Literal}
use Rattle.ba_arena.specs.Clauses.{Clauses, Stored, clause_at}
use Rattle.ba_watch.specs.Threads.{Clause, plain, plain_at, AddsPlain}
use Rattle.ba_watch.specs.Propagation.{SameClause}
use Rattle.ba_watch.specs.Deletion.{number_of, numbered, AreReferenced}

abbrev number_in : Option Clause → Option ℕ
number_in None = None
number_in (Some c) = Some c.number

numbered-plain : (a : Clauses) (k : ℕ) → numbered a k ≡ number_in (plain_at a k)
numbered-plain a k = at (clause_at a k)
  where
    at : (o : Option Stored) → number_of o ≡ number_in (plain o)
    at None = refl
    at (Some s) = refl

pub referenced_none : (a : Clauses) (refs : List (Option ℕ)) → a ≡ [] → refs ≡ [] → AreReferenced a refs
referenced_none a refs a_is refs_is = record {
  sound = λ n k at. absurd (none-some k (sym (ap (λ (xs : List (Option ℕ)). get_or xs n None) refs_is) ∙ at));
  each = λ n k at. absurd (none-some n (sym (ap (λ (cs : Clauses). numbered cs k) a_is) ∙ at));
}

-- the same entries, and clauses with the same numbers
pub referenced_same : (a : Clauses) (refs refs' : List (Option ℕ)) →
    ((k : ℕ) → get_or refs' k None ≡ get_or refs k None)
    → AreReferenced a refs → AreReferenced a refs'
referenced_same a refs refs' same r = record {
  sound = λ n k at. r.sound n k (sym (same n) ∙ at);
  each = λ n k at. ap is_some (same n) ∙ r.each n k at;
}

pub referenced_alike : (a a' : Clauses) (refs : List (Option ℕ)) → ((k : ℕ) → numbered a' k ≡ numbered a k)
    → AreReferenced a refs → AreReferenced a' refs
referenced_alike a a' refs same r = record {
  sound = λ n k at. same k ∙ r.sound n k at;
  each = λ n k at. r.each n k (sym (same k) ∙ at);
}

pub referenced_clauses : (a a' : Clauses) (refs : List (Option ℕ)) →
    ((k : ℕ) → SameClause (plain_at a k) (plain_at a' k))
    → AreReferenced a refs → AreReferenced a' refs
referenced_clauses a a' refs same r =
    referenced_alike a a' refs
    (λ k. numbered-plain a' k ∙ (of (plain_at a k) (plain_at a' k) (same k) ∙ sym (numbered-plain a k))) r
  where
    of : (o o' : Option Clause) → SameClause o o' → number_in o' ≡ number_in o
    of None None s = refl
    of None (Some d) s = absurd s
    of (Some c) None s = absurd s
    of (Some c) (Some d) s = ap (λ (n : ℕ). Some n) s.0

-- one clause more
pub referenced_more : (a a' : Clauses) (refs refs' : List (Option ℕ)) (r : ℕ) (lits : List Literal)
    (number : ℕ)
    → AddsPlain a a' r lits number → number < length refs → refs' ≡ set refs number (Some r) →
    AreReferenced a refs
    → AreReferenced a' refs'
referenced_more a a' refs refs' r lits number adds within refs'_is was = record {
  sound = λ n k at. ⊎_elim
      (λ e.
      let here : get_or refs' n None ≡ Some r = ap (λ (m : ℕ). get_or refs' m None) e ∙ new_here in
      let k_is : r ≡ k = same_Some r k (sym here ∙ at) in
      ap (numbered a') (sym k_is) ∙ (number_here ∙ ap (λ (m : ℕ). Some m) (sym e)))
      (λ ne.
      let old : numbered a k ≡ Some n = was.sound n k (sym (new_there n ne) ∙ at) in
      number_there k (λ e. none-some n (sym (ap (numbered a) e ∙ fresh) ∙ old)) ∙ old)
      (cases_eq n number);
  each = λ n k at. ⊎_elim
      (λ e.
      let n_is : number ≡ n = same_Some number n (sym number_here ∙ (ap (numbered a') (sym e) ∙ at)) in
      ap is_some (ap (λ (m : ℕ). get_or refs' m None) (sym n_is) ∙ new_here))
      (λ ne.
      let old : numbered a k ≡ Some n = sym (number_there k ne) ∙ at in
      ⊎_elim
      (λ e. ap is_some (ap (λ (m : ℕ). get_or refs' m None) e ∙ new_here))
      (λ other. ap is_some (new_there n other) ∙ was.each n k old)
      (cases_eq n number))
      (cases_eq k r);
}
  where
    new_here : get_or refs' number None ≡ Some r
    new_here = ap (λ (xs : List (Option ℕ)). get_or xs number None) refs'_is
        ∙ get_or-set_same refs number (Some r) None within

    new_there : (n : ℕ) → n ≢ number → get_or refs' n None ≡ get_or refs n None
    new_there n ne = ap (λ (xs : List (Option ℕ)). get_or xs n None) refs'_is
        ∙ get_or-set_other refs number n (Some r) None ne

    number_here : numbered a' r ≡ Some number
    number_here = numbered-plain a' r ∙ ap number_in adds.there

    fresh : numbered a r ≡ None
    fresh = numbered-plain a r ∙ ap number_in adds.fresh

    number_there : (k : ℕ) → k ≢ r → numbered a' k ≡ numbered a k
    number_there k ne = numbered-plain a' k ∙ (ap number_in (adds.others k ne) ∙ sym (numbered-plain a k))
