-- The lists of a line: what is read is ended by `0`, and is read again; and which lists ascend.

use Rattle.std.proofs.Common.{◌≡◌, ℕ, ◌-◌, ◌^◌, ◌<◌, ◌≤◌, ltb, Bool, true, false, cond, Option, None, Some, List, [], ◌∷◌, ◌++◌, map, length, codes, decimal, bytes_eq, All, refl, sym, ap, ◌∙◌, subst, append_assoc, append-nil, arith}
use Rattle.std.proofs.lemmas.Bool.{and_parts, and_from, ltb-true, lt-ltb, false_from_ne_true}
use Rattle.std.proofs.lemmas.List.Elements.{All-nil, All-cons, All-head, All-tail, All-weaker, All-from_get_or}
use Rattle.std.proofs.lemmas.Option.{none-some, some_pair_parts}
use Rattle.std.proofs.lemmas.Slice.Eq.{bytes_eq-Decides}
use Rattle.ba_lits.specs.Literals.{Literal, IsClause, lit_at, no_literal}
use Rattle.ba_steps.specs.Steps.{AreAbove}
use Rattle.ba_lits.proofs.ClauseLaws.{nil_formed, cons_formed, IsClause-rest}
use Rattle.ba_cert.specs.Text.{literal_text, ended}
use Rattle.ba_cert.specs.Reading.{◌>>=◌, counted_of, group_of, literal_of, listed, ascends, variable_of, itself}
use Rattle.ba_cert.proofs.Binding.{bound}
use Rattle.ba_cert.proofs.NumberLaws.{counted-back, counted-again, group-back, group-again, literal-back, literal-again, zero-counted, zero-group, zero-literal}

-- WHAT STANDS IN A LIST

-- each formed item has a text that is read as it and as no other, and `0` is none
pub record IsSpelled {A : Type 0} (spelled : A → List ℕ) (reading : List ℕ → Option A)
    (formed : A → Type 0) : Type 0 where
  pub again : (a : A) → formed a → reading (spelled a) ≡ Some a
  pub back : (part : List ℕ) (a : A) → reading part ≡ Some a → (part ≡ spelled a) × formed a
  pub none : reading (codes "0") ≡ None

abbrev pub IsCount : ℕ → Type 0
IsCount n = (1 ≤ n) × (n < 2 ^ 62)

abbrev pub IsGroup : ℕ → Type 0
IsGroup n = (1 ≤ n) × (n < 2 ^ 32)

abbrev pub IsFormedLit : Literal → Type 0
IsFormedLit l = (1 ≤ l.variable) × (l.variable < 2 ^ 62)

pub counts : IsSpelled decimal counted_of IsCount
counts = record {
  again = λ n h. counted-again n h.0 h.1;
  back = λ p n e. let b = counted-back p n e in (b.0, (b.1, b.2));
  none = zero-counted;
}

pub groups : IsSpelled decimal group_of IsGroup
groups = record {
  again = λ n h. group-again n h.0 h.1;
  back = λ p n e. let b = group-back p n e in (b.0, (b.1, b.2));
  none = zero-group;
}

pub literals : IsSpelled literal_text literal_of IsFormedLit
literals = record {
  again = λ l h. literal-again l h.0 h.1;
  back = λ p l e. let b = literal-back p l e in (b.0, (b.1, b.2));
  none = zero-literal;
}

-- a text that reading refuses is that of no item
pub not-read : {A : Type 0} (reading : List ℕ → Option A) (a : A) (part other : List ℕ) →
    reading part ≡ Some a → reading other ≡ None → bytes_eq part other ≡ false
not-read reading a part other is none =
    false_from_ne_true (bytes_eq part other)
    (λ e. none-some a (sym none ∙ ap reading (sym ((bytes_eq-Decides part other).0 e)) ∙ is))

-- LISTS

pub listed-again : {A : Type 0} (spelled : A → List ℕ) (reading : List ℕ → Option A) (formed : A → Type 0) →
    IsSpelled spelled reading formed →
    (seen xs : List A) (rest : List (List ℕ)) → All formed xs →
    listed reading seen (ended (map spelled xs) ++ rest) ≡ Some (seen ++ xs, rest)
listed-again spelled reading formed h seen [] rest all = ap (λ s. Some (s, rest)) (sym (append-nil seen))
listed-again spelled reading formed h seen (x ∷ xs) rest all =
    let is = h.again x (All-head formed x xs all) in
    let more = ended (map spelled xs) ++ rest in
    ap (λ t. cond t (Some (seen, more)) (reading (spelled x) >>= (λ a. listed reading (seen ++ a ∷ []) more)))
    (not-read reading x (spelled x) (codes "0") is h.none)
    ∙ ap (λ o. o >>= (λ a. listed reading (seen ++ a ∷ []) more)) is
    ∙ listed-again spelled reading formed h (seen ++ x ∷ []) xs rest (All-tail formed x xs all)
    ∙ ap (λ s. Some (s, rest)) (append_assoc seen (x ∷ []) xs)

-- the last list of a line
pub listed-last : {A : Type 0} (spelled : A → List ℕ) (reading : List ℕ → Option A) (formed : A → Type 0) →
    IsSpelled spelled reading formed →
    (xs : List A) → All formed xs → listed reading [] (ended (map spelled xs)) ≡ Some (xs, [])
listed-last spelled reading formed h xs all =
    ap (listed reading []) (sym (append-nil (ended (map spelled xs))))
    ∙ listed-again spelled reading formed h [] xs [] all

-- what was read, after what was read before
pub record IsRead {A : Type 0} (spelled : A → List ℕ) (formed : A → Type 0) (seen out : List A)
    (parts rest : List (List ℕ)) : Type 0 where
  pub items : List A
  pub out_is : out ≡ seen ++ items
  pub parts_are : parts ≡ ended (map spelled items) ++ rest
  pub formed_all : All formed items

listed_back : {A : Type 0} (spelled : A → List ℕ) (reading : List ℕ → Option A) (formed : A → Type 0) →
    IsSpelled spelled reading formed →
    (parts : List (List ℕ)) (seen out : List A) (rest : List (List ℕ)) →
    listed reading seen parts ≡ Some (out, rest) → IsRead spelled formed seen out parts rest
listed_back spelled reading formed h [] seen out rest e = absurd (none-some (out, rest) e)
listed_back {A} spelled reading formed h (p ∷ ps) seen out rest e =
    by (bytes_eq p (codes "0")) ((bytes_eq-Decides p (codes "0")).0) e
    (λ a more. listed_back spelled reading formed h ps (seen ++ a ∷ []) out rest more)
  where
    by : (t : Bool) → (t ≡ true → p ≡ codes "0") →
        cond t (Some (seen, ps)) (reading p >>= (λ a. listed reading (seen ++ a ∷ []) ps)) ≡ Some (out, rest)
        → ((a : A) → listed reading (seen ++ a ∷ []) ps ≡ Some (out, rest) →
        IsRead spelled formed (seen ++ a ∷ []) out ps rest)
        → IsRead spelled formed seen out (p ∷ ps) rest
    by true zero_part is others =
        let same = some_pair_parts seen out ps rest is in record {
          items = [];
          out_is = sym same.0 ∙ sym (append-nil seen);
          parts_are = ap (λ x. x ∷ ps) (zero_part refl) ∙ ap (λ r. codes "0" ∷ r) same.1;
          formed_all = All-nil formed;
        }
    by false zero_part is others =
        let b = bound (reading p) (λ a. listed reading (seen ++ a ∷ []) ps) (out, rest) is in
        let r = others b.value b.second in
        let one = h.back p b.value b.first in record {
          items = b.value ∷ r.items;
          out_is = r.out_is ∙ append_assoc seen (b.value ∷ []) r.items;
          parts_are = ap (λ x. x ∷ ps) one.0 ∙ ap (λ q. spelled b.value ∷ q) r.parts_are;
          formed_all = All-cons formed b.value r.items one.1 r.formed_all;
        }

pub listed-back : {A : Type 0} (spelled : A → List ℕ) (reading : List ℕ → Option A) (formed : A → Type 0) →
    IsSpelled spelled reading formed →
    (parts : List (List ℕ)) (out : List A) (rest : List (List ℕ)) →
    listed reading [] parts ≡ Some (out, rest) →
    (parts ≡ ended (map spelled out) ++ rest) × All formed out
listed-back {A} spelled reading formed h parts out rest e =
    let r = listed_back spelled reading formed h parts [] out rest e in
    subst (λ (xs : List A). (parts ≡ ended (map spelled xs) ++ rest) × All formed xs) (sym r.out_is)
    (r.parts_are, r.formed_all)

-- ORDER

pub above-test : (last : ℕ) (ns : List ℕ) → AreAbove last ns → ascends itself last ns ≡ true
above-test last [] h = refl
above-test last (n ∷ ns) h = and_from (ltb last n) (ascends itself n ns) (lt-ltb last n h.0)
    (above-test n ns h.1)

pub above-from : (last : ℕ) (ns : List ℕ) → ascends itself last ns ≡ true → AreAbove last ns
above-from last [] e = tt
above-from last (n ∷ ns) e =
    let parts = and_parts (ltb last n) (ascends itself n ns) e in
    (ltb-true last n parts.0, above-from n ns parts.1)

-- numbers above another are greater than it
pub above-all : (last : ℕ) (ns : List ℕ) → AreAbove last ns → All (λ n. last < n) ns
above-all last [] h = All-nil (λ n. last < n)
above-all last (n ∷ ns) h =
    All-cons (λ m. last < m) n ns h.0
    (All-weaker (λ m. n < m) (λ m. last < m) (λ m above. let first = h.0 in omega (arith, above, first)) ns
    (above-all n ns h.1))

pub groups-formed : (ns : List ℕ) → AreAbove 0 ns → All (λ n. n < 2 ^ 32) ns → All IsGroup ns
groups-formed ns above small k d within = let some = above-all 0 ns above k d within in
    (omega (arith, some), small k d within)

first_above : (last : ℕ) (lits : List Literal) → ascends variable_of last lits ≡ true → 0 < length lits →
    last < (lit_at lits 0).variable
first_above last [] e some = absurd (omega (arith, some))
first_above last (l ∷ ls) e some = ltb-true last l.variable
    ((and_parts (ltb last l.variable) (ascends variable_of l.variable ls) e).0)

pub clause-from : (last : ℕ) (lits : List Literal) → ascends variable_of last lits ≡ true →
    All IsFormedLit lits → IsClause (2 ^ 62 - 1) lits
clause-from last [] e all = nil_formed (2 ^ 62 - 1)
clause-from last (l ∷ ls) e all =
    let parts = and_parts (ltb last l.variable) (ascends variable_of l.variable ls) e in
    let formed = All-head IsFormedLit l ls all in
    cons_formed (2 ^ 62 - 1) l ls formed.0 (let below = formed.1 in omega (arith, below))
    (first_above l.variable ls parts.1)
    (clause-from l.variable ls parts.1 (All-tail IsFormedLit l ls all))

clause_test : (n last : ℕ) (lits : List Literal) → IsClause n lits →
    (0 < length lits → last < (lit_at lits 0).variable) → ascends variable_of last lits ≡ true
clause_test n last [] clause first = refl
clause_test n last (l ∷ ls) clause first =
    and_from (ltb last l.variable) (ascends variable_of l.variable ls)
    (lt-ltb last l.variable (first (omega arith)))
    (clause_test n l.variable ls (IsClause-rest n l ls clause)
    (λ some. clause.ascends 0 1 (omega arith) (omega (arith, some))))

pub clause-test : (n : ℕ) (lits : List Literal) → IsClause n lits → ascends variable_of 0 lits ≡ true
clause-test n lits clause = clause_test n 0 lits clause
    (λ some. let counted = clause.counted 0 some in omega (arith, counted))

pub clause-formed : (lits : List Literal) → IsClause (2 ^ 62 - 1) lits → All IsFormedLit lits
clause-formed lits clause = All-from_get_or IsFormedLit lits no_literal (λ i within.
    let most = clause.within i within in (clause.counted i within, omega (arith, most)))
