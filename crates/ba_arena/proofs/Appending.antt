-- The words of a clause appended to those of an arena.

use Rattle.std.proofs.Common.{◌≡◌, ◌≢◌, ℕ, Option, ◌<◌, ◌^◌, cond, eqb, suc, zero, ◌+◌, ◌≤◌, Bool, None, Some, List, [], ◌∷◌, ◌++◌, length, take, map, refl, sym, ap, subst, ◌∙◌, arith, length-append}
use Rattle.std.proofs.lemmas.List.{take-append-le}
use Rattle.std.proofs.lemmas.Bool.{ne_eqb}
use Rattle.ba_lits.specs.Literals.{Literal, literal_at, index_of}
use Rattle.ba_lits.proofs.Members.{literal_at-index_of}
use Rattle.ba_arena.specs.Clauses.{Stored, Clauses, clause_at, Adds}
use Rattle.ba_arena.specs.Words.{clauses_of, entry_in, dead, words_of, lacking, link_of_word, Fits, AreIndexed, AreWords}
use Rattle.ba_arena.proofs.Reading.{length-clauses, left_le}
use Rattle.ba_arena.proofs.Writing.{cons_both}

-- a clause that has all its words
pub entry-append : (count : ℕ) (ws us : List ℕ) → 3 + count ≤ length ws
    → entry_in count (ws ++ us) ≡ entry_in count ws
entry-append count [] us long = absurd (omega (arith, long))
entry-append count (n ∷ []) us long = absurd (omega (arith, long))
entry-append count (n ∷ a ∷ []) us long = absurd (omega (arith, long))
entry-append count (n ∷ a ∷ b ∷ codes) us long =
    let of_codes : List ℕ → Option Stored =
    λ cs. cond (eqb n dead) None (Some (record {
      lits = map literal_at cs;
      number = n;
      first = link_of_word a;
      second = link_of_word b;
    })) in
    ap of_codes (take-append-le count codes us (omega (arith, long)))

pub clauses-append : (left : ℕ) (ws us : List ℕ) → lacking left ws ≡ 0
    → clauses_of left (ws ++ us) ≡ clauses_of left ws ++ clauses_of 0 us
clauses-append left [] us whole = rw whole refl
clauses-append zero (w ∷ ws) us whole =
    let long = left_le (suc (suc (suc w))) ws whole in
    cons_both _ _ _ _ (entry-append w ws us (omega (arith, long))) (clauses-append (suc (suc (suc w))) ws us whole)
clauses-append (suc left) (w ∷ ws) us whole =
    ap (λ (cs : Clauses). None ∷ cs) (clauses-append left ws us whole)

pub lacking-append : (left : ℕ) (ws us : List ℕ) → lacking left ws ≡ 0 → lacking left (ws ++ us) ≡ lacking 0 us
lacking-append left [] us whole = rw whole refl
lacking-append zero (w ∷ ws) us whole = lacking-append (suc (suc (suc w))) ws us whole
lacking-append (suc left) (w ∷ ws) us whole = lacking-append left ws us whole

-- the words of a clause
lits-back : (lits : List Literal) → map literal_at (take (length lits) (map index_of lits)) ≡ lits
lits-back [] = refl
lits-back (l ∷ ls) = cons_both _ _ _ _ (literal_at-index_of l) (lits-back ls)

none_inside : (lits : List Literal) (k : ℕ)
    → clause_at (clauses_of (length lits) (map index_of lits)) k ≡ None
none_inside [] k = refl
none_inside (l ∷ ls) zero = refl
none_inside (l ∷ ls) (suc k) = none_inside ls k

all_there : (lits : List Literal) → lacking (length lits) (map index_of lits) ≡ 0
all_there [] = refl
all_there (l ∷ ls) = all_there ls

abbrev fresh : List Literal → ℕ → Stored
fresh lits number = record { lits = lits; number = number; first = None; second = None }

first_is : (lits : List Literal) (number : ℕ) → number < dead
    → clause_at (clauses_of 0 (words_of lits number)) 0 ≡ Some (fresh lits number)
first_is lits number small =
    ap (λ (b : Bool). cond b None (Some (fresh (map literal_at (take (length lits) (map index_of lits))) number)))
    (ne_eqb number dead (λ e. differ number e small))
    ∙ ap (λ (ls : List Literal). Some (fresh ls number)) (lits-back lits)
  where
    differ : (n : ℕ) → n ≡ dead → n < dead → ⊥
    differ n e h = omega (arith, e, h)

none_after : (lits : List Literal) (number k : ℕ)
    → clause_at (clauses_of 0 (words_of lits number)) (suc k) ≡ None
none_after lits number zero = refl
none_after lits number (suc zero) = refl
none_after lits number (suc (suc zero)) = refl
none_after lits number (suc (suc (suc k))) = none_inside lits k

-- clauses before others
there_after : (cs ds : Clauses) → clause_at (cs ++ ds) (length cs) ≡ clause_at ds 0
there_after [] ds = refl
there_after (c ∷ cs) ds = there_after cs ds

others_stay : (cs ds : Clauses) → ((k : ℕ) → clause_at ds (suc k) ≡ None) → (k : ℕ) → k ≢ length cs
    → clause_at (cs ++ ds) k ≡ clause_at cs k
others_stay [] ds none zero ne = absurd (ne refl)
others_stay [] ds none (suc k) ne = none k
others_stay (c ∷ cs) ds none zero ne = refl
others_stay (c ∷ cs) ds none (suc k) ne = others_stay cs ds none k (λ e. ne (ap suc e))

pub fit-append : (cs ds : Clauses) → ((k : ℕ) (s : Stored) → clause_at cs k ≡ Some s → Fits s)
    → ((k : ℕ) (s : Stored) → clause_at ds k ≡ Some s → Fits s) → (k : ℕ) (s : Stored)
    → clause_at (cs ++ ds) k ≡ Some s → Fits s
fit-append [] ds all more k s e = more k s e
fit-append (c ∷ cs) ds all more zero s e = all zero s e
fit-append (c ∷ cs) ds all more (suc k) s e = fit-append cs ds (λ k s e. all (suc k) s e) more k s e

fresh_fits : (lits : List Literal) (number : ℕ) → number < dead → AreIndexed lits → (k : ℕ) (s : Stored)
    → clause_at (clauses_of 0 (words_of lits number)) k ≡ Some s → Fits s
fresh_fits lits number small indexed zero s e =
    let is : Some (fresh lits number) ≡ Some s = sym (first_is lits number small) ∙ e in
    let fits : Fits (fresh lits number) =
    record { lits = indexed } in
    subst Fits (cc is) fits
fresh_fits lits number small indexed (suc k) s e =
    let is : None ≡ Some s = sym (none_after lits number k) ∙ e in
    absurd (cc is)

pub adds : (ws us : List ℕ) (lits : List Literal) (number clause : ℕ) → AreWords ws → number < dead
    → us ≡ ws ++ words_of lits number → clause ≡ length ws
    → Adds (clauses_of 0 ws) (clauses_of 0 us) clause (fresh lits number)
adds ws us lits number clause words small us_is clause_is =
    let cs = clauses_of 0 ws in
    let ds = clauses_of 0 (words_of lits number) in
    let is : clauses_of 0 us ≡ cs ++ ds =
    ap (λ (vs : List ℕ). clauses_of 0 vs) us_is ∙ clauses-append 0 ws (words_of lits number) words.whole in
    let len = length-clauses 0 ws in
    record {
      at_end = clause_is ∙ sym len;
      longer =
          let long = ap (λ (c : Clauses). length c) is in
          omega (arith, long, length-append cs ds, length-clauses 0 (words_of lits number));
      there = rw (is, clause_is, ← len) (there_after cs ds ∙ first_is lits number small);
      others = λ k ne. ap (λ (c : Clauses). clause_at c k) is
          ∙ others_stay cs ds (none_after lits number) k (λ e. ne (e ∙ (len ∙ sym clause_is)));
    }

pub add-words : (ws us : List ℕ) (lits : List Literal) (number : ℕ) → AreWords ws → number < dead
    → length us < 2 ^ 32 → us ≡ ws ++ words_of lits number → AreIndexed lits → AreWords us
add-words ws us lits number words small few us_is indexed =
    let is : clauses_of 0 us ≡ clauses_of 0 ws ++ clauses_of 0 (words_of lits number) =
    ap (λ (vs : List ℕ). clauses_of 0 vs) us_is ∙ clauses-append 0 ws (words_of lits number) words.whole in
    record {
      whole = ap (λ (vs : List ℕ). lacking 0 vs) us_is
          ∙ (lacking-append 0 ws (words_of lits number) words.whole ∙ all_there lits);
      few = few;
      fit = λ k s e. fit-append (clauses_of 0 ws) (clauses_of 0 (words_of lits number)) words.fit
          (fresh_fits lits number small indexed) k s (ap (λ (c : Clauses). clause_at c k) (sym is) ∙ e);
    }
